use Rattle.std.proofs.Common.{◌≡◌, ◌+◌, ◌*◌, ap, ◌∙◌, refl, arith}
use Rattle.dim_schedule.specs.Drawn.{word, after}
use Rattle.dim_generate.specs.Generated.{first_lock, second_lock}
use Rattle.dim_generate.specs.Drafted.{taker_of, taker_draft, word_in}
use Rattle.dim_generate.proofs.Drawing.{no_functions, functions_grown, one_later, none_taken}
use Rattle.dim_generate.proofs.generating.put_takers.Goals as goal

pub loop-number-init : goal.loop-number-init
loop-number-init c = record { lines = no_functions (taker_of c.args.words.now) _; words = none_taken c.args.words.now }

pub loop-number-preserved : goal.loop-number-preserved
loop-number-preserved c =
    let g = c.args.words.now in
    let n = c.loop-number.number in
    let before = c.loop-number.invariant.words in
    let middle : c.next-x.new.words ≡ after (2 * n + 1) g = one_later (2 * n) (2 * n + 1) g _ _ before c.next-x.ensures.left refl in
    let v : c.next-x.result ≡ word_in g (2 * n) = c.next-x.ensures.word ∙ ap word before in
    let w : c.next.result ≡ word_in g (2 * n + 1) = c.next.ensures.word ∙ ap word middle in
    let is : taker_draft n (first_lock c.next-x.result) (second_lock c.next-x.result c.next.result) ≡ taker_of g n =
    ap (λ u. taker_draft n (first_lock u) (second_lock u c.next.result)) v ∙ ap (λ u. taker_draft n (first_lock (word_in g (2 * n))) (second_lock (word_in g (2 * n)) u)) w in
    record {
      lines = functions_grown (taker_of g) n _ _ _ _ is c.loop-number.invariant.lines c.in_ok-put_taker.ensures;
      words = one_later (2 * n + 1) (2 * (n + 1)) g _ _ middle c.next.ensures.left (omega arith);
    }
