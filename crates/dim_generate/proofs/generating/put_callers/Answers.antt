use Rattle.std.proofs.Common.{◌≡◌, ◌+◌, ◌*◌, ap, ◌∙◌, refl, arith}
use Rattle.std.specs.Prelude.{◌%◌}
use Rattle.dim_schedule.specs.Drawn.{word, after}
use Rattle.dim_generate.specs.Drafted.{caller_of, caller_draft, word_in}
use Rattle.dim_generate.proofs.Drawing.{no_functions, functions_grown, one_later, none_taken}
use Rattle.dim_generate.proofs.generating.put_callers.Goals as goal

pub loop-number-init : goal.loop-number-init
loop-number-init c = record { lines = no_functions (caller_of c.args.words.now) _; words = none_taken c.args.words.now }

pub loop-number-preserved : goal.loop-number-preserved
loop-number-preserved c =
    let g = c.args.words.now in
    let n = c.loop-number.number in
    let before = c.loop-number.invariant.words in
    let one : c.next-a.new.words ≡ after (4 * n + 1) g = one_later (4 * n) (4 * n + 1) g _ _ before c.next-a.ensures.left refl in
    let two : c.next-b.new.words ≡ after (4 * n + 2) g = one_later (4 * n + 1) (4 * n + 2) g _ _ one c.next-b.ensures.left (omega arith) in
    let three : c.next-c.new.words ≡ after (4 * n + 3) g = one_later (4 * n + 2) (4 * n + 3) g _ _ two c.next-c.ensures.left (omega arith) in
    let a : c.next-a.result ≡ word_in g (4 * n) = c.next-a.ensures.word ∙ ap word before in
    let b : c.next-b.result ≡ word_in g (4 * n + 1) = c.next-b.ensures.word ∙ ap word one in
    let d : c.next-c.result ≡ word_in g (4 * n + 2) = c.next-c.ensures.word ∙ ap word two in
    let e : c.next-d.result ≡ word_in g (4 * n + 3) = c.next-d.ensures.word ∙ ap word three in
    let is : caller_draft n (c.next-a.result % 32) (c.next-b.result % 32) (c.next-c.result % 32) (c.next-d.result % 32) ≡ caller_of g n =
    ap (λ u. caller_draft n (u % 32) (c.next-b.result % 32) (c.next-c.result % 32) (c.next-d.result % 32)) a
    ∙ ap (λ u. caller_draft n (word_in g (4 * n) % 32) (u % 32) (c.next-c.result % 32) (c.next-d.result % 32)) b
    ∙ ap (λ u. caller_draft n (word_in g (4 * n) % 32) (word_in g (4 * n + 1) % 32) (u % 32) (c.next-d.result % 32)) d
    ∙ ap (λ u. caller_draft n (word_in g (4 * n) % 32) (word_in g (4 * n + 1) % 32) (word_in g (4 * n + 2) % 32) (u % 32)) e in
    record {
      lines = functions_grown (caller_of g) n _ _ _ _ is c.loop-number.invariant.lines c.in_ok-put_caller.ensures;
      words = one_later (4 * n + 3) (4 * (n + 1)) g _ _ three c.next-d.ensures.left (omega arith);
    }
