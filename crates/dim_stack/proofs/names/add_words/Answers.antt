use Rattle.std.proofs.Common.{◌≡◌, ◌+◌, ◌++◌, ◌∷◌, [], take, sym, ◌∙◌, ap, rules}
use Rattle.std.proofs.lemmas.List.{take_more}
use Rattle.dim_stack.proofs.TableLemmas.{one_more}
use Rattle.dim_stack.proofs.names.add_words.Goals as goal

pub loop-word-preserved : goal.loop-word-preserved
loop-word-preserved c =
    let word : c.in_ok-of.field-0 ≡ c.word-item.result = search rules in
    let more : take (c.loop-word.word-index + 1) c.args.words.now ≡ take c.loop-word.word-index c.args.words.now ++ c.in_ok-of.field-0 ∷ [] =
    take_more c.args.words.now c.loop-word.word-index c.word-item.result c.loop-word-test.true ∙ ap (λ w. take c.loop-word.word-index c.args.words.now ++ w ∷ []) (sym c.word-item.is ∙ sym word) in
    rw more (one_more c.args.table.now.keys (take c.loop-word.word-index c.args.words.now) c.loop-word.table.keys c.insert.new.self.keys c.in_ok-of.field-0 c.loop-word.invariant c.in_ok-insert.ensures.updates.0)
