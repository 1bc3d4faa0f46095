use Rattle.std.proofs.Common.{◌<◌, length, Some, ap, sym, ◌∙◌, arith}
use Rattle.std.proofs.lemmas.Option.{slice_get-get_or}
use Rattle.dim_history_file.proofs.Using.{frame_renamed, numbers_length}
use Rattle.dim_history_file.proofs.renaming.Renaming.frame.Goals as goal

pub index-requires : goal.index-requires
index-requires c =
    let r = c.args.self.now in
    omega (arith, numbers_length r.to.now r.from.now r.numbers.items r.right)

pub returns-clause-same : goal.returns-clause-same
returns-clause-same c =
    let r = c.args.self.now in
    let numbers = r.numbers.items in
    let func = c.args.frame.func in
    let within : func < length numbers = omega (arith, numbers_length r.to.now r.from.now numbers r.right) in
    (frame_renamed r.to.now r.from.now numbers r.right c.args.frame c.index.result.now c.requires (slice_get-get_or numbers func c.index.result.now within ∙ ap (λ n. Some n) (sym c.index.ensures))).0

pub returns-clause-within : goal.returns-clause-within
returns-clause-within c =
    let r = c.args.self.now in
    let numbers = r.numbers.items in
    let func = c.args.frame.func in
    let within : func < length numbers = omega (arith, numbers_length r.to.now r.from.now numbers r.right) in
    (frame_renamed r.to.now r.from.now numbers r.right c.args.frame c.index.result.now c.requires (slice_get-get_or numbers func c.index.result.now within ∙ ap (λ n. Some n) (sym c.index.ensures))).1
