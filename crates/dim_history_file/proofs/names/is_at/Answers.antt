use Rattle.std.proofs.Common.{◌≡◌, ◌<◌, Some, slice_get, length, ap, sym, ◌∙◌, arith}
use Rattle.std.proofs.lemmas.Option.{slice_get-get_or}
use Rattle.std.proofs.lemmas.Slice.Eq.{bytes_eq-Decides}
use Rattle.dim_history_file.proofs.names.is_at.Goals as goal

pub returns-then-place-words : goal.returns-then-place-words
returns-then-place-words c is =
    let words = c.as_slice-words.result.now in
    let word = c.index-words-place.result in
    let within : c.args.place < length words = omega arith in
    let at : slice_get words c.args.place ≡ Some word = slice_get-get_or words c.args.place word within ∙ ap (λ w. Some w) (sym c.index-words-place.is) in
    let same : word ≡ c.args.name.now = sym c.as_slice.ensures ∙ (bytes_eq-Decides c.as_slice.result.now c.args.name.now).0 (sym c.is_word.ensures ∙ is) in
    ap (λ ws. slice_get ws c.args.place) (sym c.as_slice-words.ensures.keys) ∙ at ∙ ap (λ w. Some w) same
