-- What is read of an entry in brief at a place.
use Rattle.std.proofs.Common.{◌≡◌, ◌<◌, ℕ, refl, ◌∙◌, ap, List, length, map, get_or, arith}
use Rattle.std.specs.Prelude.{Some, slice_get, option_map}
use Rattle.std.proofs.lemmas.List.{length-map}
use Rattle.std.proofs.lemmas.Option.{slice_get-map, slice_get_read}
use Rattle.dim_rag.specs.declared.entry.Entry.{Entry}
use Rattle.dim_rag.specs.declared.journal.brief.Brief.{Brief}

-- what g says of the place of what f makes of a list, by the element there
pub at_place : {A : Type 0} (f : Brief → Entry) (g : Entry → A) (bs : List Brief) (i : ℕ) (b : Brief) (o : A) → i < length (map f bs) → b ≡ get_or bs i b → g (f b) ≡ o → slice_get (map g (map f bs)) i ≡ Some o
at_place f g bs i b o low is told =
    let here : slice_get bs i ≡ Some b = slice_get_read bs (length bs) i b refl (omega (arith, low, length-map bs f)) is in
    slice_get-map g (map f bs) i
    ∙ ap (option_map g) (slice_get-map f bs i ∙ ap (option_map f) here)
    ∙ ap Some told
