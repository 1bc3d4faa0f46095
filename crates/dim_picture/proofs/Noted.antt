-- How many marks there are.
use Rattle.std.proofs.Common.{◌≡◌, refl, ◌∙◌, arith, List, [], ◌∷◌, length}
use Rattle.std.proofs.lemmas.List.{length_push}
use Rattle.dim_rag.specs.declared.entry.Entry.{Entry}
use Rattle.dim_picture.specs.Marks.{mark_of, marks}

pub marks_length : (h : List Entry) → length (marks h) ≡ length h
marks_length [] = refl
marks_length (e ∷ h) = let n = marks_length h in length_push (marks h) (mark_of h e) ∙ omega (arith, n)
