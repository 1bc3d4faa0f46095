-- The last of a list to which one more is put.
use Rattle.std.proofs.Common.{◌≡◌, refl, List, [], ◌∷◌, ◌++◌, map}
use Rattle.std.specs.Prelude.{Option, Some}
use Rattle.std.specs.List.{last_or}

pub last_pushed : {A B : Type 0} (f : A → B) (o : Option B) (xs : List A) (x : A) → last_or o (map f (xs ++ x ∷ [])) ≡ Some (f x)
last_pushed f o [] x = refl
last_pushed f o (y ∷ ys) x = last_pushed f (Some (f y)) ys x
