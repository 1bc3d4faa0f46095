-- What is known of each entry of a list that executes a program.
use Rattle.std.proofs.Common.{◌≡◌, ℕ, ◌+◌, subst, List, ◌∷◌, reverse, drop}
use Rattle.std.specs.Prelude.{Some, slice_get}
use Rattle.dim_rag.specs.declared.entry.Entry.{Entry}
use Rattle.dim_rag.specs.History.{past}
use Rattle.dim_rag.specs.Places.{before}
use Rattle.dim_gate.specs.Gate.{Constants}
use Rattle.dim_gate.specs.Legal.{Legal}
use Rattle.dim_gate.proofs.Exports.{earlier, fits}
use Rattle.dim_picture.specs.Told.{AreTold}
use Rattle.dim_picture.proofs.Splitting.{split}

-- the list up to a place, with the entry there
legal_to : (c : Constants) (xs : List Entry) (q : ℕ) (e : Entry) → slice_get xs q ≡ Some e → Legal c (past xs) → Legal c (e ∷ before q xs)
legal_to c xs q e here k = earlier c (reverse (drop (q + 1) xs)) (e ∷ before q xs) (subst (Legal c) (split xs q e here) k)

pub are_told : (c : Constants) (xs : List Entry) → Legal c (past xs) → AreTold c.threads c.locks xs
are_told c xs k q e here =
    let legal = legal_to c xs q e here k in
    record {
      fits = (fits c (e ∷ before q xs) legal).0;
      in_range = legal.0.in_range;
    }
