-- What holds of all attempts, and of all depths.
use Rattle.std.specs.Prelude.{◌≡◌, ℕ, zero, suc, ◌+◌, ◌≤◌, List, map, slice_get, Some}
use mathlib.Core.List.{IsPrefix}
use Rattle.dim_asm.specs.Code.{Code}
use Rattle.dim_rag.specs.declared.entry.Entry.{Entry}
use Rattle.dim_signature.specs.Sig.{Sig, counted}
use Rattle.dim_gate.specs.Gate.{Constants}
use Rattle.dim_gate.specs.Legal.{Legal}
use Rattle.dim_schedule.specs.declared.settings.Settings.{Settings}
use Rattle.dim_run.specs.Grown.{yields_of}
use Rattle.dim_run.specs.Run.{played}
use Rattle.dim_tune.specs.Attempts.{sigs_after}
use Rattle.dim_tune.specs.Depths.{at_depth, IsLeastDepth}

-- no attempt loses a signature or changes its stacks: what is known after some attempts keeps its
-- number after one more, and only its yields grow
abbrev pub GrowsLaw : Type 0
GrowsLaw = (p : Code) (s : Settings) (read : List Sig) (i k : ℕ) (x : Sig)
    → slice_get (sigs_after p s read i) k ≡ Some x
    → slice_get (sigs_after p s read (suc i)) k ≡ Some (counted (yields_of k (played p (sigs_after p s read i) s)) x)

-- the stacks of what is known after some attempts are a prefix of those after one more
abbrev pub PrefixLaw : Type 0
PrefixLaw = (p : Code) (s : Settings) (read : List Sig) (i : ℕ)
    → IsPrefix (map (λ x. x.stacks) (sigs_after p s read i)) (map (λ x. x.stacks) (sigs_after p s read (suc i)))

-- how many Yields of the first n attempts name signature k
unfoldable pub all_yields_of : Code → Settings → List Sig → ℕ → ℕ → ℕ
all_yields_of p s read k zero = 0
all_yields_of p s read k (suc i) = all_yields_of p s read k i + yields_of k (played p (sigs_after p s read i) s)

-- each signature that was read is there after n attempts, with the Yields of all of them counted
abbrev pub AllGrownLaw : Type 0
AllGrownLaw = (p : Code) (s : Settings) (read : List Sig) (n k : ℕ) (x : Sig) → slice_get read k ≡ Some x
    → x.yields ≤ 4294967295
    → slice_get (sigs_after p s read n) k ≡ Some (counted (all_yields_of p s read k n) x)

-- a legal history that is legal with signature i at a lesser depth is so at each depth between
abbrev pub BetweenLaw : Type 0
BetweenLaw = (c : Constants) (h : List Entry) (i k m : ℕ) (s : Sig) → slice_get c.loaded i ≡ Some s
    → k ≤ m → m ≤ s.depth → Legal c h → Legal (at_depth i k c) h → Legal (at_depth i m c) h

-- there is one least depth
abbrev pub OneLaw : Type 0
OneLaw = (c : Constants) (h : List Entry) (i d k : ℕ) → IsLeastDepth c h i d → IsLeastDepth c h i k → d ≡ k
