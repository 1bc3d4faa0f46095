-- No attempt loses a signature, and each run learns what its Learns say.
use Rattle.std.proofs.Common.{◌≡◌, ℕ, zero, suc, ◌+◌, ◌≤◌, refl, ap, ap₂, sym, ◌∙◌, arith, List, [], ◌∷◌, length, map}
use mathlib.Core.List.{IsPrefix}
use Rattle.std.specs.Prelude.{Option, Some, None, min, option_map, slice_get}
use Rattle.std.proofs.lemmas.Option.{none-some, same_Some}
use Rattle.dim_stack.specs.declared.Frame.{Frame}
use Rattle.dim_signature.specs.Sig.{Sig, counted}
use Rattle.std.proofs.lemmas.List.{length-map}
use Rattle.std.proofs.lemmas.Option.{slice_get-map}
use Rattle.dim_rag.specs.declared.entry.Entry.{Entry}
use Rattle.dim_rag.specs.History.{past}
use Rattle.dim_gate.specs.ByPlace.{KnownLaw}
use Rattle.dim_gate.specs.Known.{Known, knowns}
use Rattle.dim_gate.specs.Learns.{learns}
use Rattle.dim_run.specs.Grown.{grown, yields_of, GrownLaw}
use Rattle.dim_run.specs.Run.{played}
use Rattle.dim_asm.specs.Code.{Code}
use Rattle.dim_schedule.specs.declared.settings.Settings.{Settings}
use Rattle.dim_tune.specs.Attempts.{sigs_after}
use Rattle.dim_tune.specs.Laws.{all_yields_of, AllGrownLaw, GrowsLaw, PrefixLaw}
use Rattle.dim_tune.proofs.MadeSteps.{sigs_first, sigs_next}

pub law : GrownLaw → KnownLaw → GrowsLaw
law g k p s read i j x q =
    let sigs = sigs_after p s read i in
    let entries = played p sigs s in
    ap (λ (ys : List Sig). slice_get ys j) (sigs_next p s read i)
    ∙ g.each sigs s.depth entries j x
    (slice_get-map (λ (y : Known). y.sig) (knowns sigs s.depth (past entries)) j
    ∙ ap (λ (o : Option Known). option_map (λ (y : Known). y.sig) o) (k.loaded sigs s.depth (past entries) j x q))

-- a run leaves as many signatures as it loaded and learnt
pub learnt_count : GrownLaw → KnownLaw → (loaded : List Sig) (depth : ℕ) (entries : List Entry) → length (grown loaded depth entries) ≡ length loaded + length (learns (past entries))
learnt_count g k loaded depth entries = g.count loaded depth entries ∙ length-map (knowns loaded depth (past entries)) (λ (y : Known). y.sig) ∙ k.count loaded depth (past entries)

-- a list whose elements stand at their places in another is a prefix of it
prefix_by : {X : Type 0} (a b : List X) → ((k : ℕ) (x : X) → slice_get a k ≡ Some x → slice_get b k ≡ Some x) → IsPrefix a b
prefix_by [] b f = (b, refl)
prefix_by (x ∷ a) [] f = absurd (none-some x (f 0 x refl))
prefix_by (x ∷ a) (y ∷ b) f =
    let rest = prefix_by a b (λ k z q. f (suc k) z q) in
    let same : y ≡ x = same_Some y x (f 0 x refl) in
    (rest.0, ap₂ (λ z zs. z ∷ zs) (sym same) rest.1)

abbrev stacks_of : Sig → List (List Frame)
stacks_of x = x.stacks

same_stacks : (a b : List Sig) (k : ℕ) (x : List (List Frame)) → ((z : Sig) → slice_get a k ≡ Some z → option_map stacks_of (slice_get b k) ≡ Some z.stacks) → slice_get (map stacks_of a) k ≡ Some x → slice_get (map stacks_of b) k ≡ Some x
same_stacks a b k x f q = slice_get-map stacks_of b k ∙ go (slice_get a k) refl (sym (slice_get-map stacks_of a k) ∙ q)
  where
    go : (o : Option Sig) → slice_get a k ≡ o → option_map stacks_of o ≡ Some x → option_map stacks_of (slice_get b k) ≡ Some x
    go None e r = absurd (none-some x r)
    go (Some z) e r = f z e ∙ r

pub prefix_law : GrowsLaw → PrefixLaw
prefix_law g p s read i =
    prefix_by (map stacks_of (sigs_after p s read i)) (map stacks_of (sigs_after p s read (suc i))) (λ k x q.
    same_stacks (sigs_after p s read i) (sigs_after p s read (suc i)) k x (λ z e. ap (λ (o : Option Sig). option_map stacks_of o) (g p s read i k z e)) q)

yields_first : (p : Code) (s : Settings) (read : List Sig) (k : ℕ) → all_yields_of p s read k 0 ≡ 0
unfolding all_yields_of
yields_first p s read k = refl

yields_next : (p : Code) (s : Settings) (read : List Sig) (k i : ℕ) → all_yields_of p s read k (suc i) ≡ all_yields_of p s read k i + yields_of k (played p (sigs_after p s read i) s)
unfolding all_yields_of
yields_next p s read k i = refl

-- yields that are counted twice, and none
counted_twice : (x : Sig) (a b : ℕ) → counted b (counted a x) ≡ counted (a + b) x
counted_twice x a b =
    let e : min (min (x.yields + a) 4294967295 + b) 4294967295 ≡ min (x.yields + (a + b)) 4294967295 = omega arith in
    let f : ℕ → Sig = λ n. record x { yields = n } in
    ap f e

counted_none : (x : Sig) → x.yields ≤ 4294967295 → counted 0 x ≡ x
counted_none x few =
    let e : min (x.yields + 0) 4294967295 ≡ x.yields = omega (arith, few) in
    let f : ℕ → Sig = λ n. record x { yields = n } in
    ap f e

pub all_law : GrowsLaw → AllGrownLaw
all_law g p s read zero k x q few =
    ap (λ (ys : List Sig). slice_get ys k) (sigs_first p s read) ∙ q ∙ ap (λ (y : Sig). Some y) (sym (ap (λ n. counted n x) (yields_first p s read k) ∙ counted_none x few))
all_law g p s read (suc n) k x q few =
    let a = all_yields_of p s read k n in
    let b = yields_of k (played p (sigs_after p s read n) s) in
    g p s read n k (counted a x) (all_law g p s read n k x q few)
    ∙ ap (λ (y : Sig). Some y) (counted_twice x a b ∙ ap (λ m. counted m x) (sym (yields_next p s read k n)))
