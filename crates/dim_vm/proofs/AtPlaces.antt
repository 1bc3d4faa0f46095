-- Walks and configurations, place by place.
use Rattle.std.proofs.Common.{◌≡◌, ◌↔◌, ℕ, zero, suc, ◌+◌, ◌<◌, refl, ap, sym, ◌∙◌, subst, inl, inr, List, [], ◌∷◌, ◌++◌, length, arith}
use Rattle.std.specs.Prelude.{Some, slice_get, reverse, take}
use Rattle.std.proofs.lemmas.List.{reverse-reverse, reverse-append}
use Rattle.std.proofs.lemmas.Option.{same_Some}
use Rattle.dim_rag.specs.declared.entry.Entry.{Entry}
use Rattle.dim_rag.specs.History.{past}
use Rattle.dim_rag.specs.Places.{before}
use Rattle.dim_rag.proofs.Exports.{newest_at, older_at, place_cases, before_older, before_newest, older_low}
use Rattle.dim_rag.specs.Tables.{caller_of}
use Rattle.dim_vm.specs.Configuration.{led}
use Rattle.dim_vm.specs.Fitting.{FitsOwn, OwnWalk}
use Rattle.dim_vm.specs.Walks.{Walks, FitsCaller}
use Rattle.dim_vm.specs.Places.{WalkLaw, LedLaw}

-- a recursion that asks something of each entry, after those before it, asks it at each place
module _ (Asks : List Entry → Entry → Type 0) (All : List Entry → Type 0) (start : All []) (split : (e : Entry) (h : List Entry) → All (e ∷ h) → Asks h e × All h) (join : (e : Entry) (h : List Entry) → Asks h e → All h → All (e ∷ h)) where
  abbrev AtEach : List Entry → Type 0
  AtEach entries = (place : ℕ) (e : Entry) → slice_get entries place ≡ Some e → Asks (before place entries) e

  into : (h : List Entry) → All h → AtEach (reverse h)
  into [] a place e at = absurd (cc)
  into (x ∷ h) a place e at = elim (place_cases x h place e at) [
    | inl w ↦
        let same : before place (reverse (x ∷ h)) ≡ h = ap (λ n. before n (reverse (x ∷ h))) w.0 ∙ before_newest x h in
        subst (λ (y : Entry). Asks (before place (reverse (x ∷ h))) y) (sym w.1) (subst (λ (g : List Entry). Asks g x) (sym same) (split x h a).0)
    | inr w ↦ subst (λ (g : List Entry). Asks g e) (sym (before_older x h place (omega (arith, w.0)))) (into h (split x h a).1 place e w.1)
  ]

  out : (h : List Entry) → AtEach (reverse h) → All h
  out [] k = start
  out (x ∷ h) k = join x h (subst (λ (g : List Entry). Asks g x) (before_newest x h) (k (length h) x (newest_at x h))) (out h older)
    where
      older : AtEach (reverse h)
      older place e at =
          let l : place < length h = older_low h place e at in
          subst (λ (g : List Entry). Asks g e) (before_older x h place (omega (arith, l))) (k place e (older_at x h place l ∙ at))

  at_each : (entries : List Entry) → All (past entries) ↔ AtEach entries
  at_each entries = (
    λ a. subst AtEach (reverse-reverse entries) (into (past entries) a),
    λ k. out (past entries) (subst AtEach (sym (reverse-reverse entries)) k),
  )

pub walk_law : WalkLaw
walk_law = record {
  walks = λ p fuel entries. at_each (λ h e. FitsCaller p fuel h e (caller_of e)) (Walks p fuel) tt (λ e h a. a) (λ e h a b. (a, b)) entries;
  own = λ p t fuel own. at_each (λ h e. FitsOwn p (led p t fuel h) e) (OwnWalk p t fuel) tt (λ e h a. a) (λ e h a b. (a, b)) own;
}

past_cons : (x : Entry) (xs : List Entry) → past (x ∷ xs) ≡ past xs ++ x ∷ []
past_cons x xs = reverse-append (x ∷ []) xs

-- the entry at a place is the newest of those up to it
up_to : (entries : List Entry) (place : ℕ) (e : Entry) → slice_get entries place ≡ Some e → before (suc place) entries ≡ e ∷ before place entries
up_to [] place e at = absurd (cc)
up_to (x ∷ xs) zero e at = ap (λ (y : Entry). y ∷ []) (same_Some x e at)
up_to (x ∷ xs) (suc n) e at =
    past_cons x (take (suc n) xs) ∙ ap (λ (h : List Entry). h ++ x ∷ []) (up_to xs n e at) ∙ ap (λ (h : List Entry). e ∷ h) (sym (past_cons x (take n xs)))

suc_is : (n : ℕ) → suc n ≡ n + 1
suc_is n = omega arith

pub led_law : LedLaw
led_law = record {
  first = λ p t fuel own. refl;
  next = λ p t fuel own place e at. ap (led p t fuel) (subst (λ n. before n own ≡ e ∷ before place own) (suc_is place) (up_to own place e at));
}
