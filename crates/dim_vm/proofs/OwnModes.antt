-- What a thread's own entries say of its mode in a history that fits.
use Rattle.std.proofs.Common.{◌≡◌, ℕ, ◌==◌, Bool, true, false, if◌then◌else◌, List, [], ◌∷◌, length, refl, ap, sym, subst, ◌∙◌, inl, inr, Option, Some, None}
use Rattle.std.proofs.lemmas.Bool.{cases_Bool, eqb-true}
use Rattle.dim_base.specs.declared.Tid.{Tid}
use Rattle.dim_base.specs.declared.Lid.{Lid}
use Rattle.dim_rag.specs.declared.entry.Entry.{Entry}
use Rattle.dim_rag.specs.declared.entry.Entry.TheVariants.{Go, Yield, Got, Free, Took, Miss, End, Break, Learn}
use Rattle.dim_rag.specs.declared.entry.Mode.{Mode}
use Rattle.dim_rag.specs.declared.entry.Mode.TheVariants as modes
use Rattle.dim_rag.specs.History.{is_word_of, latest, latest_wish, Wish, mode, mode_by, mode_of_wish}
use Rattle.dim_rag.specs.Fits.{Fits, IsYielding}
use Rattle.dim_vm.specs.Laws.{SameButBroken}
use Rattle.dim_vm.specs.Walks.{own_of}

module _ (t : ℕ) where
  -- a word of t, or none
  pub mode_word : (e : Entry) (h : List Entry) → is_word_of t e ≡ true → mode t (e ∷ h) ≡ mode_by (e ∷ h)
  mode_word e h w = ap (λ (b : Bool). mode_by (if b then e ∷ h else latest t h)) w

  pub mode_other : (e : Entry) (h : List Entry) → is_word_of t e ≡ false → mode t (e ∷ h) ≡ mode t h
  mode_other e h w = ap (λ (b : Bool). mode_by (if b then e ∷ h else latest t h)) w

  broken_no_yield : (place : ℕ) (o : Option Wish) (l : Lid) (at : ℕ) → mode_of_wish place o ≡ modes.Yielding l at → ⊥
  broken_no_yield place None l at e = cc
  broken_no_yield place (Some w) l at e = cc

  -- what a thread wants that yields
  wish_by : (e : Entry) (h : List Entry) (l : Lid) (place : ℕ) → is_word_of t e ≡ true → mode_by (e ∷ h) ≡ modes.Yielding l place → (w : Wish) × (latest_wish t (e ∷ h) ≡ Some w) × (w.lock ≡ l)
  wish_by (Yield u m s sig births) h l place w e =
      (record { lock = m; stack = s; births = births; place = length h }, ap (λ (b : Bool). if b then Some (record { lock = m; stack = s; births = births; place = length h }) else latest_wish t h) w, cc)
  wish_by (Go u m s) h l place w e = cc
  wish_by (Got u m) h l place w e = cc
  wish_by (Free u m) h l place w e = cc
  wish_by (Took u m s) h l place w e = cc
  wish_by (Miss u m s why) h l place w e = cc
  wish_by (End u why) h l place w e = cc
  wish_by (Break set u) h l place w e = absurd (broken_no_yield (length h) (latest_wish u.0 h) l place e)
  wish_by (Learn births) h l place w e = cc

  wish_other : (e : Entry) (h : List Entry) → is_word_of t e ≡ false → latest_wish t (e ∷ h) ≡ latest_wish t h
  wish_other (Yield u m s sig births) h w = ap (λ (b : Bool). if b then Some (record { lock = m; stack = s; births = births; place = length h }) else latest_wish t h) w
  wish_other (Go u m s) h w = refl
  wish_other (Got u m) h w = refl
  wish_other (Free u m) h w = refl
  wish_other (Took u m s) h w = refl
  wish_other (Miss u m s why) h w = refl
  wish_other (End u why) h w = refl
  wish_other (Break set u) h w = refl
  wish_other (Learn births) h w = refl

  pub wish_is : (h : List Entry) (l : Lid) (place : ℕ) → mode t h ≡ modes.Yielding l place → (w : Wish) × (latest_wish t h ≡ Some w) × (w.lock ≡ l)
  wish_is [] l place e = cc
  wish_is (x ∷ h) l place e =
      elim (cases_Bool (is_word_of t x)) [
        | inl w ↦ wish_by x h l place w (sym (mode_word x h w) ∙ e)
        | inr w ↦ let r = wish_is h l place (sym (mode_other x h w) ∙ e) in (r.0, wish_other x h w ∙ r.1, r.2)
      ]

-- one that is broken out
broken_stands : (m : Mode) (l : Lid) (at place : ℕ) (w : Wish) → SameButBroken m (modes.Yielding l at) → w.lock ≡ l → SameButBroken m (modes.Allowed w.lock place)
broken_stands modes.Running l at place w s e = absurd s
broken_stands (modes.Allowed k birth) l at place w s e = absurd s
broken_stands (modes.Yielding k there) l at place w s e = s ∙ sym e
broken_stands (modes.Ended there) l at place w s e = absurd s

module _ (t : Tid) where
  -- an entry of a thread, among its own and among all
  with_entry : (e : Entry) (own h : List Entry) → SameButBroken (mode t.0 own) (mode t.0 h) → SameButBroken (mode_by (e ∷ own)) (mode_by (e ∷ h))
      → SameButBroken (mode t.0 (if is_word_of t.0 e then e ∷ own else own)) (mode t.0 (e ∷ h))
  with_entry e own h before after =
      elim (cases_Bool (is_word_of t.0 e)) [
        | inl w ↦
            let there : mode t.0 (if is_word_of t.0 e then e ∷ own else own) ≡ mode_by (e ∷ own) = ap (λ (b : Bool). mode t.0 (if b then e ∷ own else own)) w ∙ mode_word t.0 e own w in
            subst (λ m. SameButBroken m (mode t.0 (e ∷ h))) (sym there) (subst (SameButBroken (mode_by (e ∷ own))) (sym (mode_word t.0 e h w)) after)
        | inr w ↦
            let there : mode t.0 (if is_word_of t.0 e then e ∷ own else own) ≡ mode t.0 own = ap (λ (b : Bool). mode t.0 (if b then e ∷ own else own)) w in
            subst (λ m. SameButBroken m (mode t.0 (e ∷ h))) (sym there) (subst (SameButBroken (mode t.0 own)) (sym (mode_other t.0 e h w)) before)
      ]

  with_break : (set : ℕ) (u : Tid) (h : List Entry) (m : Mode) → SameButBroken m (mode t.0 h) → IsYielding u.0 h → SameButBroken m (mode t.0 (Break set u ∷ h))
  with_break set u h m before y =
      elim (cases_Bool (u.0 == t.0)) [
        | inl w ↦
            let same : u.0 ≡ t.0 = eqb-true u.0 t.0 w in
            let yields : mode t.0 h ≡ modes.Yielding y.0 y.1 = subst (λ n. mode n h ≡ modes.Yielding y.0 y.1) same y.2 in
            let wish = wish_is t.0 h y.0 y.1 yields in
            let lands : SameButBroken m (mode_of_wish (length h) (latest_wish t.0 h)) = subst (λ o. SameButBroken m (mode_of_wish (length h) o)) (sym wish.1) (broken_stands m y.0 y.1 (length h) wish.0 (subst (SameButBroken m) yields before) wish.2) in
            subst (SameButBroken m) (sym (mode_word t.0 (Break set u) h w)) (subst (λ n. SameButBroken m (mode_of_wish (length h) (latest_wish n h))) (sym same) lands)
        | inr w ↦ subst (SameButBroken m) (sym (mode_other t.0 (Break set u) h w)) before
      ]

  -- by its own entries a thread stands as by all, save that it yields by its own where it was broken out
  pub own_mode : (h : List Entry) → Fits h → SameButBroken (mode t.0 (own_of t h)) (mode t.0 h)
  own_mode [] f = tt
  own_mode (Go u l s ∷ h) f = with_entry (Go u l s) (own_of t h) h (own_mode h f.1) refl
  own_mode (Yield u l s sig births ∷ h) f = with_entry (Yield u l s sig births) (own_of t h) h (own_mode h f.1) refl
  own_mode (Got u l ∷ h) f = with_entry (Got u l) (own_of t h) h (own_mode h f.1) tt
  own_mode (Free u l ∷ h) f = with_entry (Free u l) (own_of t h) h (own_mode h f.1) tt
  own_mode (Took u l s ∷ h) f = with_entry (Took u l s) (own_of t h) h (own_mode h f.1) tt
  own_mode (Miss u l s why ∷ h) f = with_entry (Miss u l s why) (own_of t h) h (own_mode h f.1) tt
  own_mode (End u why ∷ h) f = with_entry (End u why) (own_of t h) h (own_mode h f.1) tt
  own_mode (Break set u ∷ h) f = with_break set u h (mode t.0 (own_of t h)) (own_mode h f.1) f.0
  own_mode (Learn births ∷ h) f = own_mode h f.1
