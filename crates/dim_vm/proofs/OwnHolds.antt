-- What a thread's own entries say of its holds and of its wish.
use Rattle.std.proofs.Common.{◌≡◌, ℕ, suc, ◌-◌, ◌==◌, Bool, true, false, ◌&&◌, if◌then◌else◌, List, [], ◌∷◌, length, refl, ap, sym, ◌∙◌, Some, option_map}
use Rattle.dim_base.specs.declared.Tid.{Tid}
use Rattle.dim_base.specs.declared.Lid.{Lid}
use Rattle.dim_stack.specs.declared.Frame.{Frame}
use Rattle.dim_rag.specs.declared.entry.Entry.{Entry}
use Rattle.dim_rag.specs.declared.entry.Entry.TheVariants.{Go, Yield, Got, Free, Took, Miss, End, Break, Learn}
use Rattle.dim_rag.specs.History.{count, latest_wish}
use Rattle.dim_vm.specs.Laws.{without_place}
use Rattle.dim_vm.specs.Walks.{own_of}

module _ (t : Tid) (l : ℕ) where
  -- an entry that changes no count
  kept : (b : Bool) (e : Entry) (own h : List Entry) → count t.0 l (e ∷ own) ≡ count t.0 l own → count t.0 l own ≡ count t.0 l h → count t.0 l (if b then e ∷ own else own) ≡ count t.0 l h
  kept true e own h same before = same ∙ before
  kept false e own h same before = before

  -- one that changes the count of its thread on its lock
  changed : (b : Bool) (e : Entry) (own h : List Entry) (on_it : Bool) (f : ℕ → ℕ) → ((x : List Entry) → count t.0 l (e ∷ x) ≡ (if b && on_it then f (count t.0 l x) else count t.0 l x))
      → count t.0 l own ≡ count t.0 l h → count t.0 l (if b then e ∷ own else own) ≡ count t.0 l (e ∷ h)
  changed true e own h on_it f step before = step own ∙ ap (λ n. if on_it then f n else n) before ∙ back
    where
      back : (if on_it then f (count t.0 l h) else count t.0 l h) ≡ count t.0 l (e ∷ h)
      back = sym (step h)
  changed false e own h on_it f step before = before ∙ sym (step h)

  pub own_holds : (h : List Entry) → count t.0 l (own_of t h) ≡ count t.0 l h
  own_holds [] = refl
  own_holds (Go u m s ∷ h) = kept (u.0 == t.0) (Go u m s) (own_of t h) h refl (own_holds h)
  own_holds (Yield u m s sig births ∷ h) = kept (u.0 == t.0) (Yield u m s sig births) (own_of t h) h refl (own_holds h)
  own_holds (Got u m ∷ h) = changed (u.0 == t.0) (Got u m) (own_of t h) h (m.0 == l) (λ n. 1) (λ x. refl) (own_holds h)
  own_holds (Free u m ∷ h) = changed (u.0 == t.0) (Free u m) (own_of t h) h (m.0 == l) (λ n. n - 1) (λ x. refl) (own_holds h)
  own_holds (Took u m s ∷ h) = changed (u.0 == t.0) (Took u m s) (own_of t h) h (m.0 == l) suc (λ x. refl) (own_holds h)
  own_holds (Miss u m s why ∷ h) = kept (u.0 == t.0) (Miss u m s why) (own_of t h) h refl (own_holds h)
  own_holds (End u why ∷ h) = kept (u.0 == t.0) (End u why) (own_of t h) h refl (own_holds h)
  own_holds (Break set u ∷ h) = own_holds h
  own_holds (Learn births ∷ h) = own_holds h

module _ (t : Tid) where
  -- an entry that is no Yield changes no wish
  kept_wish : (b : Bool) (e : Entry) (own h : List Entry) → latest_wish t.0 (e ∷ own) ≡ latest_wish t.0 own → option_map without_place (latest_wish t.0 own) ≡ option_map without_place (latest_wish t.0 h)
      → option_map without_place (latest_wish t.0 (if b then e ∷ own else own)) ≡ option_map without_place (latest_wish t.0 h)
  kept_wish true e own h kept before = ap (option_map without_place) kept ∙ before
  kept_wish false e own h kept before = before

  new_wish : (b : Bool) (l : Lid) (s : List Frame) (births : List ℕ) (u : Tid) (sig : ℕ) (own h : List Entry) → (u.0 == t.0) ≡ b → option_map without_place (latest_wish t.0 own) ≡ option_map without_place (latest_wish t.0 h)
      → option_map without_place (latest_wish t.0 (if b then Yield u l s sig births ∷ own else own)) ≡ option_map without_place (if b then Some record { lock = l; stack = s; births = births; place = length h } else latest_wish t.0 h)
  new_wish true l s births u sig own h e before = ap (λ (b : Bool). option_map without_place (if b then Some record { lock = l; stack = s; births = births; place = length own } else latest_wish t.0 own)) e
  new_wish false l s births u sig own h e before = before

  pub own_wish : (h : List Entry) → option_map without_place (latest_wish t.0 (own_of t h)) ≡ option_map without_place (latest_wish t.0 h)
  own_wish [] = refl
  own_wish (Yield u l s sig births ∷ h) = new_wish (u.0 == t.0) l s births u sig (own_of t h) h refl (own_wish h)
  own_wish (Go u l s ∷ h) = kept_wish (u.0 == t.0) (Go u l s) (own_of t h) h refl (own_wish h)
  own_wish (Got u l ∷ h) = kept_wish (u.0 == t.0) (Got u l) (own_of t h) h refl (own_wish h)
  own_wish (Free u l ∷ h) = kept_wish (u.0 == t.0) (Free u l) (own_of t h) h refl (own_wish h)
  own_wish (Took u l s ∷ h) = kept_wish (u.0 == t.0) (Took u l s) (own_of t h) h refl (own_wish h)
  own_wish (Miss u l s why ∷ h) = kept_wish (u.0 == t.0) (Miss u l s why) (own_of t h) h refl (own_wish h)
  own_wish (End u why ∷ h) = kept_wish (u.0 == t.0) (End u why) (own_of t h) h refl (own_wish h)
  own_wish (Break set u ∷ h) = own_wish h
  own_wish (Learn births ∷ h) = own_wish h
