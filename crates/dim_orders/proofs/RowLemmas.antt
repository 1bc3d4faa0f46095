-- Lists of lists.
use Rattle.std.proofs.Common.{◌≡◌, inl, inr, ℕ, ◌<◌, ◌==◌, if◌then◌else◌, List, [], ◌∷◌, ◌++◌, Option, length, get_or, set, map, sym, ap, subst, ◌∙◌, arith, eqb-true}
use Rattle.std.specs.Prelude.{Vec}
use Rattle.std.specs.declared.alloc.Global.{Global}
use Rattle.std.specs.List.{Contains}
use Rattle.std.specs.Option.{option_to_list}
use Rattle.std.proofs.lemmas.Bool.{cases_Bool, eqb-false}
use Rattle.std.proofs.lemmas.List.Elements.{Contains-append_left, Contains-push}
use Rattle.std.proofs.lemmas.List.{map-set, get_or-set_same, get_or-set_other, length-map, length_push, get_or-map}
use Rattle.dim_orders.specs.Own.{row}

-- a list within the lists
pub row-at : {X : Type 0} (vs : List (Vec X Global)) (i : ℕ) (d : Vec X Global) → i < length vs → row vs i ≡ (get_or vs i d).items
row-at {X} vs i d lt = get_or-map (λ (v : Vec X Global). v.items) vs i d [] lt

-- a write at one place
pub row-set_same : {X : Type 0} (vs : List (Vec X Global)) (i : ℕ) (v : Vec X Global) → i < length vs → row (set vs i v) i ≡ v.items
row-set_same {X} vs i v lt =
    let f : Vec X Global → List X = λ v. v.items in
    ap (λ (l : List (List X)). get_or l i []) (map-set f vs i v)
    ∙ get_or-set_same (map f vs) i v.items [] (omega (arith, length-map vs f))

pub row-set_other : {X : Type 0} (vs : List (Vec X Global)) (i t : ℕ) (v : Vec X Global) → (t ≡ i → ⊥) → row (set vs i v) t ≡ row vs t
row-set_other {X} vs i t v ne =
    let f : Vec X Global → List X = λ v. v.items in
    ap (λ (l : List (List X)). get_or l t []) (map-set f vs i v)
    ∙ get_or-set_other (map f vs) i t v.items [] ne

-- an item more in one of the lists
pub row-added : {X : Type 0} (vs : List (Vec X Global)) (i t : ℕ) (v : Vec X Global) (x : X) → i < length vs → v.items ≡ row vs i ++ x ∷ [] → row (set vs i v) t ≡ (if t == i then row vs t ++ x ∷ [] else row vs t)
row-added {X} vs i t v x lt e =
    elim (cases_Bool (t == i)) [
      | inl p ↦ rw p (subst (λ (u : ℕ). row (set vs i v) u ≡ row vs u ++ x ∷ []) (sym (eqb-true t i p)) (row-set_same vs i v lt ∙ e))
      | inr p ↦ rw p (row-set_other vs i t v (eqb-false t i p))
    ]

pub row-added_read : {X : Type 0} (vs : List (Vec X Global)) (i t : ℕ) (v d : Vec X Global) (x : X) → i < length vs → v.items ≡ d.items ++ x ∷ [] → d ≡ get_or vs i d → row (set vs i v) t ≡ (if t == i then row vs t ++ x ∷ [] else row vs t)
row-added_read {X} vs i t v d x lt e at =
    row-added vs i t v x lt (e ∙ ap (λ (w : Vec X Global). w.items ++ x ∷ []) at
    ∙ ap (λ (xs : List X). xs ++ x ∷ []) (sym (row-at vs i d lt)))

-- the same of all lists
pub rows-added_read : {X : Type 0} (vs : List (Vec X Global)) (i : ℕ) (v d : Vec X Global) (x : X) → i < length vs → v.items ≡ d.items ++ x ∷ [] → d ≡ get_or vs i d → map (λ (w : Vec X Global). w.items) (set vs i v) ≡ set (map (λ (w : Vec X Global). w.items) vs) i (row vs i ++ x ∷ [])
rows-added_read {X} vs i v d x lt e at =
    let f : Vec X Global → List X = λ w. w.items in
    map-set f vs i v
    ∙ ap (λ (xs : List X). set (map f vs) i xs)
    (e ∙ ap (λ (w : Vec X Global). w.items ++ x ∷ []) at ∙ ap (λ (xs : List X). xs ++ x ∷ []) (sym (row-at vs i d lt)))

-- the last item of one of the lists away
pub row-popped_read : {X : Type 0} (vs : List (Vec X Global)) (i : ℕ) (v d : Vec X Global) (r : Option X) → i < length vs → d.items ≡ v.items ++ option_to_list r → d ≡ get_or vs i d → row vs i ≡ row (set vs i v) i ++ option_to_list r
row-popped_read {X} vs i v d r lt e at =
    row-at vs i d lt ∙ ap (λ (w : Vec X Global). w.items) (sym at) ∙ e
    ∙ ap (λ (xs : List X). xs ++ option_to_list r) (sym (row-set_same vs i v lt))

-- what is in the lists then was in them
pub popped_fewer : {X : Type 0} (old new : List (Vec X Global)) (i : ℕ) (r : Option X) → row old i ≡ row new i ++ option_to_list r → ((t : ℕ) → (t ≡ i → ⊥) → row new t ≡ row old t) → (t : ℕ) (a : X) → Contains (row new t) a → Contains (row old t) a
popped_fewer {X} old new i r popped others t a among =
    elim (cases_Bool (t == i)) [
      | inl p ↦ (let same = eqb-true t i p in
          subst (λ (u : ℕ). Contains (row old u) a) (sym same)
          (subst (λ (xs : List X). Contains xs a) (sym popped)
          (Contains-append_left (row new i) (option_to_list r) a (subst (λ (u : ℕ). Contains (row new u) a) same among))))
      | inr p ↦ subst (λ (xs : List X). Contains xs a) (others t (eqb-false t i p)) among
    ]

-- what was taken was in the list
pub popped_in : {X : Type 0} (old new : List (Vec X Global)) (i : ℕ) (x : X) → row old i ≡ row new i ++ x ∷ [] → Contains (row old i) x
popped_in {X} old new i x popped = subst (λ (xs : List X). Contains xs x) (sym popped) (Contains-push (row new i) x)

pub popped_shorter : {X : Type 0} (old new : List (Vec X Global)) (i : ℕ) (x : X) → row old i ≡ row new i ++ x ∷ [] → length (row new i) < length (row old i)
popped_shorter old new i x popped =
    let more = ap length popped in
    let len = length_push (row new i) x in
    omega (arith, more, len)
