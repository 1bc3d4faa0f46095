-- The numbers of a nesting tell it, and what is new by them.
use Rattle.std.proofs.Common.{◌≡◌, inl, inr, ℕ, Bool, true, false, ◌||◌, not, cond, if◌then◌else◌, filter, List, [], ◌∷◌, ◌++◌, refl, sym, ap, ap₂, subst, ◌∙◌}
use Rattle.std.specs.Prelude.{nat_eq, Vec}
use Rattle.std.specs.declared.alloc.Global.{Global}
use Rattle.std.specs.List.{flat_map, list_any}
use Rattle.std.specs.Cmp.Lexicographic.{pointwise}
use Rattle.std.proofs.lemmas.Bool.{cases_Bool, or_cases, or_parts, not-false}
use Rattle.std.proofs.lemmas.List.{append_assoc, append-nil}
use Rattle.std.proofs.lemmas.List.Folds.{list_any-append}
use Rattle.std.proofs.lemmas.Slice.Eq.{bytes_eq-Decides}
use Rattle.dim_orders.specs.declared.hold.Hold.{Hold}
use Rattle.std.proofs.lemmas.List.Elements.{filter-append}
use Rattle.dim_orders.specs.declared.kept.Operation.{Operation}
use Rattle.dim_orders.specs.Holding.{held_after}
use Rattle.dim_orders.specs.Nestings.{Nesting, asked, crosses, nesting, nestings_from, waits}
use Rattle.dim_orders.specs.Crossing.{Adds, IsTable, crossings, has_new, is_among, kept_from, key}
use Rattle.dim_orders.proofs.Members.{In}

head_is : (a b : ℕ) (xs ys : List ℕ) → a ∷ xs ≡ b ∷ ys → a ≡ b
head_is a b xs ys e = cc

tail_is : (a b : ℕ) (xs ys : List ℕ) → a ∷ xs ≡ b ∷ ys → xs ≡ ys
tail_is a b xs ys e = cc

abbrev spelled : List Hold → List ℕ
spelled hs = flat_map (λ h. h.lock ∷ h.stack ∷ []) hs

hold_is : (g h : Hold) → g.lock ≡ h.lock → g.stack ≡ h.stack → g ≡ h
hold_is g h p q = ap₂ (λ (a b : ℕ). record { lock = a; stack = b }) p q

holds_are : (gs hs : List Hold) → spelled gs ≡ spelled hs → gs ≡ hs
holds_are [] [] e = refl
holds_are [] (h ∷ hs) e = cc
holds_are (g ∷ gs) [] e = cc
holds_are (g ∷ gs) (h ∷ hs) e =
    let after = tail_is g.lock h.lock (g.stack ∷ spelled gs) (h.stack ∷ spelled hs) e in
    ap₂ (λ (x : Hold) (xs : List Hold). x ∷ xs)
    (hold_is g h (head_is g.lock h.lock (g.stack ∷ spelled gs) (h.stack ∷ spelled hs) e) (head_is g.stack h.stack (spelled gs) (spelled hs) after))
    (holds_are gs hs (tail_is g.stack h.stack (spelled gs) (spelled hs) after))

-- two nestings with the same numbers are one
pub key_tells : (n m : Nesting) → key n ≡ key m → n ≡ m
key_tells n m e =
    let after = tail_is n.lock m.lock (n.stack ∷ spelled n.held) (m.stack ∷ spelled m.held) e in
    let lock = head_is n.lock m.lock (n.stack ∷ spelled n.held) (m.stack ∷ spelled m.held) e in
    let stack = head_is n.stack m.stack (spelled n.held) (spelled m.held) after in
    let held = holds_are n.held m.held (tail_is n.stack m.stack (spelled n.held) (spelled m.held) after) in
    (λ j. record { held = held j; lock = lock j; stack = stack j })

same_is : (n m : Nesting) → pointwise nat_eq (key n) (key m) ≡ true → n ≡ m
same_is n m e = key_tells n m ((bytes_eq-Decides (key n) (key m)).0 e)

-- what is among some is one of them
pub among_in : (had : List Nesting) (n : Nesting) → is_among had n ≡ true → In n had
among_in [] n e = absurd (let f : false ≡ true = e in cc)
among_in (m ∷ ms) n e =
    elim (or_cases (pointwise nat_eq (key n) (key m)) (is_among ms n) e) [
      | inl q ↦ inl (same_is n m q)
      | inr r ↦ inr (among_in ms n r)
    ]

pub among_append : (xs ys : List Nesting) (n : Nesting) → is_among (xs ++ ys) n ≡ (is_among xs n || is_among ys n)
among_append xs ys n = list_any-append (λ (m : Nesting). pointwise nat_eq (key n) (key m)) xs ys

-- what has nothing new is among what was there
pub not_new : (had ns : List Nesting) (n : Nesting) → has_new had ns ≡ false → In n ns → is_among had n ≡ true
not_new had [] n e h = absurd h
not_new had (m ∷ ms) n e h =
    let parts = or_parts (not (is_among had m)) (has_new (had ++ m ∷ []) ms) e in
    let here : is_among had m ≡ true = not-false (is_among had m) parts.0 in
    elim h [
      | inl q ↦ subst (λ (x : Nesting). is_among had x ≡ true) (sym q) here
      | inr r ↦ elim (or_cases (is_among had n) (is_among (m ∷ []) n) (sym (among_append had (m ∷ []) n) ∙ not_new (had ++ m ∷ []) ms n parts.1 r)) [
        | inl a ↦ a
        | inr b ↦ elim (among_in (m ∷ []) n b) [
          | inl q ↦ subst (λ (x : Nesting). is_among had x ≡ true) (sym q) here
          | inr none ↦ absurd none
        ]
      ]
    ]

-- what is new in one list and then in another
pub has_new-append : (had xs ys : List Nesting) → has_new had (xs ++ ys) ≡ (has_new had xs || has_new (had ++ xs) ys)
has_new-append had [] ys = ap (λ (ns : List Nesting). has_new ns ys) (sym (append-nil had))
has_new-append had (x ∷ xs) ys =
    ap (λ (b : Bool). not (is_among had x) || b) (has_new-append (had ++ x ∷ []) xs ys
    ∙ ap (λ (ns : List Nesting). has_new (had ++ x ∷ []) xs || has_new ns ys) (append_assoc had (x ∷ []) xs))
    ∙ or_assoc (not (is_among had x)) (has_new (had ++ x ∷ []) xs) (has_new (had ++ x ∷ xs) ys)
  where
    or_assoc : (a b c : Bool) → (a || (b || c)) ≡ ((a || b) || c)
    or_assoc true b c = refl
    or_assoc false b c = refl

-- a table of nestings grows step by step
pub adds_none : (keys : List (Vec ℕ Global)) → Adds keys keys [] false
adds_none keys had table = (subst (λ (ns : List Nesting). IsTable ns keys) (sym (append-nil had)) table, refl)

pub adds_more : (a b c : List (Vec ℕ Global)) (xs ys : List Nesting) (p q : Bool) → Adds a b xs p → Adds b c ys q → Adds a c (xs ++ ys) (p || q)
adds_more a b c xs ys p q first second had table =
    let one = first had table in
    let two = second (had ++ xs) one.0 in (
      subst (λ (ns : List Nesting). IsTable ns c) (append_assoc had xs ys) two.0,
      ap₂ (λ (u v : Bool). u || v) one.1 two.1 ∙ sym (has_new-append had xs ys),
    )

pw_comm : (xs ys : List ℕ) → pointwise nat_eq xs ys ≡ pointwise nat_eq ys xs
pw_comm xs ys =
    elim (cases_Bool (pointwise nat_eq xs ys)) [
      | inl e ↦ e ∙ sym ((bytes_eq-Decides ys xs).1 (sym ((bytes_eq-Decides xs ys).0 e)))
      | inr e ↦ elim (cases_Bool (pointwise nat_eq ys xs)) [
        | inl f ↦ absurd (let g : true ≡ false = sym ((bytes_eq-Decides xs ys).1 (sym ((bytes_eq-Decides ys xs).0 f))) ∙ e in cc)
        | inr f ↦ e ∙ sym f
      ]
    ]

chosen_or : (a b : Bool) → cond a true b ≡ (b || (a || false))
chosen_or true true = refl
chosen_or true false = refl
chosen_or false true = refl
chosen_or false false = refl

pub or_none : (a b : Bool) → b ≡ false → (a || b) ≡ a
or_none true b e = refl
or_none false b e = e

-- one nesting more
pub adds_one : (old new : List (Vec ℕ Global)) (k : Vec ℕ Global) (n : Nesting) (b : Bool) → k.items ≡ key n
    → ((q : Vec ℕ Global) → list_any (λ (a : Vec ℕ Global). pointwise nat_eq q.items a.items) new ≡ cond (pointwise nat_eq k.items q.items) true (list_any (λ (a : Vec ℕ Global). pointwise nat_eq q.items a.items) old))
    → b ≡ not (list_any (λ (a : Vec ℕ Global). pointwise nat_eq k.items a.items) old)
    → Adds old new (n ∷ []) b
adds_one old new k n b e updates added had table = (
  λ q. updates q
      ∙ ap₂ (λ (u v : Bool). cond u true v) (ap (λ (xs : List ℕ). pointwise nat_eq xs q.items) e ∙ pw_comm (key n) q.items) (table q)
      ∙ chosen_or (pointwise nat_eq q.items (key n)) (list_any (λ (m : Nesting). pointwise nat_eq q.items (key m)) had)
      ∙ sym (list_any-append (λ (m : Nesting). pointwise nat_eq q.items (key m)) had (n ∷ [])),
  added ∙ ap not (table k ∙ ap (λ (xs : List ℕ). list_any (λ (m : Nesting). pointwise nat_eq xs (key m)) had) e)
      ∙ sym (or_none (not (is_among had n)) false refl),
)

pub asked_crossing : (parts : List ℕ) (held : List Hold) (o : Operation) → waits held o ≡ true → crosses parts (nesting held o) ≡ true → filter (crosses parts) (asked held o) ≡ nesting held o ∷ []
asked_crossing parts held o w x = rw w (rw x refl)

-- one operation of a section
pub adds_step : (parts : List ℕ) (whole : List Nesting) (old mid new : List (Vec ℕ Global)) (held held' : List Hold) (o : Operation) (all rest : List Operation) (done : List Nesting) (p q r : Bool)
    → Adds old mid done p → done ++ filter (crosses parts) (nestings_from held all) ≡ whole → all ≡ o ∷ rest
    → Adds mid new (filter (crosses parts) (asked held o)) q → held' ≡ held_after held o → (p || q) ≡ r
    → (ns : List Nesting) × Adds old new ns r × (ns ++ filter (crosses parts) (nestings_from held' rest) ≡ whole)
adds_step parts whole old mid new held held' o all rest done p q r first e split second after is =
    let here = filter (crosses parts) (asked held o) in
    let behind = filter (crosses parts) (nestings_from (held_after held o) rest) in (
      done ++ here,
      subst (Adds old new (done ++ here)) is (adds_more old mid new done here p q first second),
      ap (λ (hs : List Hold). (done ++ here) ++ filter (crosses parts) (nestings_from hs rest)) after
          ∙ append_assoc done here behind
          ∙ ap (λ (ns : List Nesting). done ++ ns) (sym (filter-append (crosses parts) (asked held o) (nestings_from (held_after held o) rest)))
          ∙ ap (λ (os : List Operation). done ++ filter (crosses parts) (nestings_from held os)) (sym split)
          ∙ e,
    )

-- all of a section
pub adds_all : (parts : List ℕ) (whole : List Nesting) (old new : List (Vec ℕ Global)) (held : List Hold) (rest : List Operation) (done : List Nesting) (p : Bool) → Adds old new done p → done ++ filter (crosses parts) (nestings_from held rest) ≡ whole → rest ≡ [] → Adds old new whole p
adds_all parts whole old new held rest done p adds e none =
    subst (λ (ns : List Nesting). Adds old new ns p)
    (sym (append-nil done) ∙ ap (λ (os : List Operation). done ++ filter (crosses parts) (nestings_from held os)) (sym none) ∙ e) adds

-- one section
pub keeps_step : (parts : List ℕ) (whole kept kept' s : List Operation) (ss : List (List Operation)) (had : List Nesting) (old new : List (Vec ℕ Global)) (all : List (List Operation)) (b : Bool)
    → IsTable had old → kept ++ kept_from parts had all ≡ whole → all ≡ s ∷ ss
    → Adds old new (crossings parts s) b → kept' ≡ kept ++ (if b then s else [])
    → (ns : List Nesting) × IsTable ns new × (kept' ++ kept_from parts ns ss ≡ whole)
keeps_step parts whole kept kept' s ss had old new all b table e split adds more =
    let added = adds had table in
    let after = had ++ crossings parts s in (
      after,
      added.0,
      ap (λ (os : List Operation). os ++ kept_from parts after ss) (more ∙ ap (λ (u : Bool). kept ++ (if u then s else [])) added.1)
          ∙ append_assoc kept (if has_new had (crossings parts s) then s else []) (kept_from parts after ss)
          ∙ ap (λ (l : List (List Operation)). kept ++ kept_from parts had l) (sym split)
          ∙ e,
    )
