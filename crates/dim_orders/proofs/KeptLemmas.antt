-- Each crossing nesting of a thread stands among what is kept of it.
use Rattle.std.proofs.Common.{◌≡◌, ◌⊎◌, inl, inr, ℕ, suc, ◌==◌, eqb-true, ne_eqb, Bool, true, false, not, if◌then◌else◌, List, [], ◌∷◌, ◌++◌, Some, slice_get, length, map, refl, sym, ap, subst, ◌∙◌, arith}
use Rattle.std.specs.List.{AllByRecursion, filter, flat_map, list_all}
use Rattle.std.proofs.lemmas.Bool.{and_parts, cases_Bool, not_from_false, or_cases}
use Rattle.std.proofs.lemmas.List.Elements.{All-from_recursion, recursion_from_All}
use Rattle.dim_log.specs.declared.log.Event.{Event}
use Rattle.dim_orders.specs.declared.kept.Operation.{Operation}
use Rattle.dim_orders.specs.Own.{doer, own, own_of}
use Rattle.dim_orders.specs.Nestings.{Nesting, are_down, crosses, is_down, nestings}
use Rattle.dim_orders.specs.Sections.{sections}
use Rattle.dim_orders.specs.Crossing.{crossings, has_new, is_among, kept_from}
use Rattle.dim_orders.specs.Lines.{AreOnce, times}
use Rattle.dim_orders.specs.Cycles.{Wait, IsOf}
use Rattle.dim_orders.specs.Kept.{AreKept, CyclesLaw, Line, Stands, has_any, kept_of, line_of}
use Rattle.dim_orders.proofs.Members.{In, contains_from_in, from_flat, in_either, in_filter, in_filtered, in_flat, in_from_contains, in_from_count, in_left, in_right}
use Rattle.dim_orders.proofs.Replays.{closed-append, nestings-append}
use Rattle.dim_orders.proofs.Cutting.{Closed, all_closed, have_all}
use Rattle.dim_orders.proofs.Keys.{among_append, among_in, not_new}
use Rattle.dim_orders.proofs.Around.{Crosses, Down, cycle_crosses}

-- a section, where it is kept
abbrev chosen : Bool → List Operation → List Operation
chosen b s = if b then s else []

chosen_closed : (b : Bool) (s : List Operation) → Closed s → Closed (chosen b s)
chosen_closed true s c = c
chosen_closed false s c = refl

pub kept_closed : (parts : List ℕ) (had : List Nesting) (ss : List (List Operation)) → AllByRecursion Closed ss → Closed (kept_from parts had ss)
kept_closed parts had [] each = refl
kept_closed parts had (s ∷ ss) each =
    closed-append (chosen (has_new had (crossings parts s)) s) (kept_from parts (had ++ crossings parts s) ss)
    (chosen_closed (has_new had (crossings parts s)) s each.0) (kept_closed parts (had ++ crossings parts s) ss each.1)

-- a crossing nesting of a section is among those before it or stands in the section, which is kept
in_section : (parts : List ℕ) (had : List Nesting) (s : List Operation) (n : Nesting) → In n (crossings parts s) → (is_among had n ≡ true) ⊎ In n (nestings (chosen (has_new had (crossings parts s)) s))
in_section parts had s n h =
    elim (cases_Bool (has_new had (crossings parts s))) [
      | inl e ↦ inr (subst (λ (b : Bool). In n (nestings (chosen b s))) (sym e) (in_filtered (crosses parts) n (nestings s) h))
      | inr e ↦ inl (not_new had (crossings parts s) n e h)
    ]

pub kept_has : (parts : List ℕ) (had : List Nesting) (ss : List (List Operation)) (n : Nesting) → AllByRecursion Closed ss → In n (flat_map (crossings parts) ss) → (is_among had n ≡ true) ⊎ In n (nestings (kept_from parts had ss))
kept_has parts had [] n each h = absurd h
kept_has parts had (s ∷ ss) n each h =
    let first = chosen (has_new had (crossings parts s)) s in
    let more = had ++ crossings parts s in
    let rest = kept_from parts more ss in
    let joined : nestings (first ++ rest) ≡ nestings first ++ nestings rest = nestings-append first rest (chosen_closed (has_new had (crossings parts s)) s each.0) in
    let here : In n (crossings parts s) → (is_among had n ≡ true) ⊎ In n (nestings (first ++ rest)) = λ i.
    elim (in_section parts had s n i) [
      | inl a ↦ inl a
      | inr b ↦ inr (subst (In n) (sym joined) (in_left n (nestings first) (nestings rest) b))
    ] in
    elim (in_either n (crossings parts s) (flat_map (crossings parts) ss) h) [
      | inl i ↦ here i
      | inr r ↦ elim (kept_has parts more ss n each.1 r) [
        | inl a ↦ elim (or_cases (is_among had n) (is_among (crossings parts s) n) (sym (among_append had (crossings parts s) n) ∙ a)) [
          | inl b ↦ inl b
          | inr b ↦ here (among_in (crossings parts s) n b)
        ]
        | inr b ↦ inr (subst (In n) (sym joined) (in_right n (nestings first) (nestings rest) b))
      ]
    ]

-- the crossing nestings of sections are those of their nestings that cross
crossing_in : (parts : List ℕ) (ss : List (List Operation)) (n : Nesting) → crosses parts n ≡ true → In n (flat_map nestings ss) → In n (flat_map (crossings parts) ss)
crossing_in parts ss n c h =
    let at = from_flat nestings n ss h in
    in_flat (crossings parts) n at.0 ss at.1 (in_filter (crosses parts) n (nestings at.0) c at.2)

-- a crossing nesting of operations stands among what is kept of them
pub kept_stands : (parts : List ℕ) (os : List Operation) (n : Nesting) → crosses parts n ≡ true → In n (nestings os) → In n (nestings (kept_from parts [] (sections os)))
kept_stands parts os n c h =
    elim (kept_has parts [] (sections os) n (all_closed os) (crossing_in parts (sections os) n c (have_all os n h))) [
      | inl a ↦ absurd (let f : false ≡ true = a in cc)
      | inr b ↦ b
    ]

-- what is kept of threads, one behind the other
flat_closed : (parts : List ℕ) (events : List Event) (ts : List ℕ) → Closed (flat_map (kept_of parts events) ts)
flat_closed parts events [] = refl
flat_closed parts events (t ∷ ts) =
    closed-append (kept_of parts events t) (flat_map (kept_of parts events) ts)
    (kept_closed parts [] (sections (own t events)) (all_closed (own t events))) (flat_closed parts events ts)

flat_stands : (parts : List ℕ) (events : List Event) (t : ℕ) (ts : List ℕ) (n : Nesting) → In t ts → In n (nestings (kept_of parts events t)) → In n (nestings (flat_map (kept_of parts events) ts))
flat_stands parts events t [] n i h = absurd i
flat_stands parts events t (u ∷ us) n i h =
    let first = kept_of parts events u in
    let rest = flat_map (kept_of parts events) us in
    let joined : nestings (first ++ rest) ≡ nestings first ++ nestings rest = nestings-append first rest (kept_closed parts [] (sections (own u events)) (all_closed (own u events))) in
    elim i [
      | inl e ↦ subst (In n) (sym joined) (in_left n (nestings first) (nestings rest) (subst (λ (v : ℕ). In n (nestings (kept_of parts events v))) e h))
      | inr r ↦ subst (In n) (sym joined) (in_right n (nestings first) (nestings rest) (flat_stands parts events t us n r h))
    ]

some_by : (os : List Operation) (n : Nesting) → In n (nestings os) → not (length os == 0) ≡ true
some_by [] n i = absurd i
some_by (o ∷ os) n i = not_from_false (length (o ∷ os) == 0) (ne_eqb (length (o ∷ os)) 0 (omega arith))

-- where there is a nesting there is an operation
some_any : (l : Line) (n : Nesting) → In n (nestings l.operations) → has_any l ≡ true
some_any l n h = some_by l.operations n h

in_map : {X Y : Type 0} (f : X → Y) (x : X) (xs : List X) → In x xs → In (f x) (map f xs)
in_map f x [] h = absurd h
in_map f x (y ∷ ys) (inl e) = inl (ap f e)
in_map f x (y ∷ ys) (inr h) = inr (in_map f x ys h)

-- whose operations there are does something
own_event : (t : ℕ) (events : List Event) (n : Nesting) → In n (nestings (own t events)) → (k : ℕ) × (e : Event) × (slice_get events k ≡ Some e) × (doer e ≡ t)
own_event t [] n h = absurd h
own_event t (e ∷ es) n h =
    elim (cases_Bool (doer e == t)) [
      | inl q ↦ (0, e, refl, eqb-true (doer e) t q)
      | inr q ↦ let none : own_of t e ≡ [] = rw q refl in
          let more = own_event t es n (subst (λ (os : List Operation). In n (nestings (os ++ own t es))) none h) in
          (suc more.0, more.1, more.2, more.3)
    ]

-- a thread that does something is in a line
pub in_line : (t : ℕ) (events : List Event) (lines : List (List ℕ)) (n : Nesting) → AreOnce events lines → In n (nestings (own t events)) → (ts : List ℕ) × In ts lines × In t ts
in_line t events lines n once h =
    let e = own_event t events n h in
    let one : times t lines ≡ 1 = subst (λ (u : ℕ). times u lines ≡ 1) e.3 (once.each e.0 e.1 e.2) in
    from_flat (λ (line : List ℕ). line) t lines (in_from_count t (flat_map (λ (line : List ℕ). line) lines) (omega (arith, one)))

-- a crossing nesting of a thread stands in the chain of its thread
pub stands : (events : List Event) (chains : List Line) (k : AreKept events chains) (w : Wait) → crosses k.parts w.nesting ≡ true → IsOf events w → Stands chains w
stands events chains k w c own_it =
    let n = w.nesting in
    let i = in_from_contains (nestings (own w.thread events)) n own_it in
    let kept = kept_stands k.parts (own w.thread events) n c i in
    let at = in_line w.thread events k.lines n k.once i in
    let line = line_of k.parts events at.0 in
    let there = flat_stands k.parts events w.thread at.0 n at.2 kept in
    let among : In line (filter has_any (map (line_of k.parts events) k.lines)) =
    in_filter has_any line (map (line_of k.parts events) k.lines) (some_any line n there) (in_map (line_of k.parts events) at.0 k.lines at.1) in
    record {
      chain = line;
      among = contains_from_in chains line (subst (In line) (sym k.made) among);
      thread = contains_from_in at.0 w.thread at.2;
      nesting = contains_from_in (nestings line.operations) n there;
    }

down_each : (events : List Event) (parts : List ℕ) → ((t : ℕ) → are_down parts (own t events) ≡ true) → (ws : List Wait) → AllByRecursion (IsOf events) ws → AllByRecursion (Down parts) ws
down_each events parts down [] each = tt
down_each events parts down (w ∷ ws) each =
    (all_down (is_down parts) (nestings (own w.thread events)) w.nesting (down w.thread) (in_from_contains (nestings (own w.thread events)) w.nesting each.0), down_each events parts down ws each.1)
  where
    all_down : {X : Type 0} (p : X → Bool) (xs : List X) (x : X) → list_all p xs ≡ true → In x xs → p x ≡ true
    all_down p [] x e h = absurd h
    all_down p (y ∷ ys) x e (inl q) = subst (λ z. p z ≡ true) (sym q) (and_parts (p y) (list_all p ys) e).0
    all_down p (y ∷ ys) x e (inr h) = all_down p ys x (and_parts (p y) (list_all p ys) e).1 h

stand_each : (events : List Event) (chains : List Line) (k : AreKept events chains) (ws : List Wait) → AllByRecursion (Crosses k.parts) ws → AllByRecursion (IsOf events) ws → AllByRecursion (Stands chains) ws
stand_each events chains k [] cross each = tt
stand_each events chains k (w ∷ ws) cross each = (stands events chains k w cross.0 each.0, stand_each events chains k ws cross.1 each.1)

-- each nesting of a cycle stands in the chain of its thread
pub cycles : (events : List Event) (chains : List Line) → AreKept events chains → CyclesLaw events chains
cycles events chains k = λ ws cycle each.
    let of = recursion_from_All (IsOf events) ws each in
    All-from_recursion (Stands chains) ws
    (stand_each events chains k ws (cycle_crosses k.parts ws cycle (down_each events k.parts k.down ws of)) of)
