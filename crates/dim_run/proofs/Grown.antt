-- Yields that are counted one by one, and the numbers that the Yields of a legal history name.
use Rattle.std.proofs.Common.{◌≡◌, ℕ, zero, suc, ◌+◌, ◌<◌, ◌≤◌, min, Bool, false, cond, eqb, refl, ap, sym, ◌∙◌, subst, inl, inr, arith, List, [], ◌∷◌, ◌++◌, length, map, take, get_or, reverse, Option, Some, None}
use Rattle.std.specs.Prelude.{IfSome, slice_get, option_map}
use Rattle.std.specs.List.{AllByRecursion}
use Rattle.std.proofs.lemmas.Bool.{cases_Bool, eqb-true, eq-eqb}
use Rattle.std.proofs.lemmas.List.{length-append, length-map, reverse-append}
use Rattle.std.proofs.lemmas.List.Elements.{recursion_from_All}
use Rattle.std.proofs.lemmas.List.Filters.{length-filter_more}
use Rattle.std.proofs.lemmas.Option.{MatchOption-at_some, slice_get_within, slice_get-get_or, slice_get-map, same_Some}
use Rattle.dim_rag.specs.declared.entry.Edge.{Edge}
use Rattle.dim_rag.specs.declared.entry.Entry.{Entry}
use Rattle.dim_rag.specs.declared.entry.Entry.TheVariants.{Go, Yield, Got, Free, Took, Miss, End, Break, Learn}
use Rattle.dim_rag.specs.Born.{edge_after}
use Rattle.dim_rag.specs.History.{past}
use Rattle.dim_rag.specs.Tables.{Replay}
use Rattle.dim_rag.specs.Yielded.{yielded}
use Rattle.dim_signature.specs.Sig.{Sig, IsSig, counted}
use Rattle.dim_signature.specs.Catalogue.{IsCatalogue, changed_at}
use Rattle.dim_cover.specs.Named.{with_new, IsNamed}
use Rattle.dim_cover.proofs.Exports.{named_law}
use Rattle.dim_gate.specs.Gate.{Gate, Constants, constants, replay}
use Rattle.dim_gate.specs.Known.{Known, knowns, known_sigs, learnt}
use Rattle.dim_gate.specs.Legal.{Legal, IsLegalAfter}
use Rattle.dim_gate.proofs.Exports.{legal_yield}
use Rattle.dim_run.specs.Grown.{is_yield_of, yields_of, counted_from, grown, GrownLaw, YieldsNameOneOf, with_yield}

-- ---- counting
-- where the later numbers are named as often, the counts are the same
same_from : (es fs : List Entry) (k : ℕ) (ss : List Sig) → ((i : ℕ) → k ≤ i → yields_of i fs ≡ yields_of i es) → counted_from k fs ss ≡ counted_from k es ss
same_from es fs k [] f = refl
same_from es fs k (s ∷ ss) f =
    ap (λ n. counted n s ∷ counted_from (k + 1) fs ss) (f k (omega arith))
    ∙ ap (λ xs. counted (yields_of k es) s ∷ xs) (same_from es fs (k + 1) ss (λ i low. f i (omega (arith, low))))

-- a count and one more
twice : (n : ℕ) (s : Sig) → counted 1 (counted n s) ≡ counted (n + 1) s
twice n s =
    let e : min (min (s.yields + n) 4294967295 + 1) 4294967295 ≡ min (s.yields + (n + 1)) 4294967295 = omega arith in
    ap (λ y. record s { yields = y }) e

-- a count of none
none_more : (s : Sig) → IsSig s → counted 0 s ≡ s
none_more s is =
    let top : s.yields ≤ 4294967295 = is.yields in
    let e : min (s.yields + 0) 4294967295 ≡ s.yields = omega (arith, top) in
    ap (λ y. record s { yields = y }) e

-- before the first entry
nothing_from : (k : ℕ) (ss : List Sig) → AllByRecursion IsSig ss → ss ≡ counted_from k [] ss
nothing_from k [] a = refl
nothing_from k (s ∷ ss) a = ap (λ x. x ∷ ss) (sym (none_more s a.0)) ∙ ap (λ xs. counted 0 s ∷ xs) (nothing_from (k + 1) ss a.1)

pub count_first : (ss : List Sig) → IsCatalogue ss → ss ≡ counted_from 0 [] ss
count_first ss is = nothing_from 0 ss (recursion_from_All IsSig ss is.in_range)

length_counted : (k : ℕ) (es : List Entry) (ss : List Sig) → length (counted_from k es ss) ≡ length ss
length_counted k es [] = refl
length_counted k es (s ∷ ss) = ap suc (length_counted (k + 1) es ss)

-- one where a test holds
abbrev one_if : Bool → ℕ
one_if b = cond b 1 0

hit : (j m : ℕ) → j ≡ m → one_if (eqb j m) ≡ 1
hit j m e = ap one_if (eq-eqb j m e)

missed : (j m : ℕ) → (j ≡ m → ⊥) → one_if (eqb j m) ≡ 0
missed j m other = elim (cases_Bool (eqb j m)) [
  | inl q ↦ absurd (other (eqb-true j m q))
  | inr q ↦ ap one_if q
]

-- one entry more, which names j
names_from : (es fs : List Entry) (j i k : ℕ) (ss : List Sig) → j ≡ k + i → ((m : ℕ) → yields_of m fs ≡ yields_of m es + one_if (eqb j m))
    → changed_at i (counted 1) (counted_from k es ss) ≡ counted_from k fs ss
names_from es fs j i k [] e f = refl
names_from es fs j zero k (s ∷ ss) e f =
    let more : yields_of k fs ≡ yields_of k es + 1 = f k ∙ ap (λ n. yields_of k es + n) (hit j k (omega (arith, e))) in
    ap (λ x. x ∷ counted_from (k + 1) es ss) (twice (yields_of k es) s ∙ ap (λ n. counted n s) (sym more))
    ∙ ap (λ xs. counted (yields_of k fs) s ∷ xs)
    (sym (same_from es fs (k + 1) ss (λ m low.
    let none : one_if (eqb j m) ≡ 0 = missed j m (λ q. absurd (omega (arith, e, low, q))) in
    omega (arith, f m, none))))
names_from es fs j (suc i) k (s ∷ ss) e f =
    let none : one_if (eqb j k) ≡ 0 = missed j k (λ q. absurd (omega (arith, e, q))) in
    let same : yields_of k es ≡ yields_of k fs = omega (arith, f k, none) in
    ap (λ n. counted n s ∷ changed_at i (counted 1) (counted_from (k + 1) es ss)) same
    ∙ ap (λ xs. counted (yields_of k fs) s ∷ xs) (names_from es fs j i (k + 1) ss (omega (arith, e)) f)

-- whether m is what is named
abbrev is_this : Option ℕ → ℕ → Bool
is_this None m = false
is_this (Some j) m = eqb j m

same_test : (m : ℕ) (e : Entry) → is_yield_of m e ≡ is_this (yielded e) m
same_test m (Yield t l s sig b) = refl
same_test m (Go t l s) = refl
same_test m (Got t l) = refl
same_test m (Free t l) = refl
same_test m (Took t l s) = refl
same_test m (Miss t l s why) = refl
same_test m (End t why) = refl
same_test m (Break set t) = refl
same_test m (Learn b) = refl

with_one : (es fs : List Entry) (o : Option ℕ) (ss : List Sig) → ((m : ℕ) → yields_of m fs ≡ yields_of m es + one_if (is_this o m)) → with_yield o (counted_from 0 es ss) ≡ counted_from 0 fs ss
with_one es fs None ss f = sym (same_from es fs 0 ss (λ m low. let e : yields_of m fs ≡ yields_of m es + 0 = f m in omega (arith, e)))
with_one es fs (Some j) ss f = names_from es fs j j 0 ss (omega arith) f

-- what the entry at a place names
named_at : (es : List Entry) (place : ℕ) (d : Entry) (o : Option ℕ) → place < length es → slice_get (map yielded es) place ≡ Some o → yielded (get_or es place d) ≡ o
named_at es place d o low q =
    same_Some (yielded (get_or es place d)) o
    (sym (slice_get-map yielded es place ∙ ap (λ (x : Option Entry). option_map yielded x) (slice_get-get_or es place d low)) ∙ q)

-- the entry at a place is counted behind those before it
pub count_more : (es : List Entry) (place : ℕ) (o : Option ℕ) (ss now new : List Sig) → place < length es → slice_get (map yielded es) place ≡ Some o → now ≡ counted_from 0 (take place es) ss → new ≡ with_yield o now
    → new ≡ counted_from 0 (take (place + 1) es) ss
count_more es place o ss now new low q is step =
    let d : Entry = Learn [] in
    step ∙ ap (with_yield o) is
    ∙ with_one (take place es) (take (place + 1) es) o ss
    (λ m. length-filter_more (is_yield_of m) es place d low
    ∙ ap (λ b. yields_of m (take place es) + one_if b) (same_test m (get_or es place d) ∙ ap (λ x. is_this x m) (named_at es place d o low q)))

-- while they are counted, the numbers that are named stay in range
pub still_numbered : (es : List Entry) (place : ℕ) (o : Option ℕ) (ss now : List Sig) → YieldsNameOneOf (length ss) es → slice_get (map yielded es) place ≡ Some o → now ≡ counted_from 0 (take place es) ss → IfSome o (λ i. i < length now)
still_numbered es place None ss now all q is = tt
still_numbered es place (Some i) ss now all q is =
    let low : i < length ss = all place i q in
    let same : length now ≡ length ss = ap (λ (x : List Sig). length x) is ∙ length_counted 0 (take place es) ss in
    omega (arith, low, same)

-- ---- by places
each_from : (k : ℕ) (es : List Entry) (ss : List Sig) (i n : ℕ) (s : Sig) → n ≡ k + i → slice_get ss i ≡ Some s → slice_get (counted_from k es ss) i ≡ Some (counted (yields_of n es) s)
each_from k es [] i n s e q = absurd (let x : None ≡ Some s = q in cc)
each_from k es (x ∷ ss) zero n s e q =
    let same : k ≡ n = omega (arith, e) in
    ap (λ m. Some (counted (yields_of m es) x)) same ∙ ap (λ y. Some (counted (yields_of n es) y)) (same_Some x s q)
each_from k es (x ∷ ss) (suc i) n s e q = each_from (k + 1) es ss i n s (omega (arith, e)) q

pub law : GrownLaw
law = record {
  count = λ loaded depth es. length_counted 0 es (known_sigs loaded depth (past es));
  each = λ loaded depth es i s q. each_from 0 es (known_sigs loaded depth (past es)) i i s (omega arith) q;
}

-- ---- numbers
-- e names none, or one of n signatures
abbrev IsNumbered : ℕ → Entry → Type 0
IsNumbered n e = IfSome (yielded e) (λ i. i < n)

-- a Yield names a signature that is known before it
yield_named : (c : Constants) (e : Entry) (h : List Entry) → IsLegalAfter c h e → IsNumbered (length (known_sigs c.loaded c.depth h)) e
yield_named c (Yield t l s sig b) h k = elim (legal_yield c h t l s sig b k).1 [
  | inl m ↦ absurd (let q = m.0 in cc)
  | inr m ↦
      let same : Yield t l s m.0.sig m.0.births ≡ Yield t l s sig b = m.1 in
      let sig_is : m.0.sig ≡ sig = cc in
      let sigs : List Sig = known_sigs c.loaded c.depth h in
      let new : Edge = edge_after t l s h in
      let is : IsNamed (with_new h new) new.birth sigs m.0 = MatchOption-at_some _ (IsNamed (with_new h new) new.birth sigs) m.0 m.2 (named_law sigs h new refl) in
      let low : m.0.sig < length sigs = slice_get_within sigs m.0.sig is.sig is.sig_is in
      omega (arith, low, sig_is)
]
yield_named c (Go t l s) h k = tt
yield_named c (Got t l) h k = tt
yield_named c (Free t l) h k = tt
yield_named c (Took t l s) h k = tt
yield_named c (Miss t l s why) h k = tt
yield_named c (End t why) h k = tt
yield_named c (Break set t) h k = tt
yield_named c (Learn b) h k = tt

-- it stays one
still_named : (m n : ℕ) (e : Entry) → m ≤ n → IsNumbered m e → IsNumbered n e
still_named m n (Yield t l s sig b) low k = omega (arith, low, k)
still_named m n (Go t l s) low k = tt
still_named m n (Got t l) low k = tt
still_named m n (Free t l) low k = tt
still_named m n (Took t l s) low k = tt
still_named m n (Miss t l s why) low k = tt
still_named m n (End t why) low k = tt
still_named m n (Break set t) low k = tt
still_named m n (Learn b) low k = tt

-- no fewer are known with an entry more
known_more : (c : Constants) (e : Entry) (h : List Entry) → length (known_sigs c.loaded c.depth h) ≤ length (known_sigs c.loaded c.depth (e ∷ h))
known_more c e h =
    let old : List Known = knowns c.loaded c.depth h in
    let before : length (known_sigs c.loaded c.depth h) ≡ length old = length-map old (λ (x : Known). x.sig) in
    let after : length (known_sigs c.loaded c.depth (e ∷ h)) ≡ length (old ++ learnt c.depth e h) = length-map (old ++ learnt c.depth e h) (λ (x : Known). x.sig) in
    omega (arith, before, after, length-append old (learnt c.depth e h))

all_named : (c : Constants) (n : ℕ) (h : List Entry) → Legal c h → length (known_sigs c.loaded c.depth h) ≤ n → AllByRecursion (IsNumbered n) h
all_named c n [] k low = tt
all_named c n (e ∷ h) k low =
    let fewer : length (known_sigs c.loaded c.depth h) ≤ n = omega (arith, known_more c e h, low) in
    (still_named (length (known_sigs c.loaded c.depth h)) n e fewer (yield_named c e h k.0), all_named c n h k.1 fewer)

-- what holds of a list holds of it the other way round
all_left : {X : Type 0} (P : X → Type 0) (xs ys : List X) → AllByRecursion P (xs ++ ys) → AllByRecursion P xs
all_left P [] ys a = tt
all_left P (x ∷ xs) ys a = (a.0, all_left P xs ys a.1)

all_right : {X : Type 0} (P : X → Type 0) (xs ys : List X) → AllByRecursion P (xs ++ ys) → AllByRecursion P ys
all_right P [] ys a = a
all_right P (x ∷ xs) ys a = all_right P xs ys a.1

turned : {X : Type 0} (P : X → Type 0) (xs : List X) → AllByRecursion P (reverse xs) → AllByRecursion P xs
turned P [] a = tt
turned P (x ∷ xs) a =
    let both : AllByRecursion P (reverse xs ++ x ∷ []) = subst (AllByRecursion P) (reverse-append (x ∷ []) xs) a in
    ((all_right P (reverse xs) (x ∷ []) both).0, turned P xs (all_left P (reverse xs) (x ∷ []) both))

by_place : (n : ℕ) (es : List Entry) → AllByRecursion (IsNumbered n) es → YieldsNameOneOf n es
by_place n [] a place i q = absurd (let x : None ≡ Some (Some i) = q in cc)
by_place n (e ∷ es) a zero i q = subst (λ (o : Option ℕ). IfSome o (λ i. i < n)) (same_Some (yielded e) (Some i) q) a.0
by_place n (e ∷ es) a (suc place) i q = by_place n es a.1 place i q

-- each Yield of a legal history names one of the signatures that are known after it
pub numbered : (c : Constants) (es : List Entry) → Legal c (past es) → YieldsNameOneOf (length (known_sigs c.loaded c.depth (past es))) es
numbered c es k =
    let n : ℕ = length (known_sigs c.loaded c.depth (past es)) in
    by_place n es (turned (IsNumbered n) es (all_named c n (past es) k (omega arith)))

-- ---- at a gate
-- the Yields in the tables of a gate name signatures of its catalogue
pub numbered_at : (g : Gate) (tables : Replay) (sigs : List Sig) → tables ≡ replay g → sigs ≡ known_sigs g.loaded g.depth (past g.entries) → Legal (constants g) (past g.entries) → YieldsNameOneOf (length sigs) tables.entries
numbered_at g tables sigs same is legal =
    subst (λ (x : Replay). YieldsNameOneOf (length sigs) x.entries) (sym same)
    (subst (λ (x : List Sig). YieldsNameOneOf (length x) g.entries) (sym is) (numbered (constants g) g.entries legal))

-- where they are counted, the signatures have grown
pub grown_at : (before g : Gate) (tables : Replay) (sigs now : List Sig) → g ≡ before → tables ≡ replay g → sigs ≡ known_sigs g.loaded g.depth (past g.entries) → now ≡ counted_from 0 tables.entries sigs → now ≡ grown before.loaded before.depth before.entries
grown_at before g tables sigs now same told is step =
    step
    ∙ ap (λ (x : Replay). counted_from 0 x.entries sigs) told
    ∙ ap (counted_from 0 g.entries) is
    ∙ ap (λ (x : Gate). grown x.loaded x.depth x.entries) same

-- the same by the constants and the entries
pub grown_by : (c : Constants) (g : Gate) (entries : List Entry) → constants g ≡ c → entries ≡ g.entries → grown g.loaded g.depth g.entries ≡ grown c.loaded c.depth entries
grown_by c g entries same is = ap (λ (x : Constants). grown x.loaded x.depth g.entries) same ∙ ap (grown c.loaded c.depth) (sym is)
