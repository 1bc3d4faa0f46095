-- The table of names ascends, has the same names, and is the only list that does.
use Rattle.std.proofs.Common.{◌≡◌, inl, inr, ℕ, ◌+◌, ◌^◌, ◌<◌, ◌≤◌, Some, Bool, true, false, cond, ◌||◌, ◌++◌, All, ap, ap₂, subst, refl, sym, ◌∙◌, arith, List, [], ◌∷◌, length, get_or, Contains}
use Rattle.std.specs.Cmp.{IsTotalOrder}
use Rattle.std.specs.List.{AllByRecursion, IsDistinct, list_any}
use Rattle.std.specs.List.Sorted.{IsSorted, IsStrictlySortedBy}
use Rattle.std.specs.Ordering.{is_eq, is_lt, match_ordering, ordering_reverse}
use Rattle.std.specs.Str.{bytes_eq}
use Rattle.std.specs.declared.cmp.Ordering.{Ordering}
use Rattle.std.specs.declared.cmp.Ordering.TheVariants.{Less, Equal, Greater}
use Rattle.std.proofs.lemmas.Bool.{cases_Bool, or_cases, false≢true, false_from_ne_true}
use Rattle.std.proofs.lemmas.Cmp.{nat_list_cmp_total, nat_list_eq_equiv, tied_itself}
use Rattle.std.proofs.lemmas.List.Elements.{All-cons, All-head, All-tail, Contains-append_left, Contains-append_right}
use Rattle.std.proofs.lemmas.Map.Keys.{any_passes_from_place, apart_from_distinct, sorted_from_all_adjacent}
use Rattle.std.proofs.lemmas.Map.Text.{is_eq-slice_cmp}
use Rattle.std.proofs.lemmas.Option.{slice_get-get_or}
use Rattle.std.proofs.lemmas.Slice.Eq.{bytes_eq-Decides}
use Rattle.indexmap.proofs.CallerLemmas.{Contains-list_any}
use Rattle.dim_text.specs.Naming.{IsName}
use Rattle.dim_stack.specs.Names.{AreAscending, HasFirstLaw, HasOwnLaw, HasSecondLaw, HasNamesOf, HasSameNames, IsTable, name_cmp, table_of, with_name}

pub name_total : IsTotalOrder name_cmp
name_total = nat_list_cmp_total

abbrev has : List ℕ → List (List ℕ) → Bool
has q xs = list_any (bytes_eq q) xs

-- x comes before each name
abbrev Leads : List ℕ → List (List ℕ) → Type 0
Leads x xs = AllByRecursion (λ y. name_cmp x y ≡ Less) xs

same_bytes : (x y : List ℕ) → bytes_eq x y ≡ true → x ≡ y
same_bytes x y e = (bytes_eq-Decides x y).0 e

bytes_itself : (x : List ℕ) → bytes_eq x x ≡ true
bytes_itself x = (bytes_eq-Decides x x).1 refl

pub equal_names : (x y : List ℕ) → name_cmp x y ≡ Equal → x ≡ y
equal_names x y e = same_bytes x y (sym (is_eq-slice_cmp x y) ∙ ap is_eq e)

less_names : (x y : List ℕ) → name_cmp x y ≡ Less → bytes_eq x y ≡ false
less_names x y e = sym (is_eq-slice_cmp x y) ∙ ap is_eq e

pub flip_names : (x y : List ℕ) (o : Ordering) → name_cmp x y ≡ o → name_cmp y x ≡ ordering_reverse o
flip_names x y o e = name_total.antisymm y x ∙ ap ordering_reverse e

leads_on : (w x : List ℕ) (xs : List (List ℕ)) → name_cmp w x ≡ Less → Leads x xs → Leads w xs
leads_on w x [] e h = tt
leads_on w x (y ∷ ys) e h = (name_total.trans w x y e h.0, leads_on w x ys e h.1)

leads-with_name : (x w : List ℕ) (xs : List (List ℕ)) → name_cmp x w ≡ Less → Leads x xs → Leads x (with_name w xs)
leads-with_name x w [] e h = (e, tt)
leads-with_name x w (y ∷ ys) e h = go (name_cmp w y) (leads-with_name x w ys e h.1)
  where
    go : (o : Ordering) → Leads x (with_name w ys) → Leads x (match_ordering o (w ∷ y ∷ ys) (y ∷ ys) (y ∷ with_name w ys))
    go Less rest = (e, h)
    go Equal rest = h
    go Greater rest = (h.0, rest)

ascending-with_name : (w : List ℕ) (xs : List (List ℕ)) → AreAscending xs → AreAscending (with_name w xs)
unfolding IsStrictlySortedBy
ascending-with_name w [] h = (tt, tt)
ascending-with_name w (x ∷ xs) h = go (name_cmp w x) refl (ascending-with_name w xs h.1)
  where
    go : (o : Ordering) → name_cmp w x ≡ o → AreAscending (with_name w xs) → AreAscending (match_ordering o (w ∷ x ∷ xs) (x ∷ xs) (x ∷ with_name w xs))
    go Less e rest = ((e, leads_on w x xs e h.0), h)
    go Equal e rest = h
    go Greater e rest = (leads-with_name x w xs (flip_names w x Greater e) h.0, rest)

-- the names ascend
pub ascending-table_of : (names : List (List ℕ)) → AreAscending (table_of names)
unfolding IsStrictlySortedBy
ascending-table_of [] = tt
ascending-table_of (x ∷ xs) = ascending-with_name x (table_of xs) (ascending-table_of xs)

or_again : (a b : Bool) → (a || b) ≡ (a || (a || b))
or_again true b = refl
or_again false b = refl

or_swap : (a b c : Bool) → (a || (b || c)) ≡ (b || (a || c))
or_swap true true c = refl
or_swap true false c = refl
or_swap false b c = refl

has-with_name : (q w : List ℕ) (xs : List (List ℕ)) → has q (with_name w xs) ≡ (bytes_eq q w || has q xs)
has-with_name q w [] = refl
has-with_name q w (x ∷ xs) = go (name_cmp w x) refl (has-with_name q w xs)
  where
    go : (o : Ordering) → name_cmp w x ≡ o → has q (with_name w xs) ≡ (bytes_eq q w || has q xs) → has q (match_ordering o (w ∷ x ∷ xs) (x ∷ xs) (x ∷ with_name w xs)) ≡ (bytes_eq q w || has q (x ∷ xs))
    go Less e rest = refl
    go Equal e rest = or_again (bytes_eq q x) (has q xs) ∙ ap (λ z. bytes_eq q z || has q (x ∷ xs)) (sym (equal_names w x e))
    go Greater e rest = ap (λ b. bytes_eq q x || b) rest ∙ or_swap (bytes_eq q x) (bytes_eq q w) (has q xs)

-- the names are the same
pub has-table_of : (q : List ℕ) (names : List (List ℕ)) → has q (table_of names) ≡ has q names
has-table_of q [] = refl
has-table_of q (x ∷ xs) = has-with_name q x (table_of xs) ∙ ap (λ b. bytes_eq q x || b) (has-table_of q xs)

leads_all : (x q : List ℕ) (xs : List (List ℕ)) → Leads x xs → has q xs ≡ true → name_cmp x q ≡ Less
leads_all x q [] h e = absurd (false≢true e)
leads_all x q (y ∷ ys) h e =
    elim (or_cases (bytes_eq q y) (has q ys) e) [
      | inl f ↦ ap (name_cmp x) (same_bytes q y f) ∙ h.0
      | inr f ↦ leads_all x q ys h.1 f
    ]

never_less : (x : List ℕ) → name_cmp x x ≡ Less → ⊥
never_less x e = (let f = tied_itself name_total x in let g : Less ≡ Equal = sym e ∙ f in cc)

leads_new : (x : List ℕ) (xs : List (List ℕ)) → Leads x xs → has x xs ≡ false
leads_new x xs h = false_from_ne_true (has x xs) (λ e. never_less x (leads_all x x xs h e))

-- the first names of two ascending lists with the same names
first_same : (x y : List ℕ) (xs ys : List (List ℕ)) → Leads x xs → Leads y ys → has x (y ∷ ys) ≡ true → has y (x ∷ xs) ≡ true → x ≡ y
first_same x y xs ys h k e f =
    elim (or_cases (bytes_eq x y) (has x ys) e) [
      | inl s ↦ same_bytes x y s
      | inr s ↦ elim (or_cases (bytes_eq y x) (has y xs) f) [
        | inl t ↦ sym (same_bytes y x t)
        | inr t ↦ absurd (never_less x (name_total.trans x y x (leads_all x y xs h t) (leads_all y x ys k s)))
      ]
    ]

behind : (x q : List ℕ) (xs ys : List (List ℕ)) → Leads x xs → Leads x ys → has q (x ∷ xs) ≡ has q (x ∷ ys) → has q xs ≡ has q ys
behind x q xs ys h k e =
    elim (cases_Bool (bytes_eq q x)) [
      | inl s ↦ (let same = same_bytes q x s in
          ap (λ z. has z xs) same ∙ leads_new x xs h ∙ sym (leads_new x ys k) ∙ ap (λ z. has z ys) (sym same))
      | inr s ↦ ap (λ b. b || has q xs) (sym s) ∙ e ∙ ap (λ b. b || has q ys) s
    ]

pub same_ascending : (xs ys : List (List ℕ)) → AreAscending xs → AreAscending ys → ((q : List ℕ) → has q xs ≡ has q ys) → xs ≡ ys
unfolding IsStrictlySortedBy
same_ascending [] [] h k e = refl
same_ascending [] (y ∷ ys) h k e = absurd (false≢true (e y ∙ ap (λ b. b || has y ys) (bytes_itself y)))
same_ascending (x ∷ xs) [] h k e = absurd (false≢true (sym (e x) ∙ ap (λ b. b || has x xs) (bytes_itself x)))
same_ascending (x ∷ xs) (y ∷ ys) h k e =
    let mine : has x (y ∷ ys) ≡ true = sym (e x) ∙ ap (λ b. b || has x xs) (bytes_itself x) in
    let yours : has y (x ∷ xs) ≡ true = e y ∙ ap (λ b. b || has y ys) (bytes_itself y) in
    let first : x ≡ y = first_same x y xs ys h.0 k.0 mine yours in
    let leads : Leads x ys = subst (λ z. Leads z ys) (sym first) k.0 in
    let rest = same_ascending xs ys h.1 k.1 (λ q. behind x q xs ys h.0 leads (e q ∙ ap (λ z. bytes_eq q z || has q ys) (sym first))) in
    ap₂ (λ z zs. z ∷ zs) first rest

-- from a list with the same names that ascends
pub only_table : (names table : List (List ℕ)) → AreAscending table → ((q : List ℕ) → has q table ≡ has q names) → table ≡ table_of names
only_table names table h e = same_ascending table (table_of names) h (ascending-table_of names) (λ q. e q ∙ sym (has-table_of q names))

-- tables of lists with the same names are the same
pub table-same : (xs ys : List (List ℕ)) → ((q : List ℕ) → has q xs ≡ has q ys) → table_of xs ≡ table_of ys
table-same xs ys e = only_table ys (table_of xs) (ascending-table_of xs) (λ q. has-table_of q xs ∙ e q)

length-with_name : (w : List ℕ) (xs : List (List ℕ)) → length (with_name w xs) ≤ length xs + 1
length-with_name w [] = omega arith
length-with_name w (x ∷ xs) = go (name_cmp w x) (length-with_name w xs)
  where
    go : (o : Ordering) → length (with_name w xs) ≤ length xs + 1 → length (match_ordering o (w ∷ x ∷ xs) (x ∷ xs) (x ∷ with_name w xs)) ≤ length (x ∷ xs) + 1
    go Less h = omega arith
    go Equal h = omega arith
    go Greater h = omega arith

length-table_of : (names : List (List ℕ)) → length (table_of names) ≤ length names
length-table_of [] = omega arith
length-table_of (x ∷ xs) = omega (arith, length-with_name x (table_of xs), length-table_of xs)

named-with_name : (w : List ℕ) (xs : List (List ℕ)) → IsName w → All IsName xs → All IsName (with_name w xs)
named-with_name w [] n h = All-cons IsName w [] n h
named-with_name w (x ∷ xs) n h = go (name_cmp w x) (named-with_name w xs n (All-tail IsName x xs h))
  where
    go : (o : Ordering) → All IsName (with_name w xs) → All IsName (match_ordering o (w ∷ x ∷ xs) (x ∷ xs) (x ∷ with_name w xs))
    go Less rest = All-cons IsName w (x ∷ xs) n h
    go Equal rest = h
    go Greater rest = All-cons IsName x (with_name w xs) (All-head IsName x xs h) rest

named-table_of : (names : List (List ℕ)) → All IsName names → All IsName (table_of names)
named-table_of [] h = h
named-table_of (x ∷ xs) h = named-with_name x (table_of xs) (All-head IsName x xs h) (named-table_of xs (All-tail IsName x xs h))

-- the table of few names is one
pub is_table-table_of : (names : List (List ℕ)) → length names < 2 ^ 32 → All IsName names → IsTable (table_of names)
is_table-table_of names few named = record {
  few = omega (arith, length-table_of names);
  named = named-table_of names named;
  ascending = ascending-table_of names;
}

or_false : (a : Bool) → (a || false) ≡ a
or_false true = refl
or_false false = refl

or_assoc : (a b c : Bool) → (a || (b || c)) ≡ ((a || b) || c)
or_assoc true b c = refl
or_assoc false b c = refl

or_comm : (a b : Bool) → (a || b) ≡ (b || a)
or_comm true true = refl
or_comm true false = refl
or_comm false true = refl
or_comm false false = refl

pub has-append : (q : List ℕ) (xs ys : List (List ℕ)) → has q (xs ++ ys) ≡ (has q xs || has q ys)
has-append q [] ys = refl
has-append q (x ∷ xs) ys = ap (λ b. bytes_eq q x || b) (has-append q xs ys) ∙ or_assoc (bytes_eq q x) (has q xs) (has q ys)

-- one word more was put in
pub one_more : (old so_far now new : List (List ℕ)) (w : List ℕ) → HasNamesOf old so_far now → ((q : List ℕ) → has q new ≡ cond (bytes_eq w q) true (has q now)) → HasNamesOf old (so_far ++ w ∷ []) new
one_more old so_far now new w h put q =
    put q
    ∙ cond_or (bytes_eq w q) (has q now)
    ∙ ap₂ (λ a b. a || b) (nat_list_eq_equiv.symm w q) (h q)
    ∙ or_comm (bytes_eq q w) (has q old || has q so_far)
    ∙ sym (or_assoc (has q old) (has q so_far) (bytes_eq q w))
    ∙ ap (λ b. has q old || b) (ap (λ b. has q so_far || b) (sym (or_false (bytes_eq q w))) ∙ sym (has-append q so_far (w ∷ [])))
  where
    cond_or : (a b : Bool) → cond a true b ≡ (a || b)
    cond_or true b = refl
    cond_or false b = refl

-- the words of a list, and of two lists, put into an empty table
pub names_of_one : (start xs table : List (List ℕ)) → start ≡ [] → HasNamesOf start xs table → (q : List ℕ) → has q table ≡ has q xs
names_of_one start xs table none h q = h q ∙ ap (λ names. has q names || has q xs) none

pub names_of_both : (start xs ys one both : List (List ℕ)) → start ≡ [] → HasNamesOf start xs one → HasNamesOf one ys both → (q : List ℕ) → has q both ≡ has q (xs ++ ys)
names_of_both start xs ys one both none h k q = k q ∙ ap (λ b. b || has q ys) (names_of_one start xs one none h q) ∙ sym (has-append q xs ys)

-- what a sort leaves of names that differ
pub sorted_ascends : (names : List (List ℕ)) → IsSorted name_cmp names → IsDistinct bytes_eq names → AreAscending names
sorted_ascends names up apart = sorted_from_all_adjacent name_total names [] (λ k h. step (get_or names k []) (get_or names (k + 1) []) (up k [] (omega arith) h) (apart_from_distinct bytes_eq names k (k + 1) [] apart (omega arith) h))
  where
    step : (x y : List ℕ) → is_lt (name_cmp y x) ≡ false → bytes_eq x y ≡ false → name_cmp x y ≡ Less
    step x y low other = go (name_cmp x y) refl
      where
        go : (o : Ordering) → name_cmp x y ≡ o → o ≡ Less
        go Less e = refl
        go Equal e = absurd (false≢true (sym other ∙ sym (is_eq-slice_cmp x y) ∙ ap is_eq e))
        go Greater e = absurd (false≢true (sym low ∙ ap is_lt (flip_names x y Greater e)))

-- between `has` and `Contains`
pub has_contains : (q : List ℕ) (xs : List (List ℕ)) → has q xs ≡ true → Contains xs q
has_contains q xs e = Contains-list_any bytes_eq same_bytes xs q e

pub contains_has : (q : List ℕ) (xs : List (List ℕ)) → Contains xs q → has q xs ≡ true
contains_has q xs c = any_passes_from_place (bytes_eq q) xs c.0 q (slice_get-get_or xs c.0 q c.1 ∙ ap Some c.2) (bytes_itself q)

pub has_same_names : (xs ys : List (List ℕ)) → ((q : List ℕ) → has q xs ≡ has q ys) → HasSameNames xs ys
has_same_names xs ys e q = (λ c. has_contains q ys (sym (e q) ∙ contains_has q xs c), λ c. has_contains q xs (e q ∙ contains_has q ys c))

pub same_names_has : (xs ys : List (List ℕ)) → HasSameNames xs ys → (q : List ℕ) → has q xs ≡ has q ys
same_names_has xs ys h q =
    elim (cases_Bool (has q xs)) [
      | inl e ↦ e ∙ sym (contains_has q ys ((h q).0 (has_contains q xs e)))
      | inr e ↦ e ∙ sym (false_from_ne_true (has q ys) (λ f. false≢true (sym e ∙ contains_has q xs ((h q).1 (has_contains q ys f)))))
    ]

-- what a table has
pub has_own : HasOwnLaw
has_own names name there = has_contains name (table_of names) (has-table_of name names ∙ contains_has name names there)

pub has_first : HasFirstLaw
has_first a b names h name there = has_own (a ++ b) name (Contains-append_left a b name (h name there))

pub has_second : HasSecondLaw
has_second a b names h name there = has_own (a ++ b) name (Contains-append_right a b name (h name there))
