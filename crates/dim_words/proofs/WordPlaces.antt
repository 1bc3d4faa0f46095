-- What words part into, by their positions.
use Rattle.std.proofs.Common.{◌≡◌, ℕ, zero, suc, ◌<◌, Bool, true, false, ◌||◌, ◌⊎◌, inl, inr, refl, ap, sym, ◌∙◌, subst, arith, List, [], ◌∷◌, ◌++◌, length, Option, Some, None, option_and_then, if◌then◌else◌}
use Rattle.std.specs.Prelude.{slice_get, is_some, MatchOption}
use Rattle.std.proofs.lemmas.List.{append_assoc, append-nil}
use Rattle.dim_words.specs.declared.kind.Kind.{Kind}
use Rattle.dim_words.specs.declared.kind.Setting.{Setting}
use Rattle.dim_words.specs.declared.kind.Setting.TheVariants.{Fuel, Quantum, Depth, Seed, Workers, Attempts}
use Rattle.dim_words.specs.Words.{Parted, by_setting, nothing, parted, parted_after, placed, setting_in, unset, value_of, with_name, with_value}
use Rattle.dim_words.specs.Places.{option_at, is_value, one, name_at, names_among, given_in, IsGiven, IsParting, HasNoValue, IsUnparted, PartingLaw}

-- ---- a word in front

empty : (k : Kind) (i : ℕ) → option_at k [] i ≡ None
empty k zero = refl
empty k (suc i) = go (is_some (option_at k [] i))
  where
    go : (b : Bool) → ◌≡◌ {A = Option Setting} (if b then None else None) None
    go true = refl
    go false = refl

module _ (k : Kind) (word : List ℕ) (words : List (List ℕ)) (q : setting_in k word ≡ None) where
  behind_name : (i : ℕ) → option_at k (word ∷ words) (suc i) ≡ option_at k words i
  behind_name zero = ap (λ (o : Option Setting). if is_some o then None else option_and_then (setting_in k) (slice_get words 0)) q
  behind_name (suc i) = ap (λ (o : Option Setting). if is_some o then None else option_and_then (setting_in k) (slice_get words (suc i))) (behind_name i)

  value_behind_name : (i : ℕ) → is_value k (word ∷ words) (suc i) ≡ is_value k words i
  value_behind_name zero = ap (λ (o : Option Setting). is_some o) q
  value_behind_name (suc i) = ap (λ (o : Option Setting). is_some o) (behind_name i)

  name_behind_name : (i : ℕ) → name_at k (word ∷ words) (suc i) ≡ name_at k words i
  name_behind_name i =
      ap (λ b. if b || is_some (option_at k (word ∷ words) (suc i)) then [] else one (slice_get words i)) (value_behind_name i)
      ∙ ap (λ (o : Option Setting). if is_value k words i || is_some o then [] else one (slice_get words i)) (behind_name i)

  names_behind_name : (n : ℕ) → names_among k (word ∷ words) (suc n) ≡ word ∷ names_among k words n
  names_behind_name zero = ap (λ (o : Option Setting). if is_some o then [] else (word ∷ [])) q
  names_behind_name (suc n) =
      ap (λ xs. xs ++ name_at k (word ∷ words) (suc n)) (names_behind_name n)
      ∙ ap (λ xs. word ∷ (names_among k words n ++ xs)) (name_behind_name n)

  -- no option is the name
  no_option : (i : ℕ) (s : Setting) → option_at k (word ∷ words) i ≡ Some s → (j : ℕ) × (i ≡ suc j) × (option_at k words j ≡ Some s)
  no_option zero s e = absurd (let n : None ≡ Some s = sym q ∙ e in cc)
  no_option (suc i) s e = (i, refl, sym (behind_name i) ∙ e)

module _ (k : Kind) (word value : List ℕ) (words : List (List ℕ)) (s : Setting) (q : setting_in k word ≡ Some s) where
  at_value : option_at k (word ∷ value ∷ words) 1 ≡ None
  at_value = ap (λ (o : Option Setting). if is_some o then None else setting_in k value) q

  behind_option : (i : ℕ) → option_at k (word ∷ value ∷ words) (suc (suc i)) ≡ option_at k words i
  behind_option zero = ap (λ (o : Option Setting). if is_some o then None else option_and_then (setting_in k) (slice_get words 0)) at_value
  behind_option (suc i) = ap (λ (o : Option Setting). if is_some o then None else option_and_then (setting_in k) (slice_get words (suc i))) (behind_option i)

  value_behind_option : (i : ℕ) → is_value k (word ∷ value ∷ words) (suc (suc i)) ≡ is_value k words i
  value_behind_option zero = ap (λ (o : Option Setting). is_some o) at_value
  value_behind_option (suc i) = ap (λ (o : Option Setting). is_some o) (behind_option i)

  name_behind_option : (i : ℕ) → name_at k (word ∷ value ∷ words) (suc (suc i)) ≡ name_at k words i
  name_behind_option i =
      ap (λ b. if b || is_some (option_at k (word ∷ value ∷ words) (suc (suc i))) then [] else one (slice_get words i)) (value_behind_option i)
      ∙ ap (λ (o : Option Setting). if is_value k words i || is_some o then [] else one (slice_get words i)) (behind_option i)

  names_behind_option : (n : ℕ) → names_among k (word ∷ value ∷ words) (suc (suc n)) ≡ names_among k words n
  names_behind_option zero =
      ap (λ xs. xs ++ name_at k (word ∷ value ∷ words) 1) (ap (λ (o : Option Setting). if is_some o then [] else (word ∷ [])) q)
      ∙ ap (λ (o : Option Setting). if is_some o || is_some (option_at k (word ∷ value ∷ words) 1) then [] else (value ∷ [])) q
  names_behind_option (suc n) =
      ap (λ xs. xs ++ name_at k (word ∷ value ∷ words) (suc (suc n))) (names_behind_option n)
      ∙ ap (λ xs. names_among k words n ++ xs) (name_behind_option n)

  -- an option is the first, or one behind the value
  which : (i : ℕ) (t : Setting) → option_at k (word ∷ value ∷ words) i ≡ Some t → ((i ≡ 0) × (s ≡ t)) ⊎ ((j : ℕ) × (i ≡ suc (suc j)) × (option_at k words j ≡ Some t))
  which zero t e = let same : Some s ≡ Some t = sym q ∙ e in inl (refl, let it : s ≡ t = cc in it)
  which (suc zero) t e = absurd (let n : None ≡ Some t = sym at_value ∙ e in cc)
  which (suc (suc i)) t e = inr (i, refl, sym (behind_option i) ∙ e)

-- ---- one value more

pub named : (w : List ℕ) (p : Parted) (s : Setting) → given_in s (with_name w p) ≡ given_in s p
named w p Fuel = refl
named w p Quantum = refl
named w p Depth = refl
named w p Seed = refl
named w p Workers = refl
named w p Attempts = refl

-- p with a value n for s, which is the only change
pub record Sets (s : Setting) (n : ℕ) (p r : Parted) : Type 0 where
  pub unset : given_in s p ≡ None
  pub given : given_in s r ≡ Some n
  pub others : (t : Setting) → (t ≡ s) ⊎ (given_in t r ≡ given_in t p)
  pub names : r.names ≡ p.names

pub unset_is : (o : Option ℕ) (x r : Parted) → unset o x ≡ Some r → (o ≡ None) × (x ≡ r)
unset_is None x r e = (refl, let it : x ≡ r = cc in it)
unset_is (Some n) x r e = absurd (cc)

abbrev pub set_in : Setting → ℕ → Parted → Parted
set_in Fuel n p = record p { fuel = Some n }
set_in Quantum n p = record p { quantum = Some n }
set_in Depth n p = record p { depth = Some n }
set_in Seed n p = record p { seed = Some n }
set_in Workers n p = record p { workers = Some n }
set_in Attempts n p = record p { attempts = Some n }

pub placed_is : (s : Setting) (n : ℕ) (p : Parted) → placed s n p ≡ unset (given_in s p) (set_in s n p)
placed_is Fuel n p = refl
placed_is Quantum n p = refl
placed_is Depth n p = refl
placed_is Seed n p = refl
placed_is Workers n p = refl
placed_is Attempts n p = refl

set_given : (s : Setting) (n : ℕ) (p : Parted) → given_in s (set_in s n p) ≡ Some n
set_given Fuel n p = refl
set_given Quantum n p = refl
set_given Depth n p = refl
set_given Seed n p = refl
set_given Workers n p = refl
set_given Attempts n p = refl

pub set_names : (s : Setting) (n : ℕ) (p : Parted) → (set_in s n p).names ≡ p.names
set_names Fuel n p = refl
set_names Quantum n p = refl
set_names Depth n p = refl
set_names Seed n p = refl
set_names Workers n p = refl
set_names Attempts n p = refl

set_others : (s : Setting) (n : ℕ) (p : Parted) (t : Setting) → (t ≡ s) ⊎ (given_in t (set_in s n p) ≡ given_in t p)
set_others Fuel n p Fuel = inl refl
set_others Quantum n p Quantum = inl refl
set_others Depth n p Depth = inl refl
set_others Seed n p Seed = inl refl
set_others Workers n p Workers = inl refl
set_others Attempts n p Attempts = inl refl
set_others s n p t = inr refl

pub sets : (s : Setting) (n : ℕ) (p r : Parted) → placed s n p ≡ Some r → Sets s n p r
sets s n p r e =
    let w = unset_is (given_in s p) (set_in s n p) r (sym (placed_is s n p) ∙ e) in
    subst (Sets s n p) w.1 record { unset = w.0; given = set_given s n p; others = set_others s n p; names = set_names s n p }

is_set : (s : Setting) (n : ℕ) (p : Parted) → placed s n p ≡ None → (m : ℕ) × (given_in s p ≡ Some m)
is_set s n p e = go (given_in s p) refl (sym (placed_is s n p) ∙ e)
  where
    go : (o : Option ℕ) → given_in s p ≡ o → unset o (set_in s n p) ≡ None → (m : ℕ) × (given_in s p ≡ Some m)
    go None r e = absurd (let no : Some (set_in s n p) ≡ None = e in cc)
    go (Some m) r e = (m, r)

-- ---- words, read after some values are given

record After (k : Kind) (p : Parted) (words : List (List ℕ)) (r : Parted) : Type 0 where
  pub names : r.names ≡ p.names ++ names_among k words (length words)
  pub kept : (s : Setting) (n : ℕ) → given_in s p ≡ Some n → given_in s r ≡ Some n
  pub values : (i : ℕ) (s : Setting) → option_at k words i ≡ Some s → (n : ℕ) × IsGiven words s i n × (given_in s r ≡ Some n)
  pub unset : (i : ℕ) (s : Setting) → option_at k words i ≡ Some s → given_in s p ≡ None
  pub only : (s : Setting) (n : ℕ) → given_in s r ≡ Some n → (given_in s p ≡ Some n) ⊎ ((i : ℕ) × (option_at k words i ≡ Some s))
  pub once : (i j : ℕ) (s : Setting) → option_at k words i ≡ Some s → option_at k words j ≡ Some s → i ≡ j

record Fails (k : Kind) (p : Parted) (words : List (List ℕ)) : Type 0 where
  pub i : ℕ
  pub setting : Setting
  pub option : option_at k words i ≡ Some setting
  pub fault : HasNoValue words setting i ⊎ ((j : ℕ) × (j < i) × (option_at k words j ≡ Some setting)) ⊎ ((m : ℕ) × (given_in setting p ≡ Some m))

abbrev Outcome : Kind → Parted → List (List ℕ) → Option Parted → Type 0
Outcome k p words o = MatchOption o (Fails k p words) (After k p words)

no_words : (k : Kind) (p : Parted) → After k p [] p
no_words k p = record {
  names = sym (append-nil p.names);
  kept = λ s n e. e;
  values = λ i s e. absurd (let n : None ≡ Some s = sym (empty k i) ∙ e in cc);
  unset = λ i s e. absurd (let n : None ≡ Some s = sym (empty k i) ∙ e in cc);
  only = λ s n e. inl e;
  once = λ i j s e f. absurd (let n : None ≡ Some s = sym (empty k i) ∙ e in cc);
}

module _ (k : Kind) (p : Parted) (word : List ℕ) (words : List (List ℕ)) (q : setting_in k word ≡ None) where
  given_behind : (s : Setting) (i j n : ℕ) → i ≡ suc j → IsGiven words s j n → IsGiven (word ∷ words) s i n
  given_behind s i j n e g = record { value = g.value; there = ap (λ x. slice_get (word ∷ words) (suc x)) e ∙ g.there; spelled = g.spelled }

  after_name : (r : Parted) → After k (with_name word p) words r → After k p (word ∷ words) r
  after_name r a = record {
    names =
        a.names ∙ append_assoc p.names (word ∷ []) (names_among k words (length words))
        ∙ ap (λ xs. p.names ++ xs) (sym (names_behind_name k word words q (length words)));
    kept = λ s n e. a.kept s n (named word p s ∙ e);
    values = λ i s e.
        let w = no_option k word words q i s e in
        let v = a.values w.0 s w.2 in
        (v.0, given_behind s i w.0 v.0 w.1 v.1, v.2);
    unset = λ i s e. let w = no_option k word words q i s e in sym (named word p s) ∙ a.unset w.0 s w.2;
    only = λ s n e. elim (a.only s n e) [
      | inl b ↦ inl (sym (named word p s) ∙ b)
      | inr w ↦ inr (suc w.0, behind_name k word words q w.0 ∙ w.1)
    ];
    once = λ i j s e f.
        let v = no_option k word words q i s e in
        let w = no_option k word words q j s f in
        v.1 ∙ ap (λ x. suc x) (a.once v.0 w.0 s v.2 w.2) ∙ sym w.1;
  }

  fails_behind_name : Fails k (with_name word p) words → Fails k p (word ∷ words)
  fails_behind_name f = record {
    i = suc f.i;
    setting = f.setting;
    option = behind_name k word words q f.i ∙ f.option;
    fault = elim f.fault [
      | inl v ↦ inl v
      | inr (inl w) ↦ inr (inl (suc w.0, let l : suc w.0 < suc f.i = omega (arith, w.1) in l, behind_name k word words q w.0 ∙ w.2))
      | inr (inr w) ↦ inr (inr (w.0, sym (named word p f.setting) ∙ w.1))
    ];
  }

  name_first : (o : Option Parted) → Outcome k (with_name word p) words o → Outcome k p (word ∷ words) o
  name_first None f = fails_behind_name f
  name_first (Some r) a = after_name r a

module _ (k : Kind) (p : Parted) (word value : List ℕ) (words : List (List ℕ)) (s : Setting) (q : setting_in k word ≡ Some s) (n : ℕ) (v : value_of s value ≡ Some n) (m : Parted) (d : Sets s n p m) where
  -- a setting with a value is this one, or had it before
  had : (t : Setting) (x : ℕ) → given_in t m ≡ Some x → (t ≡ s) ⊎ (given_in t p ≡ Some x)
  had t x e = elim (d.others t) [ inl b ↦ inl b | inr b ↦ inr (sym b ∙ e) ]

  was_unset : (t : Setting) → given_in t m ≡ None → given_in t p ≡ None
  was_unset t e = elim (d.others t) [
    | inl b ↦ absurd (let no : Some n ≡ None = sym d.given ∙ sym (ap (λ u. given_in u m) b) ∙ e in cc)
    | inr b ↦ sym b ∙ e
  ]

  stays : (t : Setting) (x : ℕ) → given_in t p ≡ Some x → given_in t m ≡ Some x
  stays t x e = elim (d.others t) [
    | inl b ↦ absurd (let no : None ≡ Some x = sym d.unset ∙ sym (ap (λ u. given_in u p) b) ∙ e in cc)
    | inr b ↦ b ∙ e
  ]

  module _ (r : Parted) (a : After k m words r) where
    own : given_in s r ≡ Some n
    own = a.kept s n d.given

    values_of : (i : ℕ) (t : Setting) → option_at k (word ∷ value ∷ words) i ≡ Some t → (x : ℕ) × IsGiven (word ∷ value ∷ words) t i x × (given_in t r ≡ Some x)
    values_of i t e = elim (which k word value words s q i t e) [
      | inl w ↦ (
        n,
        record { value = value; there = ap (λ y. slice_get (word ∷ value ∷ words) (suc y)) w.0; spelled = ap (λ u. value_of u value) (sym w.1) ∙ v },
        ap (λ u. given_in u r) (sym w.1) ∙ own,
      )
      | inr w ↦
          let g = a.values w.0 t w.2 in
          (g.0, record { value = g.1.value; there = ap (λ y. slice_get (word ∷ value ∷ words) (suc y)) w.1 ∙ g.1.there; spelled = g.1.spelled }, g.2)
    ]

    -- the first option has no second
    not_again : (j : ℕ) (t : Setting) → option_at k words j ≡ Some t → s ≡ t → ⊥
    not_again j t e f = let no : None ≡ Some n = sym (a.unset j t e) ∙ sym (ap (λ u. given_in u m) f) ∙ d.given in cc

    after_option : After k p (word ∷ value ∷ words) r
    after_option = record {
      names =
          a.names ∙ ap (λ xs. xs ++ names_among k words (length words)) d.names
          ∙ ap (λ xs. p.names ++ xs) (sym (names_behind_option k word value words s q (length words)));
      kept = λ t x e. a.kept t x (stays t x e);
      values = values_of;
      unset = λ i t e. elim (which k word value words s q i t e) [
        | inl w ↦ ap (λ u. given_in u p) (sym w.1) ∙ d.unset
        | inr w ↦ was_unset t (a.unset w.0 t w.2)
      ];
      only = λ t x e. elim (a.only t x e) [
        | inl b ↦ elim (had t x b) [ inl c ↦ inr (0, q ∙ ap (λ u. Some u) (sym c)) | inr c ↦ inl c ]
        | inr w ↦ inr (suc (suc w.0), behind_option k word value words s q w.0 ∙ w.1)
      ];
      once = λ i j t e f. elim (which k word value words s q i t e) [
        | inl w ↦ elim (which k word value words s q j t f) [
          | inl x ↦ w.0 ∙ sym x.0
          | inr x ↦ absurd (not_again x.0 t x.2 w.1)
        ]
        | inr w ↦ elim (which k word value words s q j t f) [
          | inl x ↦ absurd (not_again w.0 t w.2 x.1)
          | inr x ↦ w.1 ∙ ap (λ y. suc (suc y)) (a.once w.0 x.0 t w.2 x.2) ∙ sym x.1
        ]
      ];
    }

  fails_behind_option : Fails k m words → Fails k p (word ∷ value ∷ words)
  fails_behind_option f = record {
    i = suc (suc f.i);
    setting = f.setting;
    option = behind_option k word value words s q f.i ∙ f.option;
    fault = elim f.fault [
      | inl b ↦ inl b
      | inr (inl w) ↦ inr (inl (suc (suc w.0), let l : suc (suc w.0) < suc (suc f.i) = omega (arith, w.1) in l, behind_option k word value words s q w.0 ∙ w.2))
      | inr (inr w) ↦ elim (had f.setting w.0 w.1) [
        | inl c ↦ inr (inl (0, let l : 0 < suc (suc f.i) = omega arith in l, q ∙ ap (λ u. Some u) (sym c)))
        | inr c ↦ inr (inr (w.0, c))
      ]
    ];
  }

  option_first : (o : Option Parted) → Outcome k m words o → Outcome k p (word ∷ value ∷ words) o
  option_first None f = fails_behind_option f
  option_first (Some r) a = after_option r a

-- an option with a value behind it
valued : (k : Kind) (p : Parted) (word value : List ℕ) (words : List (List ℕ)) (s : Setting) → setting_in k word ≡ Some s
    → ((m : Parted) → Outcome k m words (parted_after k m words)) → Outcome k p (word ∷ value ∷ words) (option_and_then (λ m. parted_after k m words) (with_value s value p))
valued k p word value words s q rest = go (value_of s value) refl
  where
    placed_so : (n : ℕ) → value_of s value ≡ Some n → (o : Option Parted) → placed s n p ≡ o → Outcome k p (word ∷ value ∷ words) (option_and_then (λ m. parted_after k m words) o)
    placed_so n v None e = record { i = 0; setting = s; option = q; fault = inr (inr (is_set s n p e)) }
    placed_so n v (Some m) e = option_first k p word value words s q n v m (sets s n p m e) (parted_after k m words) (rest m)

    go : (o : Option ℕ) → value_of s value ≡ o → Outcome k p (word ∷ value ∷ words) (option_and_then (λ m. parted_after k m words) (option_and_then (λ n. placed s n p) o))
    go None v = record { i = 0; setting = s; option = q; fault = inl (inr (value, refl, v)) }
    go (Some n) v = placed_so n v (placed s n p) refl

outcome : (k : Kind) (p : Parted) (words : List (List ℕ)) → Outcome k p words (parted_after k p words)
unfolding parted_after
outcome k p [] = no_words k p
outcome k p (word ∷ []) = go (setting_in k word) refl
  where
    go : (o : Option Setting) → setting_in k word ≡ o → Outcome k p (word ∷ []) (by_setting o (Some (with_name word p)) (λ s. None))
    go None q = after_name k p word [] q (with_name word p) (no_words k (with_name word p))
    go (Some s) q = record { i = 0; setting = s; option = q; fault = inl (inl refl) }
outcome k p (word ∷ value ∷ words) = go (outcome k (with_name word p) (value ∷ words)) (λ m. outcome k m words) (setting_in k word) refl
  where
    go : Outcome k (with_name word p) (value ∷ words) (parted_after k (with_name word p) (value ∷ words)) → ((m : Parted) → Outcome k m words (parted_after k m words))
        → (o : Option Setting) → setting_in k word ≡ o
        → Outcome k p (word ∷ value ∷ words) (by_setting o (parted_after k (with_name word p) (value ∷ words)) (λ s. option_and_then (λ m. parted_after k m words) (with_value s value p)))
    go behind rest None q = name_first k p word (value ∷ words) q (parted_after k (with_name word p) (value ∷ words)) behind
    go behind rest (Some s) q = valued k p word value words s q rest

none_given : (s : Setting) → given_in s nothing ≡ None
none_given Fuel = refl
none_given Quantum = refl
none_given Depth = refl
none_given Seed = refl
none_given Workers = refl
none_given Attempts = refl

pub parting_law : PartingLaw
parting_law k words = go (parted k words) (outcome k nothing words)
  where
    go : (o : Option Parted) → Outcome k nothing words o → MatchOption o (IsUnparted k words) (IsParting k words)
    go None f = record {
      i = f.i;
      setting = f.setting;
      option = f.option;
      fault = elim f.fault [
        | inl v ↦ inl v
        | inr (inl w) ↦ inr w
        | inr (inr w) ↦ absurd (let no : None ≡ Some w.0 = sym (none_given f.setting) ∙ w.1 in cc)
      ];
    }
    go (Some r) a = record {
      names = a.names;
      values = a.values;
      only = λ s n e. elim (a.only s n e) [
        | inl b ↦ absurd (let no : None ≡ Some n = sym (none_given s) ∙ b in cc)
        | inr w ↦ w
      ];
      once = a.once;
    }
