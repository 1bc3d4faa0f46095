-- What is taken from what was found is what the words give.
use Rattle.std.proofs.Common.{◌≡◌, ◌∙◌, ◌++◌, ℕ, Bool, false, true≢false, List, [], ◌∷◌, Option, Some, None, option_map, option_and_then, refl, sym, ap, subst, is_some, append-nil, append_assoc}
use Rattle.clap.specs.Words.{Text}
use Rattle.dim_words.specs.declared.kind.Setting.{Setting}
use Rattle.dim_words.specs.declared.kind.Setting.TheVariants.{Fuel, Quantum, Depth, Seed, Workers, Attempts}
use Rattle.dim_words.specs.declared.seen.Seen.{Seen}
use Rattle.dim_words.specs.Words.{Parted, placed, unset, value_of, with_name}
use Rattle.dim_words.specs.Kept.{Kept, has_seen, keep_given, keep_name, mark}
use Rattle.dim_words.specs.Places.{given_in}
use Rattle.dim_words.specs.Found.{given_value}
use Rattle.dim_words.proofs.Items.{Given, Item, Name, keep_items, option_word, part_items}
use Rattle.dim_words.proofs.Walks.{given_kept, name_kept, names_of, then_is}
use Rattle.dim_words.proofs.WordPlaces.{named, placed_is, set_in, set_names, unset_is}
use Rattle.dim_words.proofs.Level.{given_of}

-- ---- settings

-- the settings set are those that were met
abbrev pub Agree : Parted → Seen → Type 0
Agree p seen = (t : Setting) → has_seen t seen ≡ is_some (given_in t p)

-- a setting's value: the one set, or the one given later
abbrev pub late : Option ℕ → Setting → List Item → Option (Option ℕ)
late (Some n) t is = Some (Some n)
late None t is = given_value t (given_of t is)

-- the values of all settings, where each has one that is right or none
abbrev pub made : (Setting → Option (Option ℕ)) → List Text → Option Parted
made f names =
    option_and_then (λ fuel. option_and_then (λ quantum. option_and_then (λ depth. option_and_then (λ seed. option_and_then (λ workers. option_and_then (λ attempts.
    let p : Parted = record { names = names; fuel = fuel; quantum = quantum; depth = depth; seed = seed; workers = workers; attempts = attempts } in Some p)
    (f Attempts)) (f Workers)) (f Seed)) (f Depth)) (f Quantum)) (f Fuel)

abbrev pub merged : Parted → List Item → Option Parted
merged p is = made (λ t. late (given_in t p) t is) (p.names ++ names_of is)

here : {X Y : Type 0} (o : Option X) (f : X → Option Y) → o ≡ None → option_and_then f o ≡ None
here o f none = ap (option_and_then f) none

behind : {X Y : Type 0} (o : Option X) (f : X → Option Y) → ((x : X) → f x ≡ None) → option_and_then f o ≡ None
behind None f none = refl
behind (Some x) f none = none x

-- a wrong value of one setting
none_made : (f : Setting → Option (Option ℕ)) (names : List Text) (t : Setting) → f t ≡ None → made f names ≡ None
none_made f names Fuel none = here (f Fuel) _ none
none_made f names Quantum none = behind (f Fuel) _ (λ a. here (f Quantum) _ none)
none_made f names Depth none = behind (f Fuel) _ (λ a. behind (f Quantum) _ (λ b. here (f Depth) _ none))
none_made f names Seed none = behind (f Fuel) _ (λ a. behind (f Quantum) _ (λ b. behind (f Depth) _ (λ c. here (f Seed) _ none)))
none_made f names Workers none =
    behind (f Fuel) _ (λ a. behind (f Quantum) _ (λ b. behind (f Depth) _ (λ c. behind (f Seed) _ (λ d. here (f Workers) _ none))))
none_made f names Attempts none =
    behind (f Fuel) _ (λ a. behind (f Quantum) _ (λ b. behind (f Depth) _ (λ c. behind (f Seed) _ (λ d. behind (f Workers) _ (λ e. here (f Attempts) _ none)))))

late_end : (o : Option ℕ) (t : Setting) → late o t [] ≡ Some o
late_end (Some n) t = refl
late_end None t = refl

late_skip : (o : Option ℕ) (t : Setting) (i : Item) (is : List Item) → given_of t (i ∷ is) ≡ given_of t is → late o t (i ∷ is) ≡ late o t is
late_skip (Some n) t i is e = refl
late_skip None t i is e = ap (given_value t) e

-- the value that stands here
late_here : (t : Setting) (v : Text) (is : List Item) (o : Option ℕ) → o ≡ None → given_of t (Given t v ∷ is) ≡ Some v → late o t (Given t v ∷ is) ≡ option_map (λ n. Some n) (value_of t v)
late_here t v is o none first = ap (λ x. late x t (Given t v ∷ is)) none ∙ ap (given_value t) first

given_first : (t : Setting) (v : Text) (is : List Item) → given_of t (Given t v ∷ is) ≡ Some v
given_first Fuel v is = refl
given_first Quantum v is = refl
given_first Depth v is = refl
given_first Seed v is = refl
given_first Workers v is = refl
given_first Attempts v is = refl

-- a value that is set once its option is met is the one given later before
late_set : (s t : Setting) (n : ℕ) (v : Text) (is : List Item) (p : Parted) → late (given_in s p) s (Given s v ∷ is) ≡ Some (Some n)
    → late (given_in t (set_in s n p)) t is ≡ late (given_in t p) t (Given s v ∷ is)
late_set Fuel Fuel n v is p first = sym first
late_set Quantum Quantum n v is p first = sym first
late_set Depth Depth n v is p first = sym first
late_set Seed Seed n v is p first = sym first
late_set Workers Workers n v is p first = sym first
late_set Attempts Attempts n v is p first = sym first
late_set s t n v is p first = sym (late_skip (given_in t p) t (Given s v) is refl)

pub no_field : (o : Option ℕ) (b : Bool) → b ≡ false → b ≡ is_some o → o ≡ None
no_field None b e h = refl
no_field (Some n) b e h = absurd (true≢false (sym h ∙ e))

marked_too : (s t : Setting) (n : ℕ) (p : Parted) (seen : Seen) → has_seen t seen ≡ is_some (given_in t p) → has_seen t (mark s seen) ≡ is_some (given_in t (set_in s n p))
marked_too Fuel Fuel n p seen h = refl
marked_too Quantum Quantum n p seen h = refl
marked_too Depth Depth n p seen h = refl
marked_too Seed Seed n p seen h = refl
marked_too Workers Workers n p seen h = refl
marked_too Attempts Attempts n p seen h = refl
marked_too s t n p seen h = h

pub agree_name : (w : Text) (p : Parted) (seen : Seen) → Agree p seen → Agree (with_name w p) seen
agree_name w p seen agree = λ t. agree t ∙ ap is_some (sym (named w p t))

pub agree_set : (t : Setting) (n : ℕ) (p q : Parted) (seen : Seen) → placed t n p ≡ Some q → Agree p seen → Agree q (mark t seen)
agree_set t n p q seen e agree =
    subst (λ x. Agree x (mark t seen)) (unset_is (given_in t p) (set_in t n p) q (sym (placed_is t n p) ∙ e)).1 (λ u. marked_too t u n p seen (agree u))

pub merges : (is : List Item) (p : Parted) (k e : Kept) → keep_items k is ≡ Some e → Agree p k.seen → part_items p is ≡ merged p is
merges [] p k e all agree = sym (λ i. made (λ t. late_end (given_in t p) t i) (append-nil p.names i))
merges (Name w ∷ is) p k e all agree =
    let m = then_is (keep_name w k) (λ q. keep_items q is) e all in
    merges is (with_name w p) m.0 e m.2 (subst (Agree (with_name w p)) (sym (name_kept w k m.0 m.1).seen) (agree_name w p k.seen agree))
    ∙ (λ i. made (λ t. late (named w p t i) t is) (append_assoc p.names (w ∷ []) (names_of is) i))
    ∙ sym (λ i. made (λ t. late_skip (given_in t p) t (Name w) is refl i) (p.names ++ names_of (Name w ∷ is)))
merges (Given s v ∷ is) p k e all agree =
    let m = then_is (keep_given s (option_word s) v k) (λ q. keep_items q is) e all in
    let g = given_kept s v k m.0 m.1 in
    let none : given_in s p ≡ None = no_field (given_in s p) (has_seen s k.seen) g.unseen (agree s) in
    let first : late (given_in s p) s (Given s v ∷ is) ≡ option_map (λ n. Some n) (value_of s v) = late_here s v is (given_in s p) none (given_first s v is) in
    go none first (λ n. merges is (set_in s n p) m.0 e m.2 (λ t. ap (has_seen t) g.seen ∙ marked_too s t n p k.seen (agree t))) (value_of s v) refl
  where
    go : given_in s p ≡ None → late (given_in s p) s (Given s v ∷ is) ≡ option_map (λ n. Some n) (value_of s v) → ((n : ℕ) → part_items (set_in s n p) is ≡ merged (set_in s n p) is)
        → (o : Option ℕ) → value_of s v ≡ o → option_and_then (λ q. part_items q is) (option_and_then (λ n. placed s n p) o) ≡ merged p (Given s v ∷ is)
    go none first ih None at = sym (none_made (λ t. late (given_in t p) t (Given s v ∷ is)) (p.names ++ names_of is) s (first ∙ ap (option_map (λ n. Some n)) at))
    go none first ih (Some n) at =
        ap (option_and_then (λ q. part_items q is)) (placed_is s n p ∙ ap (λ o. unset o (set_in s n p)) none) ∙ ih n
        ∙ (λ i. made (λ t. late_set s t n v is p (first ∙ ap (option_map (λ n. Some n)) at) i) (set_names s n p i ++ names_of is))
