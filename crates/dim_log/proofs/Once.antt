-- Lists of things that stand once.
use Rattle.std.proofs.Common.{◌≡◌, ◌≤◌, ◌+◌, ℕ, Bool, true, false, ◌||◌, not, List, [], ◌∷◌, ◌++◌, length, map, Some, slice_get, refl, sym, ap, ◌∙◌, append_assoc, append-nil, arith, if◌then◌else◌}
use Rattle.std.specs.Borrow.{Bor}
use Rattle.std.specs.List.{list_any, flat_map}
use Rattle.std.specs.Option.{option_map}
use Rattle.std.specs.Str.{bytes_eq}
use Rattle.std.proofs.lemmas.List.{map-append, length_push}
use Rattle.std.proofs.lemmas.List.Concat.{flat_map-append}
use Rattle.std.proofs.lemmas.List.Sums.{fold-append}
use Rattle.std.proofs.lemmas.Option.{slice_get-map, get_or_from_slice_get}
use Rattle.std.proofs.lemmas.Slice.Eq.{bytes_eq-Decides}
use Rattle.dim_log.specs.Tables.{with_new, with_all, each_once}
use Rattle.dim_log.specs.Seen.{word_at}

-- new is old, and more
abbrev pub Extends : {X : Type 0} → List X → List X → Type 0
Extends {X} old new = (more : List X) × (new ≡ old ++ more)

pub extends_trans : {X : Type 0} (a b c : List X) → Extends a b → Extends b c → Extends a c
extends_trans a b c h k = (h.0 ++ k.0, k.1 ∙ ap (λ xs. xs ++ k.0) h.1 ∙ append_assoc a h.0 k.0)

pub extends_same : {X : Type 0} (a : List X) → Extends a a
extends_same a = ([], sym (append-nil a))

module _ {X : Type 0} (same : X → X → Bool) where
  pub with_known : (xs : List X) (x : X) → list_any (same x) xs ≡ true → with_new same xs x ≡ xs
  with_known xs x h = ap (λ b. if b then xs else xs ++ x ∷ []) h

  pub with_unknown : (xs : List X) (x : X) → list_any (same x) xs ≡ false → with_new same xs x ≡ xs ++ x ∷ []
  with_unknown xs x h = ap (λ b. if b then xs else xs ++ x ∷ []) h

  pub new_extends : (xs : List X) (x : X) → Extends xs (with_new same xs x)
  new_extends xs x = go (list_any (same x) xs)
    where
      go : (b : Bool) → Extends xs (if b then xs else xs ++ x ∷ [])
      go true = extends_same xs
      go false = (x ∷ [], refl)

  pub all_extends : (new xs : List X) → Extends xs (with_all same xs new)
  all_extends [] xs = extends_same xs
  all_extends (x ∷ new) xs = extends_trans xs (with_new same xs x) (with_all same (with_new same xs x) new) (new_extends xs x) (all_extends new (with_new same xs x))

  pub new_length : (xs : List X) (x : X) → length (with_new same xs x) ≤ length xs + 1
  new_length xs x = go (list_any (same x) xs)
    where
      go : (b : Bool) → length (if b then xs else xs ++ x ∷ []) ≤ length xs + 1
      go true = omega arith
      go false = omega (arith, length_push xs x)

  pub all_length : (new xs : List X) → length (with_all same xs new) ≤ length xs + length new
  all_length [] xs = omega arith
  all_length (x ∷ new) xs = omega (arith, all_length new (with_new same xs x), new_length xs x)

  -- what one thing more names
  pub once_more : {Y : Type 0} (f : Y → List X) (ys : List Y) (y : Y) → each_once same (flat_map f (ys ++ y ∷ [])) ≡ with_all same (each_once same (flat_map f ys)) (f y)
  once_more f ys y =
      ap (each_once same) (flat_map-append f ys (y ∷ []) ∙ ap (λ xs. flat_map f ys ++ xs) (append-nil (f y)))
      ∙ fold-append (with_new same) [] (flat_map f ys) (f y)

abbrev bytes_of : List (Bor (List ℕ)) → List (List ℕ)
bytes_of keys = map (λ (k : Bor (List ℕ)). k.now) keys

abbrev has : Bor (List ℕ) → List (Bor (List ℕ)) → Bool
has key keys = list_any (λ (k : Bor (List ℕ)). bytes_eq key.now k.now) keys

pub has_bytes : (key : Bor (List ℕ)) (keys : List (Bor (List ℕ))) → has key keys ≡ list_any (bytes_eq key.now) (bytes_of keys)
has_bytes key [] = refl
has_bytes key (k ∷ keys) = ap (λ b. bytes_eq key.now k.now || b) (has_bytes key keys)

-- a key that is inserted
pub inserted : (keys new : List (Bor (List ℕ))) (key : Bor (List ℕ)) → new ≡ (if has key keys then keys else keys ++ key ∷ []) → bytes_of new ≡ with_new bytes_eq (bytes_of keys) key.now
inserted keys new key e = ap bytes_of e ∙ go (has key keys) ∙ ap (λ b. if b then bytes_of keys else bytes_of keys ++ key.now ∷ []) (has_bytes key keys)
  where
    go : (b : Bool) → bytes_of (if b then keys else keys ++ key ∷ []) ≡ (if b then bytes_of keys else bytes_of keys ++ key.now ∷ [])
    go true = refl
    go false = map-append (λ (k : Bor (List ℕ)). k.now) keys (key ∷ [])

pub stands : (new : List (Bor (List ℕ))) (key k : Bor (List ℕ)) (n : ℕ) → slice_get new n ≡ Some k → bytes_eq key.now k.now ≡ true → word_at (bytes_of new) n ≡ key.now
stands new key k n at is =
    get_or_from_slice_get (bytes_of new) n k.now [] (slice_get-map (λ (k : Bor (List ℕ)). k.now) new n ∙ ap (option_map (λ (k : Bor (List ℕ)). k.now)) at)
    ∙ sym ((bytes_eq-Decides key.now k.now).0 is)

pub new_from : (has is_new : Bool) → is_new ≡ not has → is_new ≡ true → has ≡ false
new_from true is_new e h = cc (e, h)
new_from false is_new e h = refl

pub known_from : (has is_new : Bool) → is_new ≡ not has → is_new ≡ false → has ≡ true
known_from true is_new e h = refl
known_from false is_new e h = cc (e, h)
