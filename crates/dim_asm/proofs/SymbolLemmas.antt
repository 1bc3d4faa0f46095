-- Lists of texts by their bytes.
use Rattle.std.proofs.Common.{◌≡◌, ◌+◌, ℕ, Bool, false, cond, ltb, List, [], ◌∷◌, ◌++◌, length, map, Some, None, refl, sym, ap, ◌∙◌, ◌||◌}
use Rattle.std.specs.Prelude.{not}
use Rattle.std.proofs.lemmas.List.{length-map}
use Rattle.std.specs.Prelude.{if◌then◌else◌}
use Rattle.std.proofs.lemmas.List.{map-append}
use Rattle.std.specs.Str.{bytes_eq}
use Rattle.std.specs.String.{string_bytes, string_eq}
use Rattle.std.specs.declared.alloc.Global.{Global}
use Rattle.std.specs.declared.string.String.{String}
use Rattle.std.specs.List.{position, position_or_len, list_any}
use Rattle.dim_asm.specs.Code.{has_name}

position_or_len-map : {X Y : Type 0} (f : X → Y) (p : Y → Bool) (xs : List X) → position_or_len p (map f xs) ≡ position_or_len (λ x. p (f x)) xs
position_or_len-map f p [] = refl
position_or_len-map f p (x ∷ xs) = ap (λ n. cond (not (p (f x))) (1 + n) 0) (position_or_len-map f p xs)

pub position-map : {X Y : Type 0} (f : X → Y) (p : Y → Bool) (xs : List X) → position p (map f xs) ≡ position (λ x. p (f x)) xs
position-map f p xs =
    ap (λ i. cond (ltb i (length (map f xs))) (Some i) None) (position_or_len-map f p xs)
    ∙ ap (λ n. cond (ltb (position_or_len (λ x. p (f x)) xs) n) (Some (position_or_len (λ x. p (f x)) xs)) None) (length-map xs f)

pub list_any-map : {X Y : Type 0} (f : X → Y) (p : Y → Bool) (xs : List X) → list_any p (map f xs) ≡ list_any (λ x. p (f x)) xs
list_any-map f p [] = refl
list_any-map f p (x ∷ xs) = ap (λ b. p (f x) || b) (list_any-map f p xs)

-- a key that none of the others is goes last
pub added : (keys : List (String Global)) (key : String Global) (words : List (List ℕ)) (name : List ℕ) → map string_bytes keys ≡ words → string_bytes key ≡ name → has_name words name ≡ false
    → map string_bytes (if list_any (string_eq key) keys then keys else (keys ++ key ∷ [])) ≡ words ++ name ∷ []
added keys key words name same is none =
    let new : list_any (string_eq key) keys ≡ false = sym (list_any-map string_bytes (bytes_eq (string_bytes key)) keys) ∙ rw (is, same) none in
    rw new (map-append string_bytes keys (key ∷ []) ∙ rw (is, same) refl)
