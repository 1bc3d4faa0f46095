-- Names as texts.
use Rattle.std.proofs.Common.{◌≡◌, ◌<◌, ℕ, Bool, true, false, ◌&&◌, List, [], ◌∷◌, arith, refl, subst}
use Rattle.std.specs.Prelude.{◌==◌, IsUtf8}
use Rattle.std.specs.List.{list_all, AllByRecursion}
use Rattle.std.specs.Str.{IsAscii}
use Rattle.std.proofs.lemmas.Bool.{ne_eqb}
use Rattle.std.proofs.lemmas.Bool.Decides.{nat_tests}
use Rattle.std.proofs.lemmas.Str.{IsUtf8-from_ascii}
use Rattle.std.proofs.lemmas.Str.Ascii.{IsAscii-nil, IsAscii-cons}
use Rattle.std.proofs.lemmas.List.Elements.{All-from_recursion}
use Rattle.dim_text.specs.Cuts.{HasNo}
use Rattle.dim_text.specs.Naming.{is_name_byte, IsName}

both : (a b : Bool) → (a && b) ≡ true → (a ≡ true) × (b ≡ true)
both true b h = (refl, h)
both false b h = cc

name_byte_small : (c : ℕ) → is_name_byte c ≡ true → c < 128
name_byte_small c h = grind (arith, nat_tests)

-- what a name has no byte of: no space, no line feed and no colon among others
pub name_byte_other : (c d : ℕ) → is_name_byte c ≡ true → is_name_byte d ≡ false → (c == d) ≡ false
name_byte_other c d h k = ne_eqb c d (λ e. let here : is_name_byte d ≡ true = subst (λ x. is_name_byte x ≡ true) e h in cc)

name_bytes_ascii : (word : List ℕ) → list_all is_name_byte word ≡ true → IsAscii word
name_bytes_ascii [] h = IsAscii-nil
name_bytes_ascii (c ∷ cs) h = let p = both (is_name_byte c) (list_all is_name_byte cs) h in IsAscii-cons c cs (name_byte_small c p.0) (name_bytes_ascii cs p.1)

name_bytes : (word : List ℕ) → IsName word → list_all is_name_byte word ≡ true
name_bytes word h = (both _ _ (both _ _ h).1).1

pub IsUtf8_name : (word : List ℕ) → IsName word → IsUtf8 word
IsUtf8_name word h = IsUtf8-from_ascii word (name_bytes_ascii word (name_bytes word h))

pub HasNo-name : (c : ℕ) (word : List ℕ) → is_name_byte c ≡ false → IsName word → HasNo c word
HasNo-name c word other name = All-from_recursion (λ b. (b == c) ≡ false) word (each word (name_bytes word name))
  where
    each : (bytes : List ℕ) → list_all is_name_byte bytes ≡ true → AllByRecursion (λ b. (b == c) ≡ false) bytes
    each [] h = tt
    each (b ∷ bytes) h = let p = both (is_name_byte b) (list_all is_name_byte bytes) h in (name_byte_other b c p.0 other, each bytes p.1)
