-- The table in the code is that of the definitions.
use Rattle.std.proofs.Common.{◌≡◌, ℕ, ◌+◌, ◌<◌, false, cond, List, length, map, drop, get_or, Option, Some, sym, ap, ◌∙◌}
use Rattle.std.specs.Prelude.{find}
use Rattle.std.specs.Option.{option_map}
use Rattle.std.specs.Str.{bytes_eq}
use Rattle.std.specs.Borrow.{Bor}
use Rattle.std.proofs.lemmas.List.{drop_more}
use Rattle.dim_asm.specs.declared.mnemonic.Mnemonic.{Mnemonic}

-- a row, by the bytes of its word
abbrev pub seen : Bor (List ℕ) × Mnemonic → List ℕ × Mnemonic
seen row = (row.0.now, row.1)

abbrev pub look_up : List ℕ → List (List ℕ × Mnemonic) → Option Mnemonic
look_up word table = option_map (λ row. row.1) (find (λ row. bytes_eq word row.0) table)

-- a row whose word is another one may be skipped
pub skipped : (word : List ℕ) (table : List (Bor (List ℕ) × Mnemonic)) (i : ℕ) (d : Bor (List ℕ) × Mnemonic) → i < length table → bytes_eq word (get_or table i d).0.now ≡ false
    → look_up word (map seen (drop (i + 1) table)) ≡ look_up word (map seen (drop i table))
skipped word table i d lt other =
    let here = get_or table i d in
    let rest = map seen (drop (i + 1) table) in
    sym (ap (λ rows. look_up word (map seen rows)) (drop_more table i d lt) ∙ ap (λ b. option_map (λ (row : List ℕ × Mnemonic). row.1) (cond b (Some (seen here)) (find (λ row. bytes_eq word row.0) rest))) other)
