use Rattle.std.proofs.Common.{◌≡◌, ◌++◌, ◌∷◌, [], ap, map, sym, ◌∙◌, arith}
use Rattle.std.proofs.lemmas.List.{length-append}
use Rattle.std.specs.String.{string_bytes}
use Rattle.dim_asm.proofs.SymbolLemmas.{added}
use Rattle.dim_asm.proofs.symbols.Symbols.add.Goals as goal

pub invariant_of-self-2 : goal.invariant_of-self-2
invariant_of-self-2 c =
    let keys = c.self.inside.places.keys in
    let key = c.in_ok-key.key in
    let last = added keys key c.args.self.now c.args.name.now (c.self.invariant.places ∙ c.self.view_is) c.in_ok-key.ensures.ok c.requires.free in
    let all : map string_bytes c.insert.new.self.keys ≡ c.args.self.now ++ c.args.name.now ∷ [] = ap (map string_bytes) c.in_ok-insert.ensures.keys ∙ last in
    let items : c.push_reserved.new.self.items ≡ c.args.self.now ++ c.args.name.now ∷ [] = rw (c.push_reserved.ensures.items, c.reserve.ensures.items, c.in_ok-word.ensures) (ap (λ ws. ws ++ c.args.name.now ∷ []) c.self.view_is) in
    record {
      places = all ∙ sym items;
      few = rw items (omega (arith, length-append c.args.self.now (c.args.name.now ∷ []), c.requires.few));
    }
