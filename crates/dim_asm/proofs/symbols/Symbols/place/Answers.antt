use Rattle.std.proofs.Common.{sym, ap, ◌∙◌}
use Rattle.std.specs.String.{string_bytes}
use Rattle.std.specs.Str.{bytes_eq}
use Rattle.std.specs.List.{position}
use Rattle.dim_asm.proofs.SymbolLemmas.{position-map}
use Rattle.dim_asm.proofs.symbols.Symbols.place.Goals as goal

pub returns-clause-value : goal.returns-clause-value
returns-clause-value c =
    let p = bytes_eq c.args.name.now in
    c.get_index_of.ensures.index ∙ sym (position-map string_bytes p c.self.inside.places.keys) ∙ ap (position p) (c.self.invariant.places ∙ c.self.view_is)
