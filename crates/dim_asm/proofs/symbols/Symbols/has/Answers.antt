use Rattle.std.proofs.Common.{sym, ap, ◌∙◌}
use Rattle.std.specs.String.{string_bytes}
use Rattle.std.specs.Str.{bytes_eq}
use Rattle.std.specs.List.{list_any}
use Rattle.dim_asm.proofs.SymbolLemmas.{list_any-map}
use Rattle.dim_asm.proofs.symbols.Symbols.has.Goals as goal

pub returns : goal.returns
returns c =
    let p = bytes_eq c.args.name.now in
    c.contains.ensures ∙ sym (list_any-map string_bytes p c.self.inside.places.keys) ∙ ap (list_any p) (c.self.invariant.places ∙ c.self.view_is)
