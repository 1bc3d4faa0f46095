-- What contracts see of a history.
use Rattle.std.specs.Prelude.{List}
use Rattle.dim_history_file.specs.declared.history.History.{History}
use Rattle.dim_history_file.specs.Value.{NamedSig, named}

abbrev pub value_of : History → List NamedSig
value_of h = named h.names h.catalogue.sigs
