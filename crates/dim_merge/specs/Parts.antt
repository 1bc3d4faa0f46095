-- What contracts see of two histories on the way to one.
use Rattle.std.specs.Prelude.{List, ◌++◌}
use Rattle.dim_history_file.specs.Seen.{value_of}
use Rattle.dim_history_file.specs.Value.{NamedSig}
use Rattle.dim_merge.specs.declared.parted.Parts.{Parts}

-- the signatures that both parts make
abbrev pub sigs_of : Parts → List NamedSig
sigs_of parts = value_of parts.known ++ value_of parts.added
