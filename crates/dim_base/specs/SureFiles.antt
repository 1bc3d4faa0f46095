-- What contracts see of the files in memory that never fail.
use Rattle.std.specs.Prelude.{ℕ, Vec}
use Rattle.std.specs.Option.{option_map}
use Rattle.std.specs.BTreeMap.{BTreeMap, get_by_text}
use Rattle.std.specs.declared.alloc.Global.{Global}
use Rattle.std.specs.declared.string.String.{String}
use Rattle.dim_base.specs.declared.memory_files.SureFiles.{SureFiles}
use Rattle.dim_base.specs.Files.{Named}

-- what a map has under each name
abbrev pub named_by : BTreeMap (String Global) (Vec ℕ Global) → Named
named_by map name = option_map (λ (v : Vec ℕ Global). v.items) (get_by_text map name)

-- what stands under each name
abbrev pub files_of : SureFiles → Named
files_of f = named_by f.files
