-- What contracts see of the files in memory that fail when they are told to.
use Rattle.std.specs.Prelude.{ℕ, List}
use Rattle.dim_base.specs.declared.memory_files.MemFiles.{MemFiles}
use Rattle.dim_base.specs.Files.{Named}
use Rattle.dim_base.specs.SureFiles as sure

-- what stands under each name
abbrev pub files_of : MemFiles → Named
files_of f = sure.files_of f.sure

-- the numbers of the calls that are to fail, counted from 1
abbrev pub failing_of : MemFiles → List ℕ
failing_of f = f.calls.numbers.items

-- how many calls of the trait were made
abbrev pub calls_of : MemFiles → ℕ
calls_of f = f.calls.made
