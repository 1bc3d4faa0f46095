-- What contracts see of the sink in memory that never fails.
use Rattle.std.specs.Prelude.{ℕ, List}
use Rattle.dim_base.specs.declared.memory_sink.SureSink.{SureSink}

-- the bytes taken so far
abbrev pub bytes_of : SureSink → List ℕ
bytes_of s = s.bytes.items
