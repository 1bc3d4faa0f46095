-- What contracts see of the sink in memory that fails when it is told to.
use Rattle.std.specs.Prelude.{ℕ, List}
use Rattle.dim_base.specs.declared.memory_sink.MemSink.{MemSink}
use Rattle.dim_base.specs.SureSink as sure

-- the bytes taken so far
abbrev pub bytes_of : MemSink → List ℕ
bytes_of s = sure.bytes_of s.sure

-- the numbers of the calls that are to fail, counted from 1
abbrev pub failing_of : MemSink → List ℕ
failing_of s = s.calls.numbers.items

-- how many calls of the trait were made
abbrev pub calls_of : MemSink → ℕ
calls_of s = s.calls.made
