-- Where the functions of candidates have their names.
use Rattle.std.specs.Prelude.{ℕ, List}
use Rattle.dim_asm.specs.Code.{Code}
use Rattle.dim_signature.specs.Sig.{Sig}
use Rattle.dim_history_file.specs.Grammar.{AreNear}
use Rattle.dim_history_file.specs.Value.{AreNamed}
use Rattle.dim_trace.specs.Grammar.{IsTrace}
use Rattle.dim_trace.specs.Value.{TraceValue}
use Rattle.dim_predict.specs.Candidates.{candidates_of}

-- each function of a candidate stands in the table in which those of the trace do, and no offset is
-- above 65,535, whatever is loaded and at each depth
abbrev pub FunctionsLaw : Type 0
FunctionsLaw = (p : Code) (names : List (List ℕ)) (t : TraceValue) → IsTrace p names t
    → (loaded : List Sig) (depth : ℕ)
    → AreNamed names (candidates_of loaded depth t.entries)
    × AreNear (candidates_of loaded depth t.entries)
