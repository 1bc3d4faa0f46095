-- Which lists of entries execute a program.
use Rattle.std.specs.Prelude.{ℕ, List}
use Rattle.dim_asm.specs.Code.{Code}
use Rattle.dim_rag.specs.declared.entry.Entry.{Entry}
use Rattle.dim_rag.specs.History.{past}
use Rattle.dim_gate.specs.Gate.{Constants}
use Rattle.dim_gate.specs.Legal.{Legal}
use Rattle.dim_gate.specs.Settled.{IsSettled}
use Rattle.dim_vm.specs.Walks.{Walks}

-- entries, oldest first, execute a program, whose gate has these constants, with so much fuel for
-- each thread: they are a legal history, each thread's own entries are the moves of its machine,
-- and they are settled
pub record Executes (c : Constants) (p : Code) (fuel : ℕ) (entries : List Entry) : Type 0 where
  pub legal : Legal c (past entries)
  pub walks : Walks p fuel (past entries)
  pub settled : IsSettled c (past entries)
