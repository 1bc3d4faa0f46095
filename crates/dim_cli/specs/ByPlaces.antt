-- What the entries of a run say of what it leaves, by places and by the cycles that stand.
use Rattle.std.specs.Prelude.{◌≡◌, ◌≢◌, ◌↔◌, ◌≤◌, ℕ, List, length}
use Rattle.dim_asm.specs.Code.{thread_count}
use Rattle.dim_history_file.specs.Spelling.{history_text}
use Rattle.dim_rag.specs.declared.entry.Entry.{Entry}
use Rattle.dim_rag.specs.History.{past}
use Rattle.dim_signature.specs.Sig.{Sig}
use Rattle.dim_execution.specs.Start.{gate_of}
use Rattle.dim_schedule.specs.declared.settings.Settings.{Settings}
use Rattle.dim_run.specs.Grown.{grown}
use Rattle.dim_run.specs.Learnt.{AreLearnt}
use Rattle.dim_run.specs.Outcome.{HasCycle, HaveEnded}
use Rattle.dim_inquiry.specs.Inputs.{Inputs, program_of}
use Rattle.dim_commands.specs.Output.{grown_from}

-- The status that goes with a history of n threads, where the report could be put: 3 exactly where
-- a cycle stands at its end; where none does, 0 exactly where each thread has ended, and else 4.
pub record TellsCycles (n : ℕ) (h : List Entry) (status : ℕ) : Type 0 where
  pub deadlocked : (status ≡ 3) ↔ HasCycle n h
  pub finished : (status ≡ 0) ↔ ((HasCycle n h → ⊥) × HaveEnded n h)
  pub stalled : (status ≡ 4) ↔ ((HasCycle n h → ⊥) × (HaveEnded n h → ⊥))

-- What a run with these entries, from some signatures, leaves. The signatures are those that it
-- began from, with the Yields that name them counted, and then one for each Learn, with the stacks
-- of the cycle or the starvation that stands before it; that of each cycle that ever stood is among
-- them. The text of their history is no longer than a fetch takes. The status tells whether a cycle
-- stands at the end, but for 8, with which the report could not be put.
pub record ByPlaces (x : Inputs) (sigs : List Sig) (s : Settings) (entries : List Entry) (status : ℕ) : Type 0 where
  pub learnt : AreLearnt (gate_of (program_of x) sigs s.depth) entries (grown sigs s.depth entries)
  pub short : length (history_text (grown_from x sigs s entries)) ≤ 8388608
  pub tells : status ≢ 8 → TellsCycles (thread_count (program_of x)) (past entries) status
