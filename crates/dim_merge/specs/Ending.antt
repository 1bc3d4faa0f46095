-- What the program comes to, and what it leaves.
use Rattle.std.specs.Prelude.{◌≡◌, ◌≢◌, ◌⊎◌, ℕ, List, Option, Some, Result, Ok, Err}
use Rattle.std.specs.Io.KnownBytes.{append_known}
use Rattle.dim_base.specs.Causes.{Rose}
use Rattle.dim_base.specs.Files.{Named, with_file}
use Rattle.dim_base.specs.Sink.{TakesFront}
use Rattle.dim_base.specs.declared.sink.Sink.{Ghosts}
use Rattle.dim_merge.specs.declared.stop.Refusal.{Refusal}
use Rattle.dim_merge.specs.declared.stop.Stop.{Stop}
use Rattle.dim_merge.specs.declared.stop.Stop.TheVariants as stops
use Rattle.dim_merge.specs.Course.{Made}
use Rattle.dim_merge.specs.Lines.{refusal_line, refusal_status}

-- a sink at one moment: its count of faults, and the bytes taken where it tells them
pub record SinkAt : Type 0 where
  pub faults : ℕ
  pub taken : Option (List ℕ)

abbrev pub sink_at : {S : Type 0} → Ghosts S → S → SinkAt
sink_at s out = record { faults = s.faults out; taken = s.taken out }

-- the whole line was taken, or the sink failed and took a front of it
abbrev pub PutsLine : List ℕ → SinkAt → SinkAt → Type 0
PutsLine line old new = (new.taken ≡ append_known old.taken line)
    ⊎ (Rose old.faults new.faults × TakesFront line old.taken new.taken)

-- a line was put, and the status is the one that goes with it, or memory ran out
abbrev pub Says : List ℕ → ℕ → ℕ → SinkAt → SinkAt → Type 0
Says line right status old new = status ≢ 9 → (status ≡ right) × PutsLine line old new

-- what is answered and put of what stopped the program
abbrev pub Stopped : Stop → ℕ → SinkAt → SinkAt → Type 0
Stopped (stops.Refused refusal) status old new = Says (refusal_line refusal) (refusal_status refusal) status old new
Stopped (stops.Fault place) status old new = status ≡ 7
Stopped stops.OutOfMemory status old new = status ≡ 9

-- the file is written, and all others stay
pub record IsStored (right : Result Made Refusal) (before : Named) (after : Option Named) : Type 0 where
  pub made : Made
  pub is : right ≡ Ok made
  pub files : after ≡ Some (with_file before made.name (Some made.text))

-- a store failed, and may have left anything or nothing under the file's name
pub record IsCut (right : Result Made Refusal) (before : Named) (after : Option Named) : Type 0 where
  pub made : Made
  pub is : right ≡ Ok made
  pub left : Option (List ℕ)
  pub files : after ≡ Some (with_file before made.name left)

-- what comes before the report: it is there and all is stored, or nothing changed, or a store
-- failed
abbrev pub Performs : Result Made Refusal → Named → Result (List ℕ) Stop → Option Named → Type 0
Performs right before (Ok report) after = (stored : IsStored right before after)
    × (report ≡ stored.made.report)
Performs right before (Err (stops.Refused refusal)) after = (right ≡ Err refusal)
    × (after ≡ Some before)
Performs right before (Err (stops.Fault place)) after = (after ≡ Some before)
    ⊎ IsCut right before after
Performs right before (Err stops.OutOfMemory) after = after ≡ Some before

-- the refusal's line was put, and its status is the answer
pub record IsRefused (right : Result Made Refusal) (status : ℕ) (old new : SinkAt) : Type 0 where
  pub refusal : Refusal
  pub is : right ≡ Err refusal
  pub status_is : status ≡ refusal_status refusal
  pub put : PutsLine (refusal_line refusal) old new

-- What the program answers and leaves that makes this of some files.
pub record Ends (right : Result Made Refusal) (before : Named) (status : ℕ) (after : Option Named) (old new : SinkAt) : Type 0 where
  -- status 0: the merged history is stored, all other files stay, and the report was put
  pub done : status ≡ 0 → (stored : IsStored right before after)
      × (new.taken ≡ append_known old.taken stored.made.report)
  -- status 8: it is stored, and the report could not be put
  pub unreported : status ≡ 8 → IsStored right before after
  -- status 7: a fetch failed and changed nothing, or the store failed
  pub fault : status ≡ 7 → (after ≡ Some before) ⊎ IsCut right before after
  -- any other status changed nothing, and but for 9 it is that of the refusal
  pub kept : status ≢ 0 → status ≢ 7 → status ≢ 8 → after ≡ Some before
  pub refused : status ≢ 0 → status ≢ 7 → status ≢ 8 → status ≢ 9 → IsRefused right status old new
