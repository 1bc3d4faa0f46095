-- What a reader has read.
use Rattle.std.specs.Prelude.{ℕ, All, List, map}
use Rattle.dim_stack.specs.declared.Frame.{Frame}
use Rattle.dim_stack.specs.Names.{AreAscending, IsNamedBy}
use Rattle.dim_history_file.specs.declared.reader.Stage as code
use Rattle.dim_history_file.specs.declared.reader.Stage.TheVariants as stage
use Rattle.dim_history_file.specs.declared.reader.Reader.{Reader}
use Rattle.dim_history_file.specs.declared.opening.Opening.{Opening}
use Rattle.dim_history_file.specs.declared.opening.Form as seen
use Rattle.dim_history_file.specs.Value.{NamedSig, named_stack, named, AreNamed}
use Rattle.dim_history_file.specs.Judging.{Form, Stage, Head, Due, Within, Closed, State, Begun}

-- a signature whose stacks are being read
abbrev pub begun : List (List ℕ) → Opening → List (List Frame) → Begun
begun names opening stacks = record { opening = opening; stacks = map (named_stack names) stacks }

abbrev pub begun_of : Reader → Opening → Begun
begun_of r opening = begun r.names opening r.stacks.items

abbrev pub stage_of : List (List ℕ) → List (List Frame) → code.Stage → Stage
stage_of names stacks stage.Head = Head
stage_of names stacks stage.Due = Due
stage_of names stacks (stage.Stacks opening) = Within (begun names opening stacks)
stage_of names stacks stage.Closed = Closed

abbrev pub sigs_of : Reader → List NamedSig
sigs_of r = named r.names r.catalogue.sigs

abbrev pub state_of : Reader → State
state_of r = record { version = r.version; stage = stage_of r.names r.stacks.items r.stage; sigs = sigs_of r }

-- each function stands in the table
pub record IsReading (r : Reader) : Type 0 where
  pub ascending : AreAscending r.names
  pub catalogue : AreNamed r.names r.catalogue.sigs
  pub stacks : All (IsNamedBy r.names) r.stacks.items

-- the words of a form
abbrev pub form_seen : seen.Form → Form
form_seen f = record { depth = f.depth.now; count = f.count.now; on = f.on; yields = f.yields.now }
