-- How far the storing of what a run leaves came.
use Rattle.std.proofs.Common.{◌≡◌, ℕ, List, Option, Some, Ok, Err, refl, ap, ◌∙◌}
use Rattle.dim_base.specs.Files.{Named, with_file}
use Rattle.dim_inquiry.specs.declared.report.Report.{Report}
use Rattle.dim_inquiry.specs.declared.stop.Place.TheVariants.{NewHistory, Trace}
use Rattle.dim_inquiry.specs.declared.stop.Stop.{Stop}
use Rattle.dim_commands.specs.declared.storing.Output.{Output}
use Rattle.dim_commands.specs.Output.{Left}
use Rattle.dim_inquiry.specs.Course.{Course, Stops, Runs, stores, gives, ◌>>=◌}
use Rattle.dim_commands.specs.Output.{left_of}
use Rattle.dim_commands.specs.Run.{stores_left}
use Rattle.dim_inquiry.proofs.Exports.{Stops-first, Runs-behind}

module _ (files : Named) (new_history trace : List ℕ) (left : Left) where
  abbrev behind : Unit {0} → Course Report
  behind u = stores Trace trace left.trace >>= λ v. gives left.report

  abbrev same : Report → Report
  same r = r

  pub at_history : (stop : Stop) (after : Option Named) → Stops (stores NewHistory new_history left.new_history) files stop after → Stops (stores_left new_history trace left) files stop after
  unfolding stores_left
  at_history stop after h = Stops-first (stores NewHistory new_history left.new_history) behind files stop after h

  pub at_trace : (stop : Stop) (after : Option Named) → Stops (stores Trace trace left.trace) (with_file files new_history (Some left.new_history)) stop after
      → Stops (stores_left new_history trace left) files stop after
  unfolding stores_left
  at_trace stop after h =
      Runs-behind (stores NewHistory new_history left.new_history) behind same files tt (Err stop) after refl (
      Stops-first (stores Trace trace left.trace) (λ v. gives left.report) (with_file files new_history (Some left.new_history)) stop after h
      )

  pub at_report : (after : Option Named) → after ≡ Some (with_file (with_file files new_history (Some left.new_history)) trace (Some left.trace))
      → Runs (λ (r : Report). r) (stores_left new_history trace left) files (Ok left.report) after
  unfolding stores_left
  at_report after e = (refl, e)

  -- with a report both were stored
  pub both_stored : (report : Report) (after : Option Named) → Runs (λ (r : Report). r) (stores_left new_history trace left) files (Ok report) after
      → after ≡ Some (with_file (with_file files new_history (Some left.new_history)) trace (Some left.trace))
  unfolding stores_left
  both_stored report after h = h.1

-- what is left, part by part
abbrev pub left_with : List ℕ → List ℕ → Report → Left
left_with new_history trace report = record { new_history = new_history; trace = trace; report = report }

pub left_is : (o : Output) (new_history trace : List ℕ) (report : Report) → o.texts.new_history ≡ new_history → o.texts.trace ≡ trace → o.report ≡ report → left_of o ≡ left_with new_history trace report
left_is o new_history trace report h t r =
    ap (λ a. left_with a o.texts.trace o.report) h ∙ ap (λ a. left_with new_history a o.report) t ∙ ap (left_with new_history trace) r
