-- The log of what was read.
use Rattle.std.proofs.Common.{◌≡◌, ℕ, Bool, List, map, Vec, sym, ap, ◌∙◌, subst}
use Rattle.std.specs.Prelude.{All}
use Rattle.std.specs.declared.alloc.Global.{Global}
use Rattle.dim_log.specs.declared.log.Spot.{Spot}
use Rattle.dim_log.specs.declared.log.Event.{Event}
use Rattle.dim_log.specs.declared.log.Log.{Log}
use Rattle.dim_log.specs.declared.reader.Reader.{Reader}
use Rattle.dim_log.specs.Value.{Said, LogValue}
use Rattle.dim_log.specs.Seen.{Tables, said_stack, said_event, IsWithin, AreSpotsWithin, tables_of, log_value, AreWithin, Holds}
use Rattle.dim_log.specs.Reader.{tables, said, read_value, IsReading}

-- a log has what a reader has
pub record Finishes (r : Reader) (cut : Bool) (log : Log) : Type 0 where
  pub threads : log.threads.items ≡ r.threads
  pub locks : log.locks.items ≡ r.locks
  pub functions : log.functions.items ≡ r.stacks.functions
  pub stacks : log.stacks ≡ r.stacks.stacks
  pub events : log.events ≡ r.events
  pub cut_is : log.cut ≡ cut

tables_with : List (List ℕ) → List (List ℕ) → List (List ℕ) → List (Vec Spot Global) → Tables
tables_with threads locks functions stacks = record { threads = threads; locks = locks; functions = functions; stacks = map (λ s. said_stack functions s.items) stacks }

pub same_tables : (r : Reader) (cut : Bool) (log : Log) → Finishes r cut log → tables_of log ≡ tables r
unfolding tables_with
same_tables r cut log f =
    ap (λ x. tables_with x log.locks.items log.functions.items log.stacks.items) f.threads
    ∙ ap (λ x. tables_with r.threads x log.functions.items log.stacks.items) f.locks
    ∙ ap (λ x. tables_with r.threads r.locks x log.stacks.items) f.functions
    ∙ ap (λ (x : Vec (Vec Spot Global) Global). tables_with r.threads r.locks r.stacks.functions x.items) f.stacks

pub same_events : (r : Reader) (cut : Bool) (log : Log) → Finishes r cut log → map (said_event (tables_of log)) log.events.items ≡ said r
same_events r cut log f =
    ap (λ t. map (said_event t) log.events.items) (same_tables r cut log f) ∙ ap (λ (v : Vec Event Global). map (said_event (tables r)) v.items) f.events

pub same_value : (r : Reader) (cut : Bool) (log : Log) → Finishes r cut log → read_value r cut ≡ log_value log
same_value r cut log f =
    let at : List Said → Bool → LogValue = λ es c. record { events = es; cut = c } in
    ap (λ es. at es cut) (sym (same_events r cut log f)) ∙ ap (at (map (said_event (tables_of log)) log.events.items)) (sym f.cut_is)

pub log_within : (r : Reader) (cut : Bool) (log : Log) → Finishes r cut log → IsReading r → AreWithin log
log_within r cut log f h = record {
  events = subst (λ t. All (IsWithin t) log.events.items) (sym (same_tables r cut log f)) (subst (λ (v : Vec Event Global). All (IsWithin (tables r)) v.items) (sym f.events) h.within);
  stacks = subst (λ fs. All (λ (s : Vec Spot Global). AreSpotsWithin fs s.items) log.stacks.items) (sym f.functions) (subst (λ (v : Vec (Vec Spot Global) Global). All (λ (s : Vec Spot Global). AreSpotsWithin r.stacks.functions s.items) v.items) (sym f.stacks) h.sound.within);
}

pub log_holds : (r : Reader) (cut : Bool) (log : Log) → Finishes r cut log → IsReading r → Holds (tables_of log) (map (said_event (tables_of log)) log.events.items)
log_holds r cut log f h = subst (λ t. Holds t (map (said_event (tables_of log)) log.events.items)) (sym (same_tables r cut log f)) (subst (Holds (tables r)) (sym (same_events r cut log f)) h.holds)
