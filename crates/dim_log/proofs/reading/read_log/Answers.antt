use Rattle.std.proofs.Common.{Ok, ap, ◌∙◌}
use Rattle.dim_log.proofs.Finishing.{Finishes, same_value, log_within, log_holds}
use Rattle.dim_log.proofs.reading.read_log.Goals as goal

finishes : (c : goal.In_ok-log) → Finishes c.in_ok-reader.reader c.in_ok-reader.cut c.in_ok-log.log
finishes c = record {
  threads = c.in_ok-log.ensures.threads;
  locks = c.in_ok-log.ensures.locks;
  functions = c.in_ok-log.ensures.functions;
  stacks = c.in_ok-log.ensures.stacks;
  events = c.in_ok-log.ensures.events;
  cut_is = c.in_ok-log.ensures.cut;
}

pub returns-clause-value : goal.returns-clause-value
returns-clause-value c =
    c.in_ok-reader.ensures.value ∙ ap (λ v. Ok v) (same_value c.in_ok-reader.reader c.in_ok-reader.cut c.in_ok-log.log (finishes c))

pub returns-clause-within : goal.returns-clause-within
returns-clause-within c = log_within c.in_ok-reader.reader c.in_ok-reader.cut c.in_ok-log.log (finishes c) c.in_ok-reader.ensures.reading

pub returns-clause-tables : goal.returns-clause-tables
returns-clause-tables c = log_holds c.in_ok-reader.reader c.in_ok-reader.cut c.in_ok-log.log (finishes c) c.in_ok-reader.ensures.reading
