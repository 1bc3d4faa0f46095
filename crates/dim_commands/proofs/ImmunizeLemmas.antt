-- What `immunize` has stored.
use Rattle.std.proofs.Common.{◌≡◌, Option, Result, Ok, Err, OnOk, false}
use Rattle.std.specs.Str.{bytes_eq}
use Rattle.dim_base.specs.Files.{Named}
use Rattle.dim_inquiry.specs.declared.report.Report.{Report}
use Rattle.dim_inquiry.specs.declared.stop.Stop.{Stop}
use Rattle.dim_words.specs.Words.{ImmunizeWords}
use Rattle.dim_inquiry.specs.Course.{Runs, WhereTold}
use Rattle.dim_commands.specs.Immunize.{last_of, attempts_left, AreLawful, Immunized}
use Rattle.dim_inquiry.specs.Inputs.{Inputs}
use Rattle.dim_commands.specs.Run.{stores_left}
use Rattle.dim_inquiry.specs.Taking.{IsTaken}
use Rattle.dim_commands.proofs.RunLemmas.{IsGot, ends_so}
use Rattle.dim_commands.proofs.StoreLemmas.{both_stored}

-- where it reports
pub immunized_so : (w : ImmunizeWords) (x : Inputs) (r : Result Report Stop) (told middle after : Option Named) → bytes_eq w.run.trace w.run.new_history ≡ false
    → AreLawful x w.run.settings w.attempts (last_of x w.run.settings w.attempts)
    → WhereTold told (λ before. IsTaken before w.run.program w.run.history x) → WhereTold told (λ before. IsGot before w.run x middle)
    → WhereTold told (λ before. Runs (λ (q : Report). q) (stores_left w.run.new_history w.run.trace (attempts_left w.run.settings w.attempts x)) before r after)
    → OnOk r (WhereTold told (λ before. Immunized w before after))
immunized_so w x (Ok report) told middle after apart lawful taken got stores = λ before is.
    let t = taken before is in
    let left = attempts_left w.run.settings w.attempts in
    record {
      program = t.program;
      history = t.history;
      inputs = x;
      last = last_of x w.run.settings w.attempts;
      fetched = t.fetched;
      fetched_history = t.fetched_history;
      assembled = t.assembled;
      read = t.read;
      lawful = lawful;
      apart = apart;
      files = both_stored before w.run.new_history w.run.trace (left x) report after (stores before is);
      ending = ends_so left before w.run x middle (got before is);
    }
immunized_so w x (Err stop) told middle after apart lawful taken got stores = tt
