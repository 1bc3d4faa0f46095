use Rattle.std.proofs.Common.{ap}
use Rattle.dim_history_file.specs.Seen.{value_of}
use Rattle.dim_history_file.specs.Value.{named}
use Rattle.dim_signature.specs.Catalogue.{Contents}
use Rattle.dim_commands.proofs.GenerateLemmas.{inputs_are, empty_few, empty_read}
use Rattle.dim_commands.proofs.generate.inputs_of.Goals as goal

pub returns-clause-inputs : goal.returns-clause-inputs
returns-clause-inputs c =
    let h = c.in_ok-history.history in
    inputs_are c.args.n c.in_ok-program.program (value_of h) c.in_ok-program.ensures (ap (λ (k : Contents). named h.names k.sigs) c.in_ok-history.ensures.1)

pub returns-clause-few : goal.returns-clause-few
returns-clause-few c = empty_few c.in_ok-history.history.catalogue.sigs (ap (λ (k : Contents). k.sigs) c.in_ok-history.ensures.1)

pub returns-clause-read : goal.returns-clause-read
returns-clause-read c = empty_read c.in_ok-history.history c.in_ok-history.ensures.0 (ap (λ (k : Contents). k.sigs) c.in_ok-history.ensures.1)
