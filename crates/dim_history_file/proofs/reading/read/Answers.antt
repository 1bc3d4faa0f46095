use Rattle.std.proofs.Common.{◌∙◌}
use Rattle.dim_history_file.specs.Reader.{sigs_of}
use Rattle.dim_history_file.proofs.Moving.{spelled_back}
use Rattle.dim_history_file.proofs.Sound.{near_read}
use Rattle.dim_history_file.proofs.Using.{used_table}
use Rattle.dim_history_file.proofs.reading.read.Goals as goal

pub returns-clause-text : goal.returns-clause-text
returns-clause-text c = (spelled_back c.args.bytes.now (sigs_of c.in_ok-reader.reader) c.in_ok-reader.ensures.value).1

pub returns-clause-history : goal.returns-clause-history
returns-clause-history c = (spelled_back c.args.bytes.now (sigs_of c.in_ok-reader.reader) c.in_ok-reader.ensures.value).0

pub returns-clause-names : goal.returns-clause-names
returns-clause-names c =
    let sigs = sigs_of c.in_ok-reader.reader in
    let h = spelled_back c.args.bytes.now sigs c.in_ok-reader.ensures.value in
    c.in_ok-reader.ensures.names ∙ used_table c.args.bytes.now sigs h.0 h.1

pub returns-clause-near : goal.returns-clause-near
returns-clause-near c =
    let reader = c.in_ok-reader.reader in
    near_read reader.names reader.catalogue.sigs (spelled_back c.args.bytes.now (sigs_of reader) c.in_ok-reader.ensures.value).0
