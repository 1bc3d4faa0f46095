use Rattle.dim_history_file.proofs.Numbered.{sigs_again}
use Rattle.dim_history_file.proofs.Sound.{sound}
use Rattle.dim_history_file.proofs.history.History.law.Goals as goal

pub returns-clause-history : goal.returns-clause-history
returns-clause-history c =
    let h = c.args.self.now in
    sound h.names c.len-names.ensures.table h.catalogue.sigs c.len-signatures.ensures.catalogue h.named

pub returns-clause-numbered : goal.returns-clause-numbered
returns-clause-numbered c =
    let h = c.args.self.now in
    sigs_again c.name_number_law.ensures.own h.names c.len-names.ensures.table.ascending h.catalogue.sigs h.named
