use Rattle.dim_history_file.proofs.Spelled.{read_again, read_migrated}
use Rattle.dim_history_file.proofs.laws.reading_law.Goals as goal

pub returns : goal.returns
returns c = record { again = read_again; migrated = read_migrated }
