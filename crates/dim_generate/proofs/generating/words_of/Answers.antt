use Rattle.dim_generate.proofs.Drawing.{words_are}
use Rattle.dim_generate.proofs.generating.words_of.Goals as goal

pub returns : goal.returns
returns c = words_are c.args.n c.from.result _ c.from.ensures c.seed_from_u64.ensures
