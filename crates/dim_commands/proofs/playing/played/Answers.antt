use Rattle.std.proofs.Common.{refl}
use Rattle.dim_commands.proofs.WholeLemmas.{whole_by}
use Rattle.dim_commands.proofs.playing.played.Goals as goal

pub returns-clause-made : goal.returns-clause-made
returns-clause-made c =
    let both = c.args.both in
    record {
      program_is = refl;
      names_is = refl;
      whole =
          whole_by c.immune_law.ensures c.complete_law.ensures c.spelled_law.ensures both.program both.history.names both.history.catalogue.sigs c.args.s.now c.in_ok-run.run' record {
            program = c.law.ensures;
            bound = c.requires.bound;
            named = c.law-2.ensures.named;
            near = c.requires.near;
            catalogue = c.law-2.ensures.catalogue;
            few = c.requires.few;
            run_is = c.in_ok-run.ensures.run;
          };
    }
