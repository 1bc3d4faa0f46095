use Rattle.std.proofs.Common.{List, ℕ, Some, refl, ap, ◌∙◌}
use Rattle.std.specs.Option.{option_map}
use Rattle.dim_base.specs.Files.{Named, with_file}
use Rattle.dim_merge.specs.Made.{made_of}
use Rattle.dim_merge.proofs.program.store.Goals as goal

pub returns-in-Ok-clause-performs : goal.returns-in-Ok-clause-performs
returns-in-Ok-clause-performs g c =
    λ before is.
    let name = c.args.name.now in (
      record {
        made = made_of name c.args.made;
        is = refl;
        files =
            c.in-Ok.ensures.stored
            ∙ ap (option_map (λ (m : Named). with_file m name (Some c.as_slice.result.now))) is
            ∙ ap (λ (b : List ℕ). Some (with_file before name (Some b))) c.as_slice.ensures;
      },
      refl,
    )
