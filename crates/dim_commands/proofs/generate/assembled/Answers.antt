use Rattle.std.proofs.Common.{sym, ◌∙◌, subst}
use Rattle.dim_text.specs.Reading.{Fails}
use Rattle.dim_asm.specs.Assembling.{program_of}
use Rattle.dim_asm.specs.Faults.{fault_of}
use Rattle.dim_commands.proofs.GenerateLemmas.{text_assembled, not_bad, same_program}
use Rattle.dim_commands.proofs.generate.assembled.Goals as goal

pub unreachable-requires : goal.unreachable-requires
unreachable-requires c =
    let bytes = c.as_slice.result.now in
    not_bad c.args.n bytes c.in-Err-Bad.field-0-0 (c.as_slice.ensures ∙ c.requires) (subst (λ e. Fails (fault_of e) (program_of bytes)) c.in-Err-Bad.field-0-is c.in-Err-Bad.ensures.program)

pub returns-in-Ok : goal.returns-in-Ok
returns-in-Ok c =
    let bytes = c.as_slice.result.now in
    same_program _ _ (sym c.in-Ok.ensures.program ∙ text_assembled c.args.n bytes (c.as_slice.ensures ∙ c.requires))
