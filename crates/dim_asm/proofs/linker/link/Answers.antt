use Rattle.std.proofs.Common.{rules}
use Rattle.dim_asm.specs.Code.{Code}
use Rattle.dim_asm.specs.Reader.{read}
use Rattle.dim_asm.specs.Linking.{link}
use Rattle.dim_asm.proofs.Linked.{linked}
use Rattle.dim_asm.proofs.linker.link.Goals as goal

pub invariant_of-result : goal.invariant_of-result
unfolding link
invariant_of-result c =
    let p : Code = record { locks = c.args.reader.locks; funcs = c.in_ok-funcs.funcs.items; threads = c.in_ok-threads.threads.items } in
    linked (read c.args.reader) p c.requires.source (search rules)
