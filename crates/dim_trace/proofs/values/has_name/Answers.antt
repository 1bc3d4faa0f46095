use Rattle.std.proofs.Common.{◌≡◌, sym, ap, ◌∙◌, arith}
use Rattle.std.proofs.lemmas.Slice.Eq.{bytes_eq-Decides}
use Rattle.dim_asm.specs.Code.{place_of}
use Rattle.dim_trace.proofs.Again.{own_place}
use Rattle.dim_trace.proofs.values.has_name.Goals as goal

pub returns-then-l-locks : goal.returns-then-l-locks
returns-then-l-locks c = λ is.
    let locks = c.args.program.now.locks in
    let word = c.as_slice.result.now in
    let same : word ≡ c.args.word.now = (bytes_eq-Decides word c.args.word.now).0 (sym c.is_word.ensures ∙ is) in
    ap (place_of locks) (sym same ∙ c.as_slice.ensures ∙ c.lock_name.ensures) ∙ own_place locks c.law.ensures.lock_names c.args.l.0 (omega arith)
