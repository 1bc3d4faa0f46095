use Rattle.std.proofs.Common.{sym, subst, arith, ◌∙◌}
use Rattle.std.proofs.lemmas.List.Elements.{All-more}
use Rattle.std.proofs.lemmas.Option.{slice_get_within, get_or_from_slice_get}
use Rattle.std.proofs.lemmas.Result.{IfOk-weaker}
use Rattle.dim_rag.specs.Shown.{shown}
use Rattle.dim_trace.specs.Grammar.{HasSet}
use Rattle.dim_trace.specs.Text.{head_lines, text_of}
use Rattle.dim_trace.proofs.Lines.{ended_text, one_more_entry}
use Rattle.dim_trace.proofs.writing.text_of_tables.Goals as goal

pub loop-place-preserved : goal.loop-place-preserved
loop-place-preserved c =
    let entries = c.args.tables.now.entries in
    let place = c.loop-place.place in
    let e = shown c.look.result in
    record {
      text = one_more_entry c.args.program.now c.args.names.now (text_of (head_lines c.args.fuel c.args.depth)) entries place e _ _ c.look.ensures c.loop-place.invariant.text c.in_ok-put_line.ensures.line;
      sets = All-more HasSet entries place e (slice_get_within entries place e c.look.ensures) c.loop-place.invariant.sets
          (subst HasSet (sym (get_or_from_slice_get entries place e e c.look.ensures)) c.put_line.ensures.set);
    }

pub returns-clause-text : goal.returns-clause-text
returns-clause-text c =
    let whole = ended_text c.args.program.now c.args.names.now c.args.fuel c.args.depth c.args.tables.now.entries c.loop-place.place c.len-count.result _ _
    (omega (arith, c.loop-place-test.false, c.len-count.ensures.len))
    c.len-count.ensures.len
    c.loop-place.invariant.text
    c.in_ok-put_tail.ensures in
    IfOk-weaker c.into_bytes.result _ _ (λ bytes is. is ∙ whole) c.into_bytes.ensures
