use Rattle.std.proofs.Common.{◌≡◌, ◌+◌, ◌-◌, ◌++◌, ◌∷◌, [], ℕ, length, subst, arith}
use Rattle.std.specs.Prelude.{Some, slice_get}
use Rattle.dim_rag.specs.History.{past}
use Rattle.dim_rag.specs.Fits.{Fits, AreInRange}
use Rattle.dim_rag.specs.Tables.{Replay}
use Rattle.dim_run.proofs.Fed.{IsFed, feeds_fit, feeds_range, fed_more}
use Rattle.dim_run.proofs.Noted.{kept_place}
use Rattle.dim_run.proofs.notes.Notes.tell_kept.Goals as goal

pub follow-requires-clause-in_range : goal.follow-requires-clause-in_range
follow-requires-clause-in_range c =
    feeds_range c.args.gate.now c.args.monitor.now c.loop-i.monitor (length c.args.monitor.now.entries + c.loop-i.i) c.look.result.now c.loop-i.invariant (kept_place c.args.gate.now.entries c.args.monitor.now.entries c.args.self.now.kept.notes.items c.loop-i.i c.look.result.now c.requires.kept c.look.ensures)
    (subst (λ (x : Replay). AreInRange x.threads x.locks (past x.entries)) c.tables.ensures.tables c.len-fits.ensures.in_range)

pub follow-requires-clause-fits : goal.follow-requires-clause-fits
follow-requires-clause-fits c =
    feeds_fit c.args.gate.now c.args.monitor.now c.loop-i.monitor (length c.args.monitor.now.entries + c.loop-i.i) c.look.result.now c.loop-i.invariant (kept_place c.args.gate.now.entries c.args.monitor.now.entries c.args.self.now.kept.notes.items c.loop-i.i c.look.result.now c.requires.kept c.look.ensures)
    (subst (λ (x : Replay). Fits (past x.entries)) c.tables.ensures.tables c.len-fits.ensures.fits)

pub loop-i-preserved : goal.loop-i-preserved
loop-i-preserved c =
    let here : slice_get c.args.gate.now.entries (length c.args.monitor.now.entries + c.loop-i.i) ≡ Some c.look.result.now = kept_place c.args.gate.now.entries c.args.monitor.now.entries c.args.self.now.kept.notes.items c.loop-i.i c.look.result.now c.requires.kept c.look.ensures in
    let next : length c.args.monitor.now.entries + c.loop-i.i + 1 ≡ length c.args.monitor.now.entries + (c.loop-i.i + 1) = omega arith in
    rw c.follow.ensures
    (subst (λ (n : ℕ). IsFed c.args.gate.now c.args.monitor.now record c.loop-i.monitor { entries = c.loop-i.monitor.entries ++ c.look.result.now ∷ []; spare = c.loop-i.monitor.spare - 1 } n) next
    (fed_more c.args.gate.now c.args.monitor.now c.loop-i.monitor (length c.args.monitor.now.entries + c.loop-i.i) c.look.result.now c.loop-i.invariant here))
