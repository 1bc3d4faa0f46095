use Rattle.std.proofs.Common.{◌≡◌, ◌-◌, ◌++◌, ◌∷◌, [], ◌∙◌, List, ap, sym, subst, length, length-append}
use Rattle.std.specs.Prelude.{Some, slice_get}
use mathlib.Core.List.{IsPrefix}
use Rattle.dim_events.specs.Ring.{taken, known}
use Rattle.dim_rag.specs.declared.entry.Entry.{Entry}
use Rattle.dim_rag.specs.History.{past}
use Rattle.dim_rag.specs.Fits.{Fits, AreInRange}
use Rattle.dim_rag.specs.Tables.{Replay}
use Rattle.dim_gate.specs.Gate.{Gate}
use Rattle.dim_gate.specs.Notes.{IsInboxOf}
use Rattle.dim_run.proofs.Fed.{IsFed, feeds_fit, feeds_range, fed_more}
use Rattle.dim_run.proofs.Noted.{same_ring}
use Rattle.dim_run.proofs.Passed.{next_note, one_taken}
use Rattle.dim_run.proofs.notes.Notes.pass_on.Goals as goal

pub follow-requires-clause-in_range : goal.follow-requires-clause-in_range
follow-requires-clause-in_range c =
    let es : List Entry = c.args.gate.now.entries in
    let seen : List Entry = taken c.look_for_note.new.inbox in
    let ahead : List Entry = known c.look_for_note.new.inbox in
    let note : Entry = c.first.result.now in
    let next : IsPrefix (seen ++ ahead) es = subst (λ (g : Gate). IsPrefix (seen ++ ahead) g.entries) c.loop-monitor.invariant.gate_is c.look_for_note.ensures.next in
    let here : slice_get es (length c.loop-monitor.monitor.entries) ≡ Some note =
    subst (λ (x : List Entry). slice_get es (length x) ≡ Some note) (c.look_for_note.ensures.taken ∙ c.loop-monitor.invariant.taken_are) (next_note es seen ahead note c.first.ensures next) in
    feeds_range c.args.gate.now c.args.monitor.now c.loop-monitor.monitor (length c.loop-monitor.monitor.entries) note c.loop-monitor.invariant.fed here
    (subst (λ (x : Replay). AreInRange x.threads x.locks (past x.entries)) c.tables.ensures.tables c.len-fits.ensures.in_range)

pub follow-requires-clause-fits : goal.follow-requires-clause-fits
follow-requires-clause-fits c =
    let es : List Entry = c.args.gate.now.entries in
    let seen : List Entry = taken c.look_for_note.new.inbox in
    let ahead : List Entry = known c.look_for_note.new.inbox in
    let note : Entry = c.first.result.now in
    let next : IsPrefix (seen ++ ahead) es = subst (λ (g : Gate). IsPrefix (seen ++ ahead) g.entries) c.loop-monitor.invariant.gate_is c.look_for_note.ensures.next in
    let here : slice_get es (length c.loop-monitor.monitor.entries) ≡ Some note =
    subst (λ (x : List Entry). slice_get es (length x) ≡ Some note) (c.look_for_note.ensures.taken ∙ c.loop-monitor.invariant.taken_are) (next_note es seen ahead note c.first.ensures next) in
    feeds_fit c.args.gate.now c.args.monitor.now c.loop-monitor.monitor (length c.loop-monitor.monitor.entries) note c.loop-monitor.invariant.fed here
    (subst (λ (x : Replay). Fits (past x.entries)) c.tables.ensures.tables c.len-fits.ensures.fits)

pub loop-monitor-preserved : goal.loop-monitor-preserved
loop-monitor-preserved c =
    let es : List Entry = c.args.gate.now.entries in
    let seen : List Entry = taken c.look_for_note.new.inbox in
    let ahead : List Entry = known c.look_for_note.new.inbox in
    let note : Entry = c.first.result.now in
    let next : IsPrefix (seen ++ ahead) es = subst (λ (g : Gate). IsPrefix (seen ++ ahead) g.entries) c.loop-monitor.invariant.gate_is c.look_for_note.ensures.next in
    let here : slice_get es (length c.loop-monitor.monitor.entries) ≡ Some note =
    subst (λ (x : List Entry). slice_get es (length x) ≡ Some note) (c.look_for_note.ensures.taken ∙ c.loop-monitor.invariant.taken_are) (next_note es seen ahead note c.first.ensures next) in
    let g : Gate = c.args.gate.now in
    let before : Replay = c.loop-monitor.monitor in
    let after : Replay = record before { entries = before.entries ++ note ∷ []; spare = before.spare - 1 } in
    let told : IsFed g c.args.monitor.now after (length after.entries) =
    subst (λ n. IsFed g c.args.monitor.now after n) (sym (length-append before.entries (note ∷ []))) (fed_more g c.args.monitor.now before (length before.entries) note c.loop-monitor.invariant.fed here) in
    record {
      gate_is = c.look_for_note.ensures.gate ∙ c.loop-monitor.invariant.gate_is;
      inbox = same_ring c.look_for_note.new.self.feed c.loop-monitor.self.inbox c.skip.new.self (c.skip.ensures.ring ∙ c.look_for_note.ensures.ring)
          (subst (λ (x : Gate). IsInboxOf x.feed c.loop-monitor.self.inbox) (sym c.look_for_note.ensures.gate) c.loop-monitor.invariant.inbox);
      taken_are =
          c.skip.ensures.taken
          ∙ ap (λ (x : List Entry). seen ++ x) (one_taken ahead note c.first.ensures)
          ∙ ap (λ (x : List Entry). x ++ note ∷ []) (c.look_for_note.ensures.taken ∙ c.loop-monitor.invariant.taken_are)
          ∙ sym (ap (λ (x : Replay). x.entries) c.follow.ensures);
      empty = c.loop-monitor.invariant.empty;
      fed = subst (λ (x : Replay). IsFed g c.args.monitor.now x (length x.entries)) (sym c.follow.ensures) told;
    }
