use Rattle.std.proofs.Common.{◌≡◌, ◌∷◌, ◌∙◌, ◌&&◌, ap, sym, subst, ℕ, None}
use Rattle.dim_rag.specs.History.{past}
use Rattle.dim_rag.specs.Shown.{shown}
use Rattle.dim_gate.specs.Gate.{constants}
use Rattle.dim_trace.specs.Retrace.{AreAt, IsFault}
use Rattle.dim_trace.proofs.Following.{goes_on}
use Rattle.dim_trace.proofs.Replaying.{goes_further}
use Rattle.dim_trace.proofs.retrace.Retrace.verdict.Goals.{then-is_followed, else-is_followed}
use Rattle.dim_trace.proofs.retrace.Retrace.verdict.Goals as goal

pub loop-place-preserved : goal.loop-place-preserved
loop-place-preserved c =
    let old = c.loop-place.self in
    let p = c.args.program.now in
    let fuel : old.fuel ≡ c.args.self.now.fuel = c.loop-place.invariant.fuel in
    let h = past old.gate.entries in
    let fault : IsFault (constants old.gate) p c.args.self.now.fuel h (shown c.look-e.result) None =
    subst (λ (f : ℕ). IsFault (constants old.gate) p f h (shown c.look-e.result) None) fuel (subst (λ r. IsFault (constants old.gate) p old.fuel h (shown c.look-e.result) r) c.in_default.is c.fault.ensures.fault) in
    let at : AreAt p c.args.self.now.fuel ((shown c.look-e.result) ∷ h) c.fault.new.self.machines.items =
    subst (λ (f : ℕ). AreAt p f ((shown c.look-e.result) ∷ h) c.fault.new.self.machines.items) fuel (c.fault.ensures.machines c.in_default.is) in
    let joined : c.if-is_followed.followed ≡ (c.is_followed.result && c.loop-place.followed) = elim c.if-is_followed.branch [
      | then-is_followed w ↦ w.followed-is ∙ sym (ap (λ x. x && c.loop-place.followed) w.if-is_followed.true)
      | else-is_followed w ↦ w.followed-is ∙ w.if-is_followed.false ∙ sym (ap (λ x. x && c.loop-place.followed) w.if-is_followed.false)
    ] in
    record {
      so_far = goes_further (constants c.args.self.now.gate) p c.args.self.now.fuel c.args.trace.now.entries c.loop-place.place old.gate old.machines.items c.loop-place.invariant.so_far (shown c.look-e.result) c.look-e.ensures.entry
          c.fault.new.self.gate c.fault.new.self.machines.items fault (c.fault.ensures.gate c.in_default.is) at;
      fuel = c.fault.ensures.fuel ∙ fuel;
      followed = goes_on old.gate c.fault.new.self.gate c.graph.result.now c.args.trace.now.entries c.loop-place.place (shown c.look-e.result) c.is_followed.result c.loop-place.followed c.if-is_followed.followed
          c.graph.ensures.graph c.look-e.ensures.entry c.is_followed.ensures c.loop-place.invariant.followed joined (c.fault.ensures.gate c.in_default.is);
    }
