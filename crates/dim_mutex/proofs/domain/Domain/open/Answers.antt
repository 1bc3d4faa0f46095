use Rattle.std.proofs.Common.{◌≡◌, ◌∙◌, ◌<◌, ap, sym, subst, length}
use Rattle.std.proofs.lemmas.Option.{slice_get_within}
use Rattle.std.proofs.lemmas.List.{length-map}
use Rattle.dim_run.specs.Callers.{Opening, IsCaller}
use Rattle.dim_mutex.specs.Views.{IsCallerOf, opening, fresh, view_of}
use Rattle.dim_mutex.specs.Standing.{IsIdle}
use Rattle.dim_mutex.proofs.Starting.{all_from, fresh_caller, fresh_idle, mapped}
use Rattle.dim_mutex.proofs.domain.Domain.open.Goals as goal

pub seat-requires-clause-unused : goal.seat-requires-clause-unused
seat-requires-clause-unused c =
    let o = opening c.in-Ok.domain in
    let empty = ap (λ (x : Opening). x.history) c.in-Ok.ensures.opening ∙ ap (λ g. g.entries) c.in_ok-reserve.ensures.ok ∙ ap (λ g. g.entries) c.in_ok-gate.ensures in
    all_from _ c.in-Ok.passes.items (λ i p at. ap (λ k. k.seen) (c.in-Ok.ensures.passes i p at).1 ∙ empty)

pub returns-in-Ok-clause-callers : goal.returns-in-Ok-clause-callers
returns-in-Ok-clause-callers c =
    let d = c.in-Ok.domain in
    let many : (opening d).callers ≡ length c.in-Ok.passes.items = ap (λ (x : Opening). x.callers) c.in-Ok.ensures.opening ∙ sym c.in-Ok.ensures.each in
    rw c.seat.ensures record {
      all = length-map c.in-Ok.passes.items view_of ∙ sym many;
      each = mapped view_of (λ i v. IsCallerOf d v × (v.known.number ≡ i)) c.in-Ok.passes.items (λ i p at.
          let w = c.in-Ok.ensures.passes i p at in
          let low = subst (λ n. i < n) (sym many) (slice_get_within c.in-Ok.passes.items i p at) in (
            record { owns = w.0; caller = subst (IsCaller (opening d)) (sym w.1) (fresh_caller (opening d) i c.args.allowance low) },
            ap (λ k. k.number) w.1,
          ));
    }

pub returns-in-Ok-clause-fresh : goal.returns-in-Ok-clause-fresh
returns-in-Ok-clause-fresh c =
    rw c.seat.ensures (mapped view_of (λ i v. v.known ≡ fresh (opening c.in-Ok.domain) i c.args.allowance) c.in-Ok.passes.items (λ i p at. (c.in-Ok.ensures.passes i p at).1))

pub returns-in-Ok-clause-idle : goal.returns-in-Ok-clause-idle
returns-in-Ok-clause-idle c =
    let o = opening c.in-Ok.domain in
    let empty = ap (λ (x : Opening). x.history) c.in-Ok.ensures.opening ∙ ap (λ g. g.entries) c.in_ok-reserve.ensures.ok ∙ ap (λ g. g.entries) c.in_ok-gate.ensures in
    rw c.seat.ensures (mapped view_of (λ i v. IsIdle v.known) c.in-Ok.passes.items (λ i p at. subst IsIdle (sym (c.in-Ok.ensures.passes i p at).1) (fresh_idle o i c.args.allowance empty)))
