use Rattle.std.proofs.Common.{ap, sym, ◌∙◌, subst, drop, length, get_or}
use Rattle.std.specs.Prelude.{slice_get}
use Rattle.std.proofs.lemmas.Option.{slice_get-get_or}
use Rattle.dim_mutex.specs.Views.{AreCallersOf}
use Rattle.dim_mutex.proofs.Exports.{all_back}
use Rattle.mutex_tests.proofs.stress.worked.Goals as goal

pub work_all-requires-clause-callers : goal.work_all-requires-clause-callers
work_all-requires-clause-callers g c κs within = λ k d lt.
    let s = c.in-Ok.ensures in
    let callers = c.as_mut_slice.result.now in
    let at = ap (λ xs. slice_get xs k) (sym c.as_mut_slice.ensures.value) ∙ slice_get-get_or callers k d lt in
    (s.callers.each k (get_or callers k d) at).0

pub tend-requires-clause-callers : goal.tend-requires-clause-callers
tend-requires-clause-callers g c =
    let d = c.in-Ok.opened.0 in
    let w = c.work_all.ensures in
    let old = c.as_mut_slice.result.now in
    all_back d c.in-Ok.opened.1.len old c.work_all.new.callers (drop (length c.work_all.new.callers) c.in-Ok.opened.1.items)
    (subst (AreCallersOf d) (sym c.as_mut_slice.ensures.value) c.in-Ok.ensures.callers) (sym c.as_mut_slice.ensures.len) w.same w.each
