use Rattle.std.proofs.Common.{ap, sym, ◌∙◌, drop, length, get_or, arith}
use Rattle.std.specs.Prelude.{slice_get}
use Rattle.std.proofs.lemmas.Option.{slice_get-get_or}
use Rattle.dim_turn.specs.Passes.{IsPassOf}
use Rattle.turn_bench.proofs.Written.{in_order}
use Rattle.turn_bench.proofs.timing.time_turn.Goals as goal

pub play_by_turns-requires-clause-thread : goal.play_by_turns-requires-clause-thread
play_by_turns-requires-clause-thread g c κs within = λ k d lt.
    let s = c.in-Ok.ensures in
    let passes = c.as_mut_slice.result.now in
    let is = c.as_mut_slice.ensures.value in
    let number = (s.dealt k (get_or passes k d) (ap (λ xs. slice_get xs k) (sym is) ∙ slice_get-get_or passes k d lt)).number in
    omega (arith, lt, number, s.sizes.0, ap length is, s.counts.2, c.requires.few.0)

pub play_by_turns-requires-clause-lock : goal.play_by_turns-requires-clause-lock
play_by_turns-requires-clause-lock g c κs within = λ k d lt.
    let s = c.in-Ok.ensures in
    let passes = c.as_mut_slice.result.now in
    let is = c.as_mut_slice.ensures.value in
    let number = (s.dealt k (get_or passes k d) (ap (λ xs. slice_get xs k) (sym is) ∙ slice_get-get_or passes k d lt)).number in
    omega (arith, lt, number, s.sizes.1, ap length is, s.counts.2, c.requires.few.0)

pub play_by_turns-requires-clause-left : goal.play_by_turns-requires-clause-left
play_by_turns-requires-clause-left g c κs within = λ k d lt.
    let s = c.in-Ok.ensures in
    let passes = c.as_mut_slice.result.now in
    let left = (s.dealt k (get_or passes k d) (ap (λ xs. slice_get xs k) (sym c.as_mut_slice.ensures.value) ∙ slice_get-get_or passes k d lt)).left in
    omega (arith, left, s.counts.1)

pub close-requires-clause-each : goal.close-requires-clause-each
close-requires-clause-each g c =
    let s = c.in-Ok.ensures in
    let w = c.play_by_turns.ensures in
    let passes = c.as_mut_slice.result.now in
    let is = c.as_mut_slice.ensures.value in
    in_order (λ p. IsPassOf c.in-Ok.begun.0 p) (λ p. p.number) c.in-Ok.begun.1.len passes c.play_by_turns.new.passes (drop (length c.play_by_turns.new.passes) c.in-Ok.begun.1.items)
    (w.same ∙ c.as_mut_slice.ensures.len) w.same (λ i p at. (s.dealt i p (ap (λ xs. slice_get xs i) (sym is) ∙ at)).number) w.each
