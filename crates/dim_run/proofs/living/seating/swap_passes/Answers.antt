use Rattle.std.proofs.Common.{◌≡◌, ◌<◌, refl, ◌∙◌, length, get_or, arith}
use Rattle.std.proofs.lemmas.List.{length-set}
use Rattle.std.proofs.Math.Seq.{map-set_same}
use Rattle.dim_run.specs.declared.living.seat.Seat.{Seat}
use Rattle.dim_run.proofs.Swapped.{goes_in, comes_out}
use Rattle.dim_run.proofs.living.seating.swap_passes.Goals as goal

pub loop-i-preserved : goal.loop-i-preserved
loop-i-preserved c =
    let l = c.loop-i in
    let k = l.invariant in
    let s : Seat = record { machine = (get_or l.seats l.i c.index-seats-i.result).machine; pass = c.swap.new.x } in
    let d = c.index-seats-i.result in
    let e = c.index-passes-i.result in
    let low : l.i < length c.args.seats.now = omega (arith, c.loop-i-test.true, k.long.0) in
    let each : length l.passes ≡ length c.args.seats.now = omega (arith, k.long.1, c.requires.each) in
    let each_old : length c.args.passes.now ≡ length c.args.seats.now = omega (arith, c.requires.each) in
    let into = goes_in (λ (x : Seat). x.pass) c.args.seats.now l.seats c.args.passes.now l.passes l.i s d e k.long.0 each each_old low k.left k.behind k.into c.swap.ensures.x_after in
    let out = comes_out (λ (x : Seat). x.pass) c.args.seats.now l.seats c.args.passes.now l.passes l.i s d e k.long.0 each each_old low k.left k.behind c.swap.new.y k.out c.swap.ensures.y_after in
    record {
      long = (length-set l.seats l.i s ∙ k.long.0, length-set l.passes l.i c.swap.new.y ∙ k.long.1);
      machines = map-set_same (λ (x : Seat). x.machine) l.seats l.i s d refl ∙ k.machines;
      into = into.0;
      left = into.1;
      out = out.0;
      behind = out.1;
    }
