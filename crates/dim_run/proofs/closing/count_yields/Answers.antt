use Rattle.std.proofs.Common.{◌<◌, arith, length}
use Rattle.dim_run.proofs.Grown.{count_first, count_more, still_numbered}
use Rattle.dim_run.proofs.closing.count_yields.Goals as goal

pub loop-place-init : goal.loop-place-init
loop-place-init c = count_first c.args.catalogue.now.sigs c.len-in_range.ensures.catalogue

pub count_yield-requires : goal.count_yield-requires
count_yield-requires c =
    still_numbered c.args.tables.now.entries c.loop-place.place c.yielded.result c.args.catalogue.now.sigs c.loop-place.catalogue.sigs c.requires.numbered c.yielded.ensures c.loop-place.invariant

pub loop-place-preserved : goal.loop-place-preserved
loop-place-preserved c =
    let low : c.loop-place.place < length c.args.tables.now.entries = omega (arith, c.loop-place-test.true, c.len-place-end.ensures.len) in
    count_more c.args.tables.now.entries c.loop-place.place c.yielded.result c.args.catalogue.now.sigs c.loop-place.catalogue.sigs c.count_yield.new.catalogue.sigs low c.yielded.ensures c.loop-place.invariant c.count_yield.ensures
