use Rattle.std.proofs.Common.{◌∙◌, ap, length}
use Rattle.dim_rag.specs.Tables.{Replay}
use Rattle.dim_mutex.proofs.Watching.{may_catch_up}
use Rattle.dim_mutex.proofs.domain.tending.monitor_of.Goals as goal

pub catch_up-requires : goal.catch_up-requires
catch_up-requires c =
    let f = c.in_ok-monitor.ensures in
    record {
      behind = may_catch_up c.reserve.new.self c.in_ok-monitor.monitor c.reserve-2.new.self c.len.result c.taken.result f.sizes.0 f.sizes.1 f.watches (c.len.ensures.len ∙ ap (λ (x : Replay). length x.entries) c.tables.ensures.tables) c.taken.ensures c.in_ok-reserve-2.ensures.ok;
    }
