use Rattle.std.proofs.Common.{map}
use Rattle.dim_orders.specs.Kept.{shown}
use Rattle.dim_orders.proofs.KeepLemmas.{assembled_read}
use Rattle.dim_orders.proofs.KeptLemmas.{cycles}
use Rattle.dim_orders.proofs.keeping.keep.Goals as goal

pub returns-clause-kept : goal.returns-clause-kept
returns-clause-kept c =
    assembled_read c.args.log.now.events.items c.deref.result.now c.deref-4.result.now
    c.in_ok-threads.threads.items c.deref-3.result.now c.deref-7.result.now c.in_ok-kept.kept.items c.deref-9.result.now
    c.in_ok-parts.parts.items c.deref-6.result.now c.in_ok-lines.lines.items c.deref-8.result.now (map shown c.in_ok-chains.chains.items)
    c.deref.ensures.value c.deref-4.ensures.value c.deref-3.ensures.value c.deref-7.ensures.value c.deref-9.ensures.value c.deref-6.ensures.value c.deref-8.ensures.value
    c.in_ok-threads.ensures.own c.in_ok-parts.ensures c.in_ok-lines.ensures.once c.in_ok-lines.ensures.joined c.in_ok-kept.ensures c.in_ok-chains.ensures

pub returns-clause-cycles : goal.returns-clause-cycles
returns-clause-cycles c =
    cycles c.args.log.now.events.items (map shown c.in_ok-chains.chains.items) (assembled_read c.args.log.now.events.items c.deref.result.now c.deref-4.result.now
    c.in_ok-threads.threads.items c.deref-3.result.now c.deref-7.result.now c.in_ok-kept.kept.items c.deref-9.result.now
    c.in_ok-parts.parts.items c.deref-6.result.now c.in_ok-lines.lines.items c.deref-8.result.now (map shown c.in_ok-chains.chains.items)
    c.deref.ensures.value c.deref-4.ensures.value c.deref-3.ensures.value c.deref-7.ensures.value c.deref-9.ensures.value c.deref-6.ensures.value c.deref-8.ensures.value
    c.in_ok-threads.ensures.own c.in_ok-parts.ensures c.in_ok-lines.ensures.once c.in_ok-lines.ensures.joined c.in_ok-kept.ensures c.in_ok-chains.ensures)
