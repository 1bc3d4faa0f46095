use Rattle.std.proofs.Common.{◌<◌, arith, length, get_or}
use Rattle.std.proofs.lemmas.List.Elements.{All-get_or}
use Rattle.dim_cover.proofs.Fronts.{near_only, past_nothing}
use Rattle.dim_cover.proofs.Kept.{front_distinct, in_front}
use Rattle.dim_cover.proofs.index.links.go_past_if_near.Goals as goal

pub go_past-requires-clause-distinct : goal.go_past-requires-clause-distinct
go_past-requires-clause-distinct c = front_distinct c.args.slots.now c.args.place c.requires.distinct

pub returns-else-near-gt1-clause-turned : goal.returns-else-near-gt1-clause-turned
returns-else-near-gt1-clause-turned c =
    let edges = c.args.edges.now in
    let below : get_or c.args.slots.now c.args.place 0 < length edges = All-get_or (λ s. s < length edges) c.args.slots.now c.args.place 0 c.requires.there c.requires.within in
    past_nothing edges c.args.slots.now c.args.links.now.items c.args.place c.requires.there (omega (arith, below, c.requires.size)) c.requires.followed (omega (arith, c.requires.near, c.if-near-gt1.false))

pub go_past-requires-clause-near : goal.go_past-requires-clause-near
go_past-requires-clause-near c =
    let edges = c.args.edges.now in
    let below : get_or c.args.slots.now c.args.place 0 < length edges = All-get_or (λ s. s < length edges) c.args.slots.now c.args.place 0 c.requires.there c.requires.within in
    λ s i. near_only edges c.args.links.now.items c.args.slots.now c.requires.followed (get_or c.args.slots.now c.args.place 0) (omega (arith, below, c.requires.size)) s (in_front c.args.slots.now c.args.place s i)
