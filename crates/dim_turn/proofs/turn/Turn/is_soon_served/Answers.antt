use Rattle.std.proofs.Common.{rules, ◌≡◌, ℕ, ◌∙◌, ap, sym, subst}
use Rattle.dim_turn.specs.Phases.{ticket_of}
use Rattle.dim_turn.specs.Steps.{Seated, Opens}
use Rattle.dim_turn.proofs.Steps.{looks}
use Rattle.dim_turn.proofs.turn.Turn.is_soon_served.Goals as goal

pub load-requires : goal.load-requires
load-requires g c = (search rules, search rules, looks _ _ _ _ _ c.args.ticket (ap (λ m. m.0.phase) c.loop.invariant.1 ∙ c.requires.ticket))

pub returns-then-load-ticket-clause-opens : goal.returns-then-load-ticket-clause-opens
returns-then-load-ticket-clause-opens g c _ = let same = c.loop.invariant.1 in let hit : c.load.result ≡ c.args.ticket = search rules in
    subst (λ (p : ℕ × Seated g.row.B.Denot g.row.B-Entry.Denot). Opens g.B.Book p.0 p.1 c.load.new.seat.me) (λ k. (hit k, same k))
    (c.load.ensures.2.0 (hit ∙ sym (ap (λ (m : Seated g.row.B.Denot g.row.B-Entry.Denot). ticket_of m.0.phase) same ∙ ap ticket_of c.requires.ticket)))
