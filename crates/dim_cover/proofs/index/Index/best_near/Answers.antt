use Rattle.std.proofs.Common.{◌≤◌, ◌∙◌, ℕ, sym}
use Rattle.dim_cover.proofs.Best.{at_most_all, no_more}
use Rattle.dim_cover.proofs.index.Index.best_near.Goals as goal

pub returns-then-is_at_most-clause-finds : goal.returns-then-is_at_most-clause-finds
returns-then-is_at_most-clause-finds c = λ n placed h.
    let first : ℕ = c.in-Some.first in
    let le : first ≤ n = no_more c.first_near.result first n c.in-Some.is (c.first_near.ensures.finds n placed h) in
    at_most_all c.better.new.best first n (sym c.is_at_most.ensures ∙ c.if-is_at_most.true) le
