use Rattle.std.proofs.Common.{◌≡◌, ◌+◌, ◌++◌, ◌∷◌, ◌==◌, ◌||◌, ℕ, [], if◌then◌else◌, map, set, ap, subst, ◌∙◌}
use Rattle.std.specs.List.{Contains}
use Rattle.std.proofs.lemmas.Result.{on_ok_weaker}
use Rattle.dim_orders.specs.Own.{row}
use Rattle.dim_orders.specs.Placing.{is_placed}
use Rattle.dim_orders.proofs.LineLemmas.{begun, freed_fewer, put_behind, unplaced}
use Rattle.dim_orders.proofs.lines.Lines.start.Goals.{then-is_none+in_default, else-is_none}
use Rattle.dim_orders.proofs.lines.Lines.start.Goals as goal

pub returns-in-Some-clause-placed : goal.returns-in-Some-clause-placed
returns-in-Some-clause-placed c =
    let old = c.args.self.now in
    let mid = c.take_free.new.self in
    let new = c.put.new.self in
    let thread = c.args.thread in
    let line = c.in-Some.line in
    let found = c.in-Some.ensures.found in
    let lines = c.in-Some.ensures.lines in
    let line_of = c.in-Some.ensures.line_of in
    on_ok_weaker c.put.result (λ e events n at are.
    freed_fewer events (n + 1) (map (λ v. v.items) new.lines.items) new.line_of.items (map (λ v. v.items) old.free.items) (map (λ v. v.items) new.free.items)
    (λ x a among. c.in-Some.ensures.fewer x a (subst (λ f. Contains (row f.items x) a) c.put.ensures.free among))
    (put_behind events n (map (λ v. v.items) old.lines.items) (map (λ v. v.items) new.lines.items) old.line_of.items new.line_of.items (map (λ v. v.items) old.free.items) c.args.by thread line found.0 at
    (unplaced old.line_of.items thread c.index.result.now c.is_none.result c.requires.thread c.index.ensures c.is_none.ensures c.if-is_none.true)
    found.1 found.2
    (e ∙ ap (λ ls. set (map (λ v. v.items) ls.items) line (row ls.items line ++ thread ∷ [])) lines)
    (λ u. c.put.ensures.placed u ∙ ap (λ p. is_placed p.items u || u == thread) line_of) are))
    c.put.ensures.lines

pub returns-clause-placed : goal.returns-clause-placed
returns-clause-placed c =
    let old = c.args.self.now in
    let mid = c.if-is_none.self in
    let new = c.begin.new.self in
    let thread = c.args.thread in
    let lines : mid.lines ≡ old.lines = elim c.if-is_none.branch [
      | then-is_none+in_default w ↦ ap (λ s. s.lines) w.self-is ∙ w.take_free.ensures.lines
      | else-is_none w ↦ ap (λ s. s.lines) w.self-is
    ] in
    let line_of : mid.line_of ≡ old.line_of = elim c.if-is_none.branch [
      | then-is_none+in_default w ↦ ap (λ s. s.line_of) w.self-is ∙ w.take_free.ensures.line_of
      | else-is_none w ↦ ap (λ s. s.line_of) w.self-is
    ] in
    let fewer : (x a : ℕ) → Contains (row mid.free.items x) a → Contains (row old.free.items x) a = elim c.if-is_none.branch [
      | then-is_none+in_default w ↦ λ x a among. w.take_free.ensures.fewer x a (subst (λ s. Contains (row s.free.items x) a) w.self-is among)
      | else-is_none w ↦ λ x a among. subst (λ s. Contains (row s.free.items x) a) w.self-is among
    ] in
    on_ok_weaker c.begin.result (λ e events n at are.
    freed_fewer events (n + 1) (map (λ v. v.items) new.lines.items) new.line_of.items (map (λ v. v.items) old.free.items) (map (λ v. v.items) new.free.items)
    (λ x a among. fewer x a (subst (λ f. Contains (row f.items x) a) c.begin.ensures.free among))
    (begun events (n + 1) (map (λ v. v.items) old.lines.items) (map (λ v. v.items) new.lines.items) old.line_of.items new.line_of.items (map (λ v. v.items) old.free.items) thread
    (e ∙ ap (λ p. if is_placed p.items thread then map (λ v. v.items) mid.lines.items else map (λ v. v.items) mid.lines.items ++ (thread ∷ []) ∷ []) line_of
    ∙ ap (λ ls. if is_placed old.line_of.items thread then map (λ v. v.items) ls.items else map (λ v. v.items) ls.items ++ (thread ∷ []) ∷ []) lines)
    (λ u. c.begin.ensures.placed u ∙ ap (λ p. is_placed p.items u || u == thread) line_of) are))
    c.begin.ensures.lines
