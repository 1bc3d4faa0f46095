use Rattle.std.proofs.Common.{rules, ◌≡◌, List, length, map, arith, sym, ap, ◌∙◌, subst}
use Rattle.std.specs.Vec.{with_items}
use Rattle.std.proofs.lemmas.List.{with_items_is, length-map}
use Rattle.dim_asm.specs.Code.{Code, Function, IsProgram}
use Rattle.dim_asm.specs.Bound.{IsBound, SameButNumbers, numbered, bound}
use Rattle.dim_asm.proofs.BoundLemmas.{kept, numbers, bound_program}
use Rattle.dim_asm.proofs.program.Program.bind.Goals as goal

-- the program with these functions in place of its own
abbrev with_funcs : (c : goal.After-self-1) → List Function → Code
with_funcs c funcs = record { locks = c.self.inside.locks; funcs = funcs; threads = c.self.inside.threads.items }

is_bound : (c : goal.After-self-1) → with_funcs c (with_items c.self.inside.funcs c.number_all.new.funcs).items ≡ bound c.args.names.now c.args.self.now
is_bound c =
    let v = c.self.inside.funcs in
    let all = numbered c.args.names.now in
    let same : c.number_all.new.funcs ≡ map all v.items = c.number_all.ensures ∙ ap (map all) (search rules) in
    let long : length c.number_all.new.funcs ≡ v.len = omega (arith, ap length same, length-map v.items all, v.ok.0) in
    ap (with_funcs c) (with_items_is v c.number_all.new.funcs long ∙ same) ∙ ap (bound c.args.names.now) c.self.view_is

pub invariant_of-self : goal.invariant_of-self
invariant_of-self c = subst IsProgram (sym (is_bound c)) (bound_program c.args.names.now c.args.self.now (subst IsProgram c.self.view_is c.self.invariant))

pub returns-clause-numbers : goal.returns-clause-numbers
returns-clause-numbers c = subst (IsBound c.args.names.now) (sym (is_bound c)) (numbers c.args.names.now c.args.self.now c.requires)

pub returns-clause-kept : goal.returns-clause-kept
returns-clause-kept c = subst (SameButNumbers c.args.self.now) (sym (is_bound c)) (kept c.args.names.now c.args.self.now)
