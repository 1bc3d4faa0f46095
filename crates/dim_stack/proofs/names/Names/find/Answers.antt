use Rattle.std.proofs.Common.{◌≡◌, List, ℕ, subst, sym, ap, ◌∙◌, rules}
use Rattle.std.proofs.lemmas.Fn.{always_returns_same}
use Rattle.dim_stack.specs.Names.{AreAscending, name_cmp, name_number}
use Rattle.dim_stack.proofs.NumberLemmas.{found_at, missing_at, searchable}
use Rattle.dim_stack.proofs.names.Names.find.Goals as goal

pub returns-in-Ok : goal.returns-in-Ok
returns-in-Ok c =
    let names = c.as_slice.result.now in
    let are : names ≡ c.args.self.now = c.as_slice.ensures.keys ∙ c.self.view_is in
    let up : AreAscending names = subst AreAscending (sym c.as_slice.ensures.keys) c.self.invariant.ascending in
    let at = c.in-Ok.ensures.position (λ (y : List ℕ). name_cmp y c.args.name.now) (always_returns_same _ _ _ (λ a r f' k. search rules)) in
    sym (found_at names up c.in-Ok.i c.args.name.now c.in-Ok.ensures.bound (at _)) ∙ ap (λ ns. name_number ns c.args.name.now) are

pub returns-in-Err : goal.returns-in-Err
returns-in-Err c =
    let names = c.as_slice.result.now in
    let are : names ≡ c.args.self.now = c.as_slice.ensures.keys ∙ c.self.view_is in
    let up : AreAscending names = subst AreAscending (sym c.as_slice.ensures.keys) c.self.invariant.ascending in
    let at = c.in-Err.ensures.position (λ (y : List ℕ). name_cmp y c.args.name.now) (always_returns_same _ _ _ (λ a r f' k. search rules)) (searchable names up c.args.name.now) in
    sym (missing_at names c.in-Err.field-0 c.args.name.now at) ∙ ap (λ ns. name_number ns c.args.name.now) are
