use Rattle.std.proofs.Common.{List, ℕ, All, sym, subst}
use Rattle.std.proofs.lemmas.List.Elements.{All-append}
use Rattle.dim_stack.specs.Names.{IsNamedBy}
use Rattle.dim_signature.specs.Sig.{Sig}
use Rattle.dim_history_file.specs.Value.{AreNamed}
use Rattle.dim_merge.proofs.parts.joined.Goals as goal

pub invariant_of-result : goal.invariant_of-result
invariant_of-result c =
    let known = c.args.parts.known in
    let added = c.args.parts.added in
    let moved = subst (λ (n : List (List ℕ)). AreNamed n added.catalogue.sigs) (sym c.args.parts.alike) added.named in
    let all = All-append (λ (s : Sig). All (IsNamedBy known.names) s.stacks) known.catalogue.sigs added.catalogue.sigs known.named moved in
    record { named = subst (AreNamed known.names) (sym c.in_ok-add_all.ensures) all }
