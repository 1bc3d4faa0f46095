use Rattle.std.proofs.Common.{◌++◌, List, ℕ, sym, ap, ap₂, ◌∙◌, subst}
use Rattle.dim_signature.specs.Sig.{Sig}
use Rattle.dim_history_file.specs.Value.{NamedSig, AreNamed, named}
use Rattle.dim_merge.specs.Merging.{merged}
use Rattle.dim_merge.specs.Numbered.{AreDifferent}
use Rattle.dim_merge.proofs.Different.{parts_differ}
use Rattle.dim_merge.proofs.Naming.{known_are_named, merged_named, unknown_are_named}
use Rattle.dim_merge.proofs.parts.parts_of.Goals as goal

pub invariant_of-known : goal.invariant_of-known
invariant_of-known c =
    let first = c.args.both.first in
    record { named = subst (AreNamed first.names) (sym c.add_yields.ensures) (known_are_named first.names c.law.ensures.table.ascending c.args.both.second.catalogue.sigs first.catalogue.sigs first.named) }

pub invariant_of-added : goal.invariant_of-added
invariant_of-added c =
    let first = c.args.both.first in
    let second = c.args.both.second in
    record { named = subst (AreNamed second.names) (sym c.in_ok-unknown.ensures) (unknown_are_named second.names c.law-2.ensures.table.ascending first.catalogue.sigs second.catalogue.sigs second.named) }

pub invariant_of-result : goal.invariant_of-result
invariant_of-result c =
    let different = parts_differ c.args.both.first.catalogue.sigs c.args.both.second.catalogue.sigs c.law.ensures.catalogue.distinct c.law-2.ensures.catalogue.distinct in
    record {
      alike = c.args.both.alike;
      different = subst AreDifferent (ap₂ (λ (a b : List Sig). a ++ b) (sym c.add_yields.ensures) (sym c.in_ok-unknown.ensures)) different;
    }

pub returns-clause-sigs : goal.returns-clause-sigs
returns-clause-sigs c =
    let first = c.args.both.first in
    let second = c.args.both.second in
    let alike = c.args.both.alike in
    let moved = subst (λ (n : List (List ℕ)). AreNamed n second.catalogue.sigs) (sym alike) second.named in
    ap₂ (λ (a b : List NamedSig). a ++ b) (ap (named first.names) c.add_yields.ensures) (ap₂ (λ (n : List (List ℕ)) (ss : List Sig). named n ss) (sym alike) c.in_ok-unknown.ensures)
    ∙ merged_named first.names c.law.ensures.table.ascending first.catalogue.sigs second.catalogue.sigs first.named moved
    ∙ ap (λ (n : List (List ℕ)). merged (named first.names first.catalogue.sigs) (named n second.catalogue.sigs)) alike
