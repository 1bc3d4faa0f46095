use Rattle.std.proofs.Common.{◌≡◌, ◌++◌, List, sym, ap, ◌∙◌, subst, append-nil}
use Rattle.std.specs.Prelude.{OnOk}
use Rattle.dim_signature.specs.Sig.{Sig}
use Rattle.dim_signature.specs.Catalogue.{signature_number}
use Rattle.dim_merge.proofs.Counting.{known_one, new_one}
use Rattle.dim_merge.proofs.parts.add_unknown.Goals as goal

pub returns-in-Some : goal.returns-in-Some
returns-in-Some c =
    let known = c.args.known.now.sigs in
    let s = c.args.sig.now in
    let old = c.args.unknown.now.sigs in
    let e = sym (ap (signature_number known) c.as_slice.ensures.stacks) ∙ sym c.find.ensures ∙ c.in-Some.is in
    sym (ap (λ (xs : List Sig). old ++ xs) (known_one known s _ e) ∙ append-nil old)

pub returns-in-None : goal.returns-in-None
returns-in-None c =
    let known = c.args.known.now.sigs in
    let s = c.args.sig.now in
    let old = c.args.unknown.now.sigs in
    let e = sym (ap (signature_number known) c.as_slice.ensures.stacks) ∙ sym c.find.ensures ∙ c.in-None.is in
    subst (λ (xs : List Sig). OnOk c.add_new.result (c.add_new.new.self.sigs ≡ old ++ xs)) (sym (new_one known s e)) c.add_new.ensures.added
