use Rattle.std.proofs.Common.{◌≡◌, ℕ, inl, inr, true, false, List, ◌∷◌, ◌++◌, [], length, Option, Some, None, Result, Ok, Err, refl, sym, ap, ◌∙◌}
use Rattle.std.specs.Prelude.{IfSome, nat_lt}
use Rattle.std.specs.List.{list_any}
use Rattle.std.proofs.lemmas.Bool.{cond-true, cond-false}
use Rattle.dim_text.proofs.Exports.{chosen}
use Rattle.dim_signature.specs.declared.catalogue.Add.{Add}
use Rattle.dim_signature.specs.declared.catalogue.Add.TheVariants.{Known}
use Rattle.dim_signature.specs.Sig.{Sig}
use Rattle.dim_signature.specs.Catalogue.{Contents, has_stacks, signature_number}
use Rattle.dim_signature.specs.Refusal.{refusal_of}
use Rattle.dim_signature.specs.Order.{no_sig}
use Rattle.dim_history_file.specs.declared.fault.FileKind.TheVariants.{Double}
use Rattle.dim_history_file.proofs.Comparing.{any_at, any_none}
use Rattle.dim_history_file.proofs.signing.enter.Goals as goal

none_has : (sigs : List Sig) (s : Sig) (n : ℕ) → IfSome (refusal_of sigs s.stacks) (λ e. ◌≡◌ {A = Result ℕ Add} (Ok n) (Err e)) → list_any (has_stacks s.stacks) sigs ≡ false
none_has sigs s n h = go (signature_number sigs s.stacks) refl
  where
    go : (o : Option ℕ) → signature_number sigs s.stacks ≡ o → list_any (has_stacks s.stacks) sigs ≡ false
    go None e = any_none (has_stacks s.stacks) sigs e
    go (Some i) e = (let f : ◌≡◌ {A = Result ℕ Add} (Ok n) (Err (Known i)) = rw e at h in cc)

one_has : (sigs : List Sig) (s : Sig) (i : ℕ) → refusal_of sigs s.stacks ≡ Some (Known i) → list_any (has_stacks s.stacks) sigs ≡ true
one_has sigs s i h = go (signature_number sigs s.stacks) refl
  where
    go : (o : Option ℕ) → signature_number sigs s.stacks ≡ o → list_any (has_stacks s.stacks) sigs ≡ true
    go None e =
        let f = rw e at h in
        elim (chosen (nat_lt (length sigs) 4096) _ _ _ f) [
          | inl x ↦ cc (x.1)
          | inr x ↦ cc (x.1)
        ]
    go (Some j) e = any_at (has_stacks s.stacks) sigs j no_sig e

pub returns-in-Ok : goal.returns-in-Ok
returns-in-Ok c =
    let sigs = c.args.catalogue.now.sigs in
    let s = c.args.sig in
    cond-false (list_any (has_stacks s.stacks) sigs) (Err Double) (Ok (sigs ++ s ∷ [])) (none_has sigs s c.in-Ok.field-0 c.in-Ok.ensures.refusal)
    ∙ ap (λ (x : Contents). Ok x.sigs) (sym c.in-Ok.ensures.added)

pub returns-in-Err-Known : goal.returns-in-Err-Known
returns-in-Err-Known c =
    let sigs = c.args.catalogue.now.sigs in
    let s = c.args.sig in
    let cause = rw c.in-Err-Known.field-0-is at c.in-Err-Known.ensures.cause in
    elim cause [
      | inl x ↦ cc (x)
      | inr x ↦ cond-true (list_any (has_stacks s.stacks) sigs) (Err Double) (Ok (sigs ++ s ∷ [])) (one_has sigs s c.in-Err-Known.field-0-0 x)
    ]
