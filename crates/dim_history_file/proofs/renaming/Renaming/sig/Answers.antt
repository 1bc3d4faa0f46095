use Rattle.std.proofs.Common.{◌≡◌, length, map, arith, sym, ap, ◌∙◌, subst}
use Rattle.std.proofs.lemmas.List.{length-map}
use Rattle.dim_signature.specs.Sorted.{AreSorted}
use Rattle.dim_history_file.specs.declared.opening.Opening.{Opening}
use Rattle.dim_history_file.specs.Value.{named_stack}
use Rattle.dim_history_file.specs.Grammar.{AreInOrder}
use Rattle.dim_history_file.proofs.Comparing.{in_order_named, sorted_named}
use Rattle.dim_history_file.proofs.renaming.Renaming.sig.Goals as goal

pub signature-requires-clause-sorted : goal.signature-requires-clause-sorted
signature-requires-clause-sorted c =
    let from = c.args.self.now.from.now in
    let to = c.args.self.now.to.now in
    let stacks = c.stacks.new.renamed.items in
    let before = in_order_named from c.len.ensures.table.ascending c.args.sig.stacks c.requires c.as_slice.ensures.ordered in
    let same = c.in_ok-stacks.ensures.same ∙ ap (map (named_stack from)) c.as_slice.ensures.stacks in
    subst AreSorted (sym c.deref.ensures.value) (sorted_named to c.len-2.ensures.table.ascending stacks c.in_ok-stacks.ensures.named (subst AreInOrder (sym same) before))

pub signature-requires-clause-in_range : goal.signature-requires-clause-in_range
signature-requires-clause-in_range c =
    let sig = c.as_slice.ensures.signature in
    let stacks = c.stacks.new.renamed.items in
    let to = c.args.self.now.to.now in
    let from = c.args.self.now.from.now in
    let size : length c.deref.result.now ≡ length c.args.sig.stacks =
    ap length c.deref.ensures.value
    ∙ sym (length-map stacks (named_stack to))
    ∙ ap length (c.in_ok-stacks.ensures.same ∙ ap (map (named_stack from)) c.as_slice.ensures.stacks)
    ∙ length-map c.args.sig.stacks (named_stack from) in
    record {
      low = omega (arith, ap (λ (o : Opening). o.depth) c.of-opening.ensures, sig.low);
      high = omega (arith, ap (λ (o : Opening). o.depth) c.of-opening.ensures, sig.high);
      some = omega (arith, size, sig.some);
      few = omega (arith, size, sig.few);
      yields = omega (arith, ap (λ (o : Opening). o.yields) c.of-opening.ensures, sig.yields);
    }
