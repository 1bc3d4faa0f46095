use Rattle.std.proofs.Common.{◌≡◌, ◌+◌, ◌++◌, ◌∷◌, [], length, None, arith, ap, ◌∙◌, rules}
use Rattle.std.proofs.lemmas.List.{length_push}
use Rattle.dim_signature.specs.Catalogue.{signature_number}
use Rattle.dim_signature.proofs.Kept.{catalogue-push}
use Rattle.dim_signature.proofs.catalogue.Catalogue.add.Goals as goal

pub invariant_of-self-in-Err-2 : goal.invariant_of-self-in-Err-2
invariant_of-self-in-Err-2 c =
    let appended : c.append.new.list.items ≡ c.self.inside.list.items ++ c.args.sig ∷ [] = search rules in
    let new : signature_number c.self.inside.list.items c.args.sig.stacks ≡ None = search rules in
    let size : length c.append.new.list.items ≡ length c.self.inside.list.items + 1 = ap length appended ∙ length_push _ _ in
    record {
      catalogue = rw appended (catalogue-push c.self.inside.list.items c.args.sig c.self.invariant.catalogue (omega arith) c.as_slice.ensures.signature c.as_slice.ensures.ordered new);
      order = c.append.ensures.ordered;
      rooms = c.self.invariant.rooms;
      list_room = omega (arith, c.in_ok-reserve-in-Err-2.ensures);
      order_room = omega (arith, c.in_ok-reserve-in-Err-2-2.ensures);
    }
