use Rattle.std.proofs.Common.{◌≡◌, ◌+◌, ◌++◌, ◌∷◌, [], length, arith, ap, ◌∙◌, rules}
use Rattle.std.proofs.lemmas.List.{length_push}
use Rattle.std.proofs.lemmas.List.Elements.{All-pop}
use Rattle.dim_signature.specs.Order.{IsRoom}
use Rattle.dim_signature.specs.Sig.{Sig, fresh}
use Rattle.dim_signature.proofs.Kept.{catalogue-push}
use Rattle.dim_signature.proofs.catalogue.Catalogue.learn.Goals as goal

pub invariant_of-self : goal.invariant_of-self
invariant_of-self c =
    let s : Sig = fresh c.args.depth c.args.sorted.now in
    let appended : c.append.new.list.items ≡ c.self.inside.list.items ++ s ∷ [] = search rules in
    let size : length c.append.new.list.items ≡ length c.self.inside.list.items + 1 = ap length appended ∙ length_push _ _ in
    let rooms : length c.self.inside.rooms.items ≡ length c.pop.new.self.items + 1 = ap length (rw c.unwrap-room.ensures at c.pop.ensures.items) ∙ length_push _ _ in
    let few = (rw (← c.self.view_is) at c.requires.few) in
    let new = (rw (← c.self.view_is) at c.requires.unknown) in
    record {
      catalogue = rw appended (catalogue-push c.self.inside.list.items s c.self.invariant.catalogue few c.requires.signature c.requires.ordered new);
      order = c.append.ensures.ordered;
      rooms = (All-pop IsRoom c.self.inside.rooms.items c.pop.new.self.items c.pop.result c.pop.ensures.items c.self.invariant.rooms).0;
      list_room = omega arith;
      order_room = omega arith;
    }
