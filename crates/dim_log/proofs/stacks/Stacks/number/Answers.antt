use Rattle.std.proofs.Common.{◌≡◌, true, false}
use Rattle.std.specs.List.{list_any}
use Rattle.std.specs.Str.{bytes_eq}
use Rattle.dim_log.specs.declared.stacks.Stacks.{Stacks}
use Rattle.dim_log.proofs.Once.{known_from, new_from}
use Rattle.dim_log.proofs.Stacking.{known_text, new_text}
use Rattle.dim_log.proofs.stacks.Stacks.number.Goals as goal

pub returns-in_ok-push-clause-numbered : goal.returns-in_ok-push-clause-numbered
returns-in_ok-push-clause-numbered c =
    let old = c.args.self.now in
    let text = c.args.text.now in
    let new : Stacks = record { functions = c.spots.new.functions; texts = c.add.new.self; stacks = c.push.new.self } in
    let none : list_any (bytes_eq text) old.texts ≡ false = new_from (list_any (bytes_eq text) old.texts) c.in_ok-number.is_new c.in_ok-number.ensures.new c.if-is_new.true in
    new_text old new text c.in_ok-number.number c.in_ok-stack.stack c.requires.sound c.in_ok-number.ensures.words none c.in_ok-number.ensures.word c.in_ok-number.ensures.within
    c.in_ok-stack.ensures.value c.in_ok-stack.ensures.functions c.in_ok-stack.ensures.within c.in_ok-push.ensures.items

pub returns-else-is_new-clause-numbered : goal.returns-else-is_new-clause-numbered
returns-else-is_new-clause-numbered c =
    let old = c.args.self.now in
    let text = c.args.text.now in
    let known : list_any (bytes_eq text) old.texts ≡ true = known_from (list_any (bytes_eq text) old.texts) c.in_ok-number.is_new c.in_ok-number.ensures.new c.if-is_new.false in
    known_text old c.add.new.self text c.in_ok-number.number c.requires.sound c.in_ok-number.ensures.words known c.in_ok-number.ensures.word c.in_ok-number.ensures.within
