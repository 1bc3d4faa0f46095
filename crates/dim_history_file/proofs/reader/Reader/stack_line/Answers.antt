use Rattle.std.proofs.Common.{◌≡◌, ◌<◌, false, [], ◌∷◌, ◌++◌, length, map, Ok, arith, sym, ap, ◌∙◌, subst}
use Rattle.std.proofs.lemmas.Grind.{common_steps}
use Rattle.std.proofs.lemmas.List.{length-map, length_push}
use Rattle.dim_text.specs.Reading.{Leaves}
use Rattle.dim_text.specs.Cuts.{words_of}
use Rattle.dim_text.specs.Stops.{kind_of}
use Rattle.dim_history_file.specs.Value.{named_stack}
use Rattle.dim_history_file.specs.Judging.{State, is_less_than_last}
use Rattle.dim_history_file.specs.Reader.{sigs_of, state_of, stage_of}
use Rattle.dim_history_file.proofs.Taking.{stack_goes_on, stack_is_last, stacks_stay_sorted}
use Rattle.dim_history_file.proofs.reader.Reader.stack_line.Goals as goal

pub returns-then-len-opening-clause-value : goal.returns-then-len-opening-clause-value
returns-then-len-opening-clause-value c =
    let r = c.args.self.now in
    let new = c.push.new.self.items in
    let after : is_less_than_last (named_stack r.names c.in_ok-stack.stack) (map (named_stack r.names) r.stacks.items) ≡ false = sym c.is_less_than_last.ensures ∙ grind (arith, common_steps) in
    let few : length new < c.args.opening.count = omega (arith, c.if-len-opening.true, c.len.ensures, c.push.new.self.ok.0) in
    stack_goes_on r.version r.names (sigs_of r) c.args.opening r.stacks.items new c.in_ok-stack.stack (words_of c.args.line.now) c.in_ok-stack.ensures.value after c.in_ok-push.ensures.items few
    ∙ ap (λ at. let s : State = record { version = r.version; stage = stage_of r.names new at; sigs = sigs_of r } in Ok s) (sym c.requires.stage)

pub end_signature-requires-clause-sorted : goal.end_signature-requires-clause-sorted
end_signature-requires-clause-sorted c =
    let r = c.args.self.now in
    let after : is_less_than_last (named_stack r.names c.in_ok-stack.stack) (map (named_stack r.names) r.stacks.items) ≡ false = sym c.is_less_than_last.ensures ∙ grind (arith, common_steps) in
    stacks_stay_sorted r.version r.names (sigs_of r) c.args.opening r.stacks.items c.push.new.self.items c.in_ok-stack.stack (words_of c.args.line.now) c.in_ok-stack.ensures.value after c.in_ok-push.ensures.items
    c.requires.reading.ascending c.requires.reading.stacks c.in_ok-stack.ensures.named c.requires.begun.sorted

pub returns-clause-value : goal.returns-clause-value
returns-clause-value c =
    let r = c.args.self.now in
    let new = c.push.new.self.items in
    let after : is_less_than_last (named_stack r.names c.in_ok-stack.stack) (map (named_stack r.names) r.stacks.items) ≡ false = sym c.is_less_than_last.ensures ∙ grind (arith, common_steps) in
    let items : new ≡ r.stacks.items ++ c.in_ok-stack.stack ∷ [] = c.in_ok-push.ensures.items in
    let size = ap length items ∙ length_push r.stacks.items c.in_ok-stack.stack in
    let count : length new ≡ c.args.opening.count = omega (arith, c.if-len-opening.false, c.len.ensures, c.push.new.self.ok.0, c.requires.begun.due, length-map r.stacks.items (named_stack r.names), size) in
    subst (Leaves kind_of (state_of c.end_signature.new.self) c.end_signature.result)
    (sym (stack_is_last r.version r.names (sigs_of r) c.args.opening r.stacks.items new c.in_ok-stack.stack (words_of c.args.line.now) c.in_ok-stack.ensures.value after items count))
    c.end_signature.ensures.value
