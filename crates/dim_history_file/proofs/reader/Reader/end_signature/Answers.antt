use Rattle.std.proofs.Common.{◌≡◌, ap, ◌∙◌, subst}
use Rattle.std.proofs.lemmas.Result.{on_ok_weaker}
use Rattle.dim_text.specs.Reading.{Leaves}
use Rattle.dim_text.specs.Stops.{kind_of}
use Rattle.dim_signature.specs.Sig.{Sig}
use Rattle.dim_history_file.specs.Signing.{entered, opened}
use Rattle.dim_history_file.proofs.Taking.{entered_leaves, entered_keeps}
use Rattle.dim_history_file.proofs.reader.Reader.end_signature.Goals as goal

signed : (c : goal.After-enter) → c.in_ok-sig.sig ≡ opened c.args.opening c.args.self.now.stacks.items
signed c = c.in_ok-sig.ensures ∙ ap (opened c.args.opening) c.deref.ensures.value

abbrev made : goal.After-enter → Sig
made c = opened c.args.opening c.args.self.now.stacks.items

took : (c : goal.After-enter) → Leaves kind_of c.enter.new.catalogue.sigs c.enter.result (entered c.args.self.now.catalogue.sigs (made c))
took c = subst (λ s. Leaves kind_of c.enter.new.catalogue.sigs c.enter.result (entered c.args.self.now.catalogue.sigs s)) (signed c) c.enter.ensures

pub returns-clause-value : goal.returns-clause-value
returns-clause-value c =
    let r = c.requires.reading in
    entered_leaves c.args.self.now.version c.args.self.now.names r.ascending c.args.self.now.catalogue.sigs (made c) r.catalogue r.stacks c.enter.new.catalogue.sigs c.enter.result (took c)

pub returns-clause-reading : goal.returns-clause-reading
returns-clause-reading c =
    let r = c.requires.reading in
    on_ok_weaker c.enter.result (λ named. record { ascending = r.ascending; catalogue = named; stacks = r.stacks })
    (entered_keeps c.args.self.now.version c.args.self.now.names r.ascending c.args.self.now.catalogue.sigs (made c) r.catalogue r.stacks c.enter.new.catalogue.sigs c.enter.result (took c))
