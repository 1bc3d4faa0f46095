use Rattle.std.proofs.Common.{◌≡◌, ◌++◌, ◌<◌, All, length, take, codes, sym, ap, ◌∙◌, subst, arith}
use Rattle.std.specs.Fmt.{decimal}
use Rattle.std.proofs.lemmas.List.{length-map, take_all}
use Rattle.std.proofs.lemmas.Option.{get_or_from_slice_get}
use Rattle.dim_stack.specs.Names.{IsNamedBy}
use Rattle.dim_signature.specs.Sig.{Sig}
use Rattle.dim_history_file.specs.Value.{named_sig, named}
use Rattle.dim_inquiry.specs.Report.{by_number}
use Rattle.dim_inquiry.specs.Show.{shown_sig}
use Rattle.dim_inquiry.proofs.ReportLemmas.{by_number_map}
use Rattle.dim_inquiry.proofs.showing.shown_text.Goals as goal

pub loop-i-init : goal.loop-i-init
unfolding by_number
loop-i-init c = c.new-text.ensures.bytes

pub put_signature-requires : goal.put_signature-requires
put_signature-requires c =
    let sigs = c.args.h.now.catalogue.sigs in
    let s = c.get.result.now in
    let low : c.loop-i.i < length sigs = omega (arith, c.loop-i-test.true, c.len-count.ensures.len) in
    subst (λ (t : Sig). All (IsNamedBy c.args.h.now.names) t.stacks) (get_or_from_slice_get sigs c.loop-i.i s s c.get.ensures.value) (c.law.ensures.named c.loop-i.i s low)

pub loop-i-preserved : goal.loop-i-preserved
loop-i-preserved c =
    let names = c.args.h.now.names in
    let sigs = c.args.h.now.catalogue.sigs in
    let s = c.get.result.now in
    c.in_ok-put_signature.ensures
    ∙ ap (λ t. t ++ shown_sig c.loop-i.i (named_sig names s)) c.loop-i.invariant
    ∙ sym (by_number_map shown_sig (named_sig names) sigs c.loop-i.i s c.get.ensures.value)

pub returns : goal.returns
returns c =
    let names = c.args.h.now.names in
    let sigs = c.args.h.now.catalogue.sigs in
    let all : take c.loop-i.i sigs ≡ sigs = take_all c.loop-i.i sigs (omega (arith, c.loop-i-test.false, c.len-count.ensures.len)) in
    let count : c.len-count.result ≡ length (named names sigs) = c.len-count.ensures.len ∙ sym (length-map sigs (named_sig names)) in
    c.in_ok-writeln.ensures.bytes
    ∙ ap (λ t. t ++ (codes "signatures " ++ (decimal c.len-count.result ++ codes "\n"))) (c.loop-i.invariant ∙ ap (λ ys. by_number shown_sig 0 (named names ys)) all)
    ∙ ap (λ n. by_number shown_sig 0 (named names sigs) ++ (codes "signatures " ++ (decimal n ++ codes "\n"))) count
