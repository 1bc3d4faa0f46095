use Rattle.std.proofs.Common.{◌++◌, take, ap, sym, ◌∙◌, subst, All}
use Rattle.std.proofs.lemmas.List.Elements.{All-push}
use Rattle.dim_signature.specs.Sig.{Sig}
use Rattle.dim_history_file.specs.declared.version.Version.TheVariants.{Two}
use Rattle.dim_history_file.specs.Value.{named_sig, named}
use Rattle.dim_history_file.specs.Spelling.{lines_before_end, text_of, sig_lines}
use Rattle.dim_history_file.specs.Grammar.{IsSized, AreSized}
use Rattle.dim_history_file.proofs.Sound.{take_one_more, map_one_more, text_more}
use Rattle.dim_history_file.proofs.writing.text_of_history.Goals as goal

pub loop-i-preserved : goal.loop-i-preserved
loop-i-preserved c =
    let names = c.args.h.now.names in
    let sigs = c.args.h.now.catalogue.sigs in
    let i = c.loop-i.i in
    let s = c.get.result.now in
    record {
      text =
          c.in_ok-put_signature.ensures.lines
          ∙ ap (λ t. t ++ text_of (sig_lines Two (named_sig names s))) c.loop-i.invariant.text
          ∙ sym (text_more Two (named names (take i sigs)) (named_sig names s))
          ∙ ap (λ ss. text_of (lines_before_end Two ss)) (sym (map_one_more (named_sig names) sigs i s c.get.ensures.value));
      sized =
          subst AreSized (sym (take_one_more sigs i s c.get.ensures.value)) (All-push (λ (t : Sig). All IsSized t.stacks) (take i sigs) s c.loop-i.invariant.sized c.in_ok-put_signature.ensures.sized);
    }
