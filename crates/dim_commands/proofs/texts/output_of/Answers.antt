use Rattle.std.proofs.Common.{◌≡◌, List, ℕ, Ok, ap, sym, ◌∙◌, subst}
use Rattle.dim_history_file.specs.Judging.{history_of}
use Rattle.dim_history_file.specs.Spelling.{history_text}
use Rattle.dim_history_file.specs.Value.{NamedSig}
use Rattle.dim_asm.specs.Bound.{IsBound}
use Rattle.dim_trace.specs.Text.{trace_text}
use Rattle.dim_commands.specs.Lawful.{ReadsBack}
use Rattle.dim_commands.proofs.texts.output_of.Goals as goal

pub texts_of-requires-clause-bound : goal.texts_of-requires-clause-bound
texts_of-requires-clause-bound c = subst (λ (n : List (List ℕ)). IsBound n c.args.made.program) (sym c.kept-history.ensures.names) c.requires.bound

pub returns-clause-history : goal.returns-clause-history
returns-clause-history c = c.in_ok-texts.ensures.history ∙ ap history_text c.kept-history.ensures.value

pub returns-clause-trace : goal.returns-clause-trace
returns-clause-trace c = c.in_ok-texts.ensures.trace ∙ ap (λ (n : List (List ℕ)). trace_text c.args.made.program n c.args.s.now.fuel c.args.s.now.depth c.args.made.run.tables.entries) c.kept-history.ensures.names

pub returns-clause-again : goal.returns-clause-again
returns-clause-again c = subst (λ (v : List NamedSig). history_of (history_text v) ≡ Ok v) c.kept-history.ensures.value c.in_ok-texts.ensures.again

pub returns-clause-trace_again : goal.returns-clause-trace_again
returns-clause-trace_again c =
    λ loaded is.
    subst (λ (n : List (List ℕ)). ReadsBack c.args.made.program n c.args.s.now c.args.made.run.tables.entries) c.kept-history.ensures.names (c.in_ok-texts.ensures.trace_again loaded is)
