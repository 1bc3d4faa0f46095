-- How far `generate` came.
use Rattle.std.proofs.Common.{◌≡◌, ◌≤◌, ℕ, List, [], length, Option, Some, Ok, refl, sym, ap, ◌∙◌, subst, arith, Result, Err}
use Rattle.std.proofs.lemmas.List.Elements.{All-nil}
use Rattle.dim_base.specs.Files.{Named, with_file}
use Rattle.dim_stack.specs.Names.{table_of}
use Rattle.dim_signature.specs.Sig.{Sig}
use Rattle.dim_history_file.specs.declared.history.History.{History}
use Rattle.dim_history_file.specs.Grammar.{AreNear}
use Rattle.dim_history_file.specs.Value.{named, names_used, NamedSig}
use Rattle.dim_inquiry.specs.Inputs.{IsRead}
use Rattle.dim_inquiry.specs.declared.report.Report.{Report}
use Rattle.dim_inquiry.specs.declared.stop.Place.TheVariants.{Program}
use Rattle.dim_inquiry.specs.declared.stop.Stop.{Stop}
use Rattle.dim_inquiry.specs.declared.stop.Stop.TheVariants as stops
use Rattle.dim_inquiry.specs.Course.{Stops, Runs, stores, gives}
use Rattle.dim_commands.specs.Generate.{generate_course, generated_report, generated_inputs}
use Rattle.dim_generate.specs.Generated.{generated_text, generated_program}
use Rattle.dim_inquiry.proofs.Exports.{Stops-first}
use Rattle.dim_asm.specs.declared.fault.AsmFault.{AsmFault}
use Rattle.dim_asm.specs.Assembling.{program_of}
use Rattle.dim_asm.specs.Bound.{bound, own_names}
use Rattle.dim_asm.specs.Code.{Code}
use Rattle.dim_asm.specs.Printing.{program_text}
use Rattle.dim_generate.proofs.Exports.{assembled_again}
use Rattle.dim_inquiry.specs.declared.report.Ending.TheVariants.{Done}
use Rattle.dim_words.specs.Words.{default_settings}
use Rattle.dim_inquiry.specs.Inputs.{Inputs}
use Rattle.dim_commands.specs.Output.{run_report}

pub text_is : (n : ℕ) (bytes : List ℕ) → bytes ≡ program_text (generated_program n) → bytes ≡ generated_text n
unfolding generated_text
text_is n bytes e = e

pub text_assembled : (n : ℕ) (bytes : List ℕ) → bytes ≡ generated_text n → program_of bytes ≡ Ok (generated_inputs n).program
unfolding generated_text generated_inputs
text_assembled n bytes e = ap program_of e ∙ assembled_again n

ok_err : (p : Code) (fault : AsmFault) → ◌≡◌ {A = Result Code AsmFault} (Ok p) (Err fault) → ⊥
ok_err p fault h = cc (h)

pub same_program : (p q : Code) → ◌≡◌ {A = Result Code AsmFault} (Ok p) (Ok q) → p ≡ q
same_program p q e = cc (e)

pub not_bad : (n : ℕ) (bytes : List ℕ) (fault : AsmFault) → bytes ≡ generated_text n → program_of bytes ≡ Err fault → ⊥
not_bad n bytes fault e bad = ok_err (generated_inputs n).program fault (sym (text_assembled n bytes e) ∙ bad)

-- what was read is the program's, and no signature
abbrev inputs_by : Code → List NamedSig → Inputs
inputs_by p sigs = record { program = p; sigs = sigs }

pub inputs_are : (n : ℕ) (p : Code) (sigs : List NamedSig) → p ≡ (generated_inputs n).program → sigs ≡ [] → inputs_by p sigs ≡ generated_inputs n
unfolding generated_inputs
inputs_are n p sigs e f = ap (λ q. inputs_by q sigs) e ∙ ap (λ ss. inputs_by (bound (own_names (generated_program n)) (generated_program n)) ss) f

pub done_is : (n : ℕ) (x : Inputs) (r : Report) → x ≡ generated_inputs n → r ≡ run_report x default_settings → record { ending = Done; text = r.text } ≡ generated_report n
unfolding generated_report
done_is n x r e f = ap (λ q. record { ending = Done; text = q.text }) (f ∙ ap (λ y. run_report y default_settings) e)

pub at_making : (files : Named) (n : ℕ) (name : List ℕ) (after : Option Named) → after ≡ Some files → Stops (generate_course n name) files stops.OutOfMemory after
unfolding generate_course
at_making files n name after e = record { made = []; left = (generate_course n name).calls; order = refl; files = e }

pub at_storing : (files : Named) (n : ℕ) (name : List ℕ) (stop : Stop) (after : Option Named) → Stops (stores Program name (generated_text n)) files stop after → Stops (generate_course n name) files stop after
unfolding generate_course
at_storing files n name stop after h = Stops-first (stores Program name (generated_text n)) (λ v. gives (generated_report n)) files stop after h

pub at_end : (files : Named) (n : ℕ) (name : List ℕ) (after : Option Named) → after ≡ Some (with_file files name (Some (generated_text n))) → Runs (λ (r : Report). r) (generate_course n name) files (Ok (generated_report n)) after
unfolding generate_course
at_end files n name after e = (refl, e)

-- the history that knows no signature is as one that was read
pub empty_few : (sigs : List Sig) → sigs ≡ [] → length sigs ≤ 4080
empty_few sigs e = let n : length sigs ≡ 0 = ap length e in omega (arith, n)

pub empty_read : (h : History) → h.names ≡ [] → h.catalogue.sigs ≡ [] → IsRead h
empty_read h e f = record {
  names = e ∙ ap (λ sigs. table_of (names_used (named h.names sigs))) (sym f);
  few = let n : length h.names ≡ 0 = ap length e in omega (arith, n);
  near = subst AreNear (sym f) (All-nil _);
}
