-- How far the fetching and the taking of a program and a history came.
use Rattle.std.proofs.Common.{◌≡◌, ℕ, List, Option, Some, Result, Ok, Err, sym, subst, IfOk}
use Rattle.dim_base.specs.Files.{Named}
use Rattle.dim_asm.specs.Assembling.{program_of}
use Rattle.dim_history_file.specs.Judging.{history_of}
use Rattle.dim_history_file.specs.Seen.{value_of}
use Rattle.dim_inquiry.specs.declared.inputs.Inputs as code
use Rattle.dim_inquiry.specs.declared.stop.Place.TheVariants.{Program}
use Rattle.dim_inquiry.specs.declared.stop.Stop.{Stop}
use Rattle.dim_inquiry.specs.Inputs.{Inputs}
use Rattle.dim_inquiry.specs.Course.{Course, Stops, Runs, WhereTold, after_calls, fetches, file_at, ◌>>=◌}
use Rattle.dim_inquiry.specs.Inputs.{inputs_of}
use Rattle.dim_inquiry.specs.Taking.{fetches_history, takes, fetches_inputs, IsTaken}
use Rattle.dim_inquiry.proofs.CourseLemmas.{unchanged, Stops-first, Runs-behind}

module _ (files : Named) (program_name history_name : List ℕ) where
  abbrev the_program : Course (List ℕ)
  the_program = fetches files Program program_name 4194304

  abbrev behind_program : List ℕ → Course Inputs
  behind_program program = fetches_history files history_name >>= λ history. takes program history

  abbrev same : Inputs → Inputs
  same x = x

  pub at_program : (stop : Stop) (after : Option Named) → Stops (fetches files Program program_name 4194304) files stop after → Stops (fetches_inputs files program_name history_name) files stop after
  unfolding fetches_inputs
  at_program stop after h = Stops-first the_program behind_program files stop after h

  pub at_history : (program : List ℕ) (stop : Stop) (after : Option Named) → file_at (files program_name) Program 4194304 ≡ Ok program
      → Stops (fetches_history files history_name) files stop after → Stops (fetches_inputs files program_name history_name) files stop after
  unfolding fetches_inputs
  at_history program stop after fetched h =
      Runs-behind the_program behind_program same files program (Err stop) after fetched (
      Stops-first (fetches_history files history_name) (λ history. takes program history) files stop after h
      )

  pub at_texts : {Y : Type 0} (view : Y → Inputs) (program history : List ℕ) (r : Result Y Stop) (told : Option Named) → file_at (files program_name) Program 4194304 ≡ Ok program
      → (fetches_history files history_name).ending ≡ Ok history → told ≡ Some (after_calls (fetches_history files history_name).calls files) → told ≡ Some files
      → Runs view (takes program history) files r (Some files) → Runs view (fetches_inputs files program_name history_name) files r told
  unfolding fetches_inputs
  at_texts view program history r told fetched got made kept h =
      Runs-behind the_program behind_program view files program r told fetched (
      Runs-behind (fetches_history files history_name) (λ bytes. takes program bytes) view files history r told got
      (subst (λ q. Runs view (takes program history) q r told) (sym (unchanged files (after_calls (fetches_history files history_name).calls files) told kept made))
      (subst (λ t. Runs view (takes program history) files r t) (sym kept) h))
      )

-- what was taken, by what the calls say
pub taken_so : (told : Option Named) (program_name history_name program history : List ℕ) (r : Result code.Inputs Stop)
    → WhereTold told (λ before. file_at (before program_name) Program 4194304 ≡ Ok program) → WhereTold told (λ before. (fetches_history before history_name).ending ≡ Ok history)
    → IfOk r (λ (x : code.Inputs). program_of program ≡ Ok x.program) → IfOk r (λ (x : code.Inputs). history_of history ≡ Ok (value_of x.history))
    → IfOk r (λ (x : code.Inputs). WhereTold told (λ before. IsTaken before program_name history_name (inputs_of x)))
taken_so told program_name history_name program history (Ok x) fetched got assembled read =
    λ before is. record { program = program; history = history; fetched = fetched before is; fetched_history = got before is; assembled = assembled; read = read }
taken_so told program_name history_name program history (Err stop) fetched got assembled read = tt
