-- How far the reading of a program and a history came.
use Rattle.std.proofs.Common.{◌≡◌, ℕ, List, Option, Some, Result, Ok, Err, refl}
use Rattle.dim_base.specs.Files.{Named}
use Rattle.dim_asm.specs.Code.{Code}
use Rattle.dim_history_file.specs.Value.{NamedSig}
use Rattle.dim_inquiry.specs.declared.stop.Stop.{Stop}
use Rattle.dim_inquiry.specs.Inputs.{Inputs}
use Rattle.dim_inquiry.specs.Course.{Course, Stops, Runs, gives, ◌>>=◌}
use Rattle.dim_inquiry.specs.Taking.{assembles, reads, loads, takes}
use Rattle.dim_inquiry.proofs.CourseLemmas.{Stops-first, Runs-behind}

abbrev pub inputs : Code → List NamedSig → Inputs
inputs p sigs = record { program = p; sigs = sigs }

-- the parts behind the history, and behind the program
abbrev pub behind_history : Code → List ℕ → List NamedSig → Course Inputs
behind_history p history sigs = loads sigs history >>= λ u. gives (inputs p sigs)

abbrev pub behind_program : List ℕ → Code → Course Inputs
behind_program history p = reads history >>= behind_history p history

abbrev same : Inputs → Inputs
same x = x

pub at_program : (program history : List ℕ) (files : Named) (stop : Stop) (after : Option Named) → Stops (assembles program) files stop after → Stops (takes program history) files stop after
unfolding takes
at_program program history files stop after h = Stops-first (assembles program) (behind_program history) files stop after h

pub at_history : (program history : List ℕ) (p : Code) (files : Named) (stop : Stop) (after : Option Named) → (assembles program).ending ≡ Ok p
    → Stops (reads history) files stop after → Stops (takes program history) files stop after
unfolding takes
at_history program history p files stop after is h =
    Runs-behind (assembles program) (behind_program history) same files p (Err stop) after is (
    Stops-first (reads history) (behind_history p history) files stop after h
    )

behind : (program history : List ℕ) (p : Code) (sigs : List NamedSig) (files : Named) (r : Result Inputs Stop) (after : Option Named) → (assembles program).ending ≡ Ok p → (reads history).ending ≡ Ok sigs
    → Runs same (behind_history p history sigs) files r after → Runs same (takes program history) files r after
unfolding takes
behind program history p sigs files r after is read h =
    Runs-behind (assembles program) (behind_program history) same files p r after is (
    Runs-behind (reads history) (behind_history p history) same files sigs r after read h
    )

pub at_room : (program history : List ℕ) (p : Code) (sigs : List NamedSig) (files : Named) (stop : Stop) (after : Option Named) → (assembles program).ending ≡ Ok p → (reads history).ending ≡ Ok sigs
    → Stops (loads sigs history) files stop after → Stops (takes program history) files stop after
at_room program history p sigs files stop after is read h = behind program history p sigs files (Err stop) after is read (Stops-first (loads sigs history) (λ u. gives (inputs p sigs)) files stop after h)

pub at_inputs : (program history : List ℕ) (p : Code) (sigs : List NamedSig) (files : Named) → (assembles program).ending ≡ Ok p → (reads history).ending ≡ Ok sigs
    → Runs (λ (u : Unit {0}). u) (loads sigs history) files (Ok tt) (Some files) → Runs same (takes program history) files (Ok (inputs p sigs)) (Some files)
at_inputs program history p sigs files is read h =
    behind program history p sigs files (Ok (inputs p sigs)) (Some files) is read (
    Runs-behind (loads sigs history) (λ u. gives (inputs p sigs)) same files tt (Ok (inputs p sigs)) (Some files) h.0 (refl, h.1)
    )
