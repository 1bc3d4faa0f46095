use Rattle.std.proofs.Common.{◌≡◌, List, ℕ, Some, Ok, refl, subst}
use Rattle.std.proofs.lemmas.Result.{err_from_is_err_and}
use Rattle.dim_asm.specs.Code.{Code}
use Rattle.dim_signature.specs.Sig.{Sig}
use Rattle.dim_trace.specs.Value.{TraceValue}
use Rattle.dim_inquiry.specs.Course.{Stops, after_calls}
use Rattle.dim_inquiry.specs.Taking.{takes}
use Rattle.dim_inquiry.specs.Judging.{spells, takes_given, given_of}
use Rattle.dim_inquiry.specs.Inputs.{inputs_of}
use Rattle.dim_inquiry.specs.Inputs.{Inputs, names_of, program_of, loaded_of}
use Rattle.dim_inquiry.proofs.CheckLemmas.{at_making, at_inputs, at_spelling, at_given, given}
use Rattle.dim_inquiry.proofs.CourseLemmas.{unchanged}
use Rattle.dim_inquiry.proofs.judging.take_given.Goals as goal

-- what was bound is what the definitions say
same_given : (x : Inputs) (p : Code) (names : List (List ℕ)) (sigs : List Sig) (t : TraceValue) → p ≡ program_of x → names ≡ names_of x → sigs ≡ loaded_of x
    → record { program = p; names = names; loaded = sigs; trace = t } ≡ given x t
same_given x p names sigs t of_program of_names of_loaded = λ i. record { program = of_program i; names = of_names i; loaded = of_loaded i; trace = t }

pub returns-in_err-inputs-clause-runs : goal.returns-in_err-inputs-clause-runs
returns-in_err-inputs-clause-runs c =
    λ files.
    let p = err_from_is_err_and c.from_residual.result c.from_residual.ensures.1 in
    let stopped : Stops (takes c.args.texts.now.program c.args.texts.now.history) files p.0 (Some files) = rw p.2 (c.in_err-inputs.ensures.runs files) in
    rw p.1 (at_inputs c.args.texts.now files p.0 _ stopped)

pub returns-in_err-both-clause-runs : goal.returns-in_err-both-clause-runs
returns-in_err-both-clause-runs c =
    λ files.
    let p = err_from_is_err_and c.from_residual-in_err-both.result c.from_residual-in_err-both.ensures.1 in
    rw (p.1, p.2) (at_making (takes_given c.args.texts.now) files _ refl)

pub returns-in_err-trace-clause-runs : goal.returns-in_err-trace-clause-runs
returns-in_err-trace-clause-runs c =
    λ files.
    let p = err_from_is_err_and c.from_residual-in_err-trace.result c.from_residual-in_err-trace.ensures.1 in
    let t = c.args.texts.now in
    let x = inputs_of c.in_ok-inputs.inputs in
    let read = c.in_ok-inputs.ensures.runs files in
    let kept = unchanged files (after_calls (takes t.program t.history).calls files) (Some files) refl read.1 in
    let both = c.in_ok-both.both in
    let stopped : Stops (spells both.program both.history.names t.trace) files p.0 (Some files) = rw p.2 (c.in_err-trace.ensures.runs files) in
    let stopped' : Stops (spells (program_of x) (names_of x) t.trace) files p.0 (Some files) =
    subst (λ n. Stops (spells (program_of x) n t.trace) files p.0 (Some files)) c.in_ok-both.ensures.names
    (subst (λ q. Stops (spells q both.history.names t.trace) files p.0 (Some files)) c.in_ok-both.ensures.program stopped) in
    rw p.1 (at_spelling t x files p.0 _ read.0 kept stopped')

pub returns-clause-runs : goal.returns-clause-runs
returns-clause-runs c =
    λ files.
    let t = c.args.texts.now in
    let x = inputs_of c.in_ok-inputs.inputs in
    let read = c.in_ok-inputs.ensures.runs files in
    let kept = unchanged files (after_calls (takes t.program t.history).calls files) (Some files) refl read.1 in
    let both = c.in_ok-both.both in
    let v = c.in_ok-trace.trace in
    let spelled = (c.in_ok-trace.ensures.runs files).0 in
    let spelled' =
    subst (λ (n : List (List ℕ)). (spells (program_of x) n t.trace).ending ≡ Ok v) c.in_ok-both.ensures.names
    (subst (λ (q : Code). (spells q both.history.names t.trace).ending ≡ Ok v) c.in_ok-both.ensures.program spelled) in
    at_given given_of t x v (record { both = both; trace = c.in_ok-trace.trace }) files read.0 kept spelled' (same_given x both.program both.history.names both.history.catalogue.sigs v c.in_ok-both.ensures.program c.in_ok-both.ensures.names c.in_ok-both.ensures.loaded)
