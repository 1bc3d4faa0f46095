use Rattle.std.proofs.Common.{◌≡◌, ℕ, suc, length}
use Rattle.std.proofs.lemmas.Result.{IfOk-weaker}
use Rattle.dim_history_file.specs.Grammar.{AreNear}
use Rattle.dim_tune.specs.Attempts.{attempts_of, sigs_after, AreAttempts}
use Rattle.dim_tune.specs.Made.{AreKept}
use Rattle.dim_tune.specs.Runs.{IsKeptRun}
use Rattle.dim_tune.proofs.immunizing.immunize_kept.Goals as goal

pub returns-clause-attempts : goal.returns-clause-attempts
returns-clause-attempts c =
    let names = c.args.history.names in
    let read = c.args.history.catalogue.sigs in
    let p = c.args.program.now in
    let s = c.args.s.now in
    IfOk-weaker c.ended.result (AreKept names p s read c.args.attempts) (λ m. AreAttempts names p s read c.args.attempts (length m.lines.items)) (λ m k. k.attempts) (c.ended.ensures names p s read c.args.attempts c.in_ok-last.ensures)

pub returns-clause-lines : goal.returns-clause-lines
returns-clause-lines c =
    let names = c.args.history.names in
    let read = c.args.history.catalogue.sigs in
    let p = c.args.program.now in
    let s = c.args.s.now in
    IfOk-weaker c.ended.result (AreKept names p s read c.args.attempts) (λ m. m.lines.items ≡ attempts_of p s read (length m.lines.items)) (λ m k. k.lines_are) (c.ended.ensures names p s read c.args.attempts c.in_ok-last.ensures)

pub returns-clause-run : goal.returns-clause-run
returns-clause-run c =
    let names = c.args.history.names in
    let read = c.args.history.catalogue.sigs in
    let p = c.args.program.now in
    let s = c.args.s.now in
    IfOk-weaker c.ended.result (AreKept names p s read c.args.attempts) (λ m. (i : ℕ) → suc i ≡ length m.lines.items → IsKeptRun p (sigs_after p s read i) s m.run) (λ m k. k.run_is) (c.ended.ensures names p s read c.args.attempts c.in_ok-last.ensures)

pub returns-clause-names : goal.returns-clause-names
returns-clause-names c =
    let names = c.args.history.names in
    let read = c.args.history.catalogue.sigs in
    let p = c.args.program.now in
    let s = c.args.s.now in
    IfOk-weaker c.ended.result (AreKept names p s read c.args.attempts) (λ m. m.history.names ≡ names) (λ m k. k.names_are) (c.ended.ensures names p s read c.args.attempts c.in_ok-last.ensures)

pub returns-clause-signatures : goal.returns-clause-signatures
returns-clause-signatures c =
    let names = c.args.history.names in
    let read = c.args.history.catalogue.sigs in
    let p = c.args.program.now in
    let s = c.args.s.now in
    IfOk-weaker c.ended.result (AreKept names p s read c.args.attempts) (λ m. m.history.catalogue.sigs ≡ sigs_after p s read (length m.lines.items)) (λ m k. k.sigs_are) (c.ended.ensures names p s read c.args.attempts c.in_ok-last.ensures)

pub returns-clause-near : goal.returns-clause-near
returns-clause-near c =
    let names = c.args.history.names in
    let read = c.args.history.catalogue.sigs in
    let p = c.args.program.now in
    let s = c.args.s.now in
    IfOk-weaker c.ended.result (AreKept names p s read c.args.attempts) (λ m. AreNear m.history.catalogue.sigs) (λ m k. k.near) (c.ended.ensures names p s read c.args.attempts c.in_ok-last.ensures)
