use Rattle.std.proofs.Common.{◌≡◌, ◌≤◌, List, length, ap, sym, ◌∙◌, subst}
use Rattle.dim_rag.specs.History.{past}
use Rattle.dim_signature.specs.Sig.{Sig}
use Rattle.dim_signature.specs.Catalogue.{Contents, IsCatalogue}
use Rattle.dim_execution.specs.Start.{gate_of}
use Rattle.dim_run.specs.Crew.{rules_of}
use Rattle.dim_run.specs.Spelled.{AreSpelled}
use Rattle.dim_tune.specs.Runs.{IsKeptRun}
use Rattle.dim_tune.proofs.Grows.{learnt_count}
use Rattle.dim_tune.proofs.Ran.{spelled_of}
use Rattle.dim_tune.proofs.making.ran.Goals as goal

-- the signatures of the copy are those of the history
same : (c : goal.In_ok-run) → c.in_ok-loaded.loaded.sigs ≡ c.args.history.now.catalogue.sigs
same c = ap (λ (x : Contents). x.sigs) c.in_ok-loaded.ensures

-- the run is one from them
is_run : (c : goal.In_ok-run) → IsKeptRun c.args.program.now c.args.history.now.catalogue.sigs c.args.s.now c.in_ok-run.run'
is_run c =
    let e = c.in_ok-run.ensures in
    let p = c.args.program.now in
    let sigs = c.in_ok-loaded.loaded.sigs in
    let s = c.args.s.now in
    let entries = c.in_ok-run.run'.tables.entries in
    subst (λ (x : List Sig). IsKeptRun p x s c.in_ok-run.run') (same c) (record {
      loaded = subst IsCatalogue (sym (same c)) c.law-2.ensures.catalogue;
      few_loaded = subst (λ (x : List Sig). length x ≤ 4080) (sym (same c)) c.requires.few;
      entries_are = e.entries;
      run_is = e.run;
      immune = c.immune_law.ensures (gate_of p sigs s.depth) (past entries) e.run.executes.legal;
      complete = c.complete_law.ensures (rules_of p sigs s) entries e.run.executes;
    })

pub returns-clause-run : goal.returns-clause-run
returns-clause-run c = is_run c

pub returns-clause-learnt : goal.returns-clause-learnt
returns-clause-learnt c =
    ap (λ (x : List Sig). length x) (is_run c).run_is.known_are
    ∙ learnt_count c.grown_law.ensures c.known_law.ensures c.args.history.now.catalogue.sigs c.args.s.now.depth c.in_ok-run.run'.tables.entries

pub returns-clause-spelled : goal.returns-clause-spelled
returns-clause-spelled c =
    let names = c.args.history.now.names in
    let sigs = c.args.history.now.catalogue.sigs in
    let r = is_run c in
    let known = c.spelled_law.ensures (rules_of c.args.program.now sigs c.args.s.now) names c.in_ok-run.run'.tables.entries c.law.ensures c.requires.bound (spelled_of names sigs c.law-2.ensures.named c.requires.near) r.run_is.executes in
    subst (AreSpelled names) (sym r.run_is.known_are) known
