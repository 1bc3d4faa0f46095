use Rattle.std.proofs.Common.{◌≡◌, [], Some, ◌∙◌, subst, inl}
use Rattle.std.proofs.lemmas.Result.{err_from_is_err_and}
use Rattle.dim_history_file.specs.Spelling.{history_text}
use Rattle.dim_words.specs.Commands.{run_words}
use Rattle.dim_inquiry.specs.declared.report.Report.{Report}
use Rattle.dim_inquiry.specs.Course.{Stops, Runs, WhereTold}
use Rattle.dim_inquiry.specs.Inputs.{inputs_of}
use Rattle.dim_commands.specs.Output.{left_of}
use Rattle.dim_commands.specs.Output.{grown_by, trace_by, report_by, left_by}
use Rattle.dim_commands.specs.Run.{stores_left}
use Rattle.dim_inquiry.specs.Taking.{fetches_inputs}
use Rattle.dim_commands.proofs.LiveLemmas.{inputs_early, lives_so}
use Rattle.dim_commands.proofs.RunLemmas.{at_inputs, at_building}
use Rattle.dim_commands.proofs.StoreLemmas.{left_is}
use Rattle.dim_inquiry.proofs.Exports.{later}
use Rattle.dim_commands.proofs.living.run_live.Goals as goal

pub returns-in_err-inputs-clause-lives : goal.returns-in_err-inputs-clause-lives
returns-in_err-inputs-clause-lives g c =
    let p = err_from_is_err_and c.from_residual.result c.from_residual.ensures.1 in
    let w = run_words c.args.command.now in
    let stopped : WhereTold (g.F.Files.told c.args.files.now) (λ files. Stops (fetches_inputs files w.program w.history) files p.0 (g.F.Files.told c.fetch_inputs.new.files)) =
    λ files told. rw p.2 (c.in_err-inputs.ensures.runs files told) in
    rw p.1 (record {
      entries = [];
      runs = λ files told. at_inputs (left_by [] w.settings) files w p.0 _ (stopped files told);
      made = λ files told. inl (inputs_early files w.program w.history p.0 _ (stopped files told), c.in_err-inputs.ensures.kept ∙ told);
      stored = tt;
      counted = tt;
    })

pub returns-in_err-output-clause-lives : goal.returns-in_err-output-clause-lives
returns-in_err-output-clause-lives g c =
    let p = err_from_is_err_and c.from_residual-in_err-output.result c.from_residual-in_err-output.ensures.1 in
    let w = run_words c.args.command.now in
    let kept : WhereTold (g.F.Files.told c.args.files.now) (λ files. g.F.Files.told c.fetch_inputs.new.files ≡ Some files) = λ files told. c.in_ok-inputs.ensures.kept ∙ told in
    rw (p.1, p.2) (record {
      entries = [];
      runs = λ files told.
          let got = c.in_ok-inputs.ensures.runs files told in
          at_building (left_by [] w.settings) files w (inputs_of c.in_ok-inputs.inputs) _ (record { got = got.0; made = got.1; kept = kept files told });
      made = λ files told. inl (tt, kept files told);
      stored = tt;
      counted = tt;
    })

pub returns-clause-lives : goal.returns-clause-lives
returns-clause-lives g c =
    let w = run_words c.args.command.now in
    let x = inputs_of c.in_ok-inputs.inputs in
    let l = c.in_ok-output.ensures.lived in
    let told = g.F.Files.told c.args.files.now in
    let middle = g.F.Files.told c.fetch_inputs.new.files in
    let kept : WhereTold told (λ files. middle ≡ Some files) = λ files is. c.in_ok-inputs.ensures.kept ∙ is in
    let left : left_of c.in_ok-output.output ≡ left_by l.entries w.settings x =
    left_is c.in_ok-output.output (history_text (grown_by x w.settings l.entries)) (trace_by x w.settings l.entries) (report_by x w.settings l.entries) l.new_history_is l.trace_is l.report_is in
    lives_so w x l.entries c.store_left.result told middle (g.F.Files.told c.store_left.new.files) (g.H.House.count c.args.house.now) (g.H.House.count c.build_live.new.house) c.requires.apart l.lawful l.counted c.in_ok-inputs.ensures.taken
    (λ files is. let got = c.in_ok-inputs.ensures.runs files is in record { got = got.0; made = got.1; kept = kept files is })
    (λ files is. subst (λ q. Runs (λ (r : Report). r) (stores_left w.new_history w.trace q) files c.store_left.result (g.F.Files.told c.store_left.new.files)) left (c.store_left.ensures.runs files (kept files is)))

pub returns-clause-cause : goal.returns-clause-cause
returns-clause-cause g c = later _ _ _ c.store_left.result c.in_ok-inputs.ensures.cause c.store_left.ensures.cause
