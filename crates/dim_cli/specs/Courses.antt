-- What words ask for.
use Rattle.std.specs.Prelude.{ℕ, List, Err}
use Rattle.dim_base.specs.Files.{Named}
use Rattle.dim_inquiry.specs.declared.report.Report.{Report}
use Rattle.dim_inquiry.specs.declared.stop.Refusal.TheVariants as refusals
use Rattle.dim_words.specs.Words.{Asked, Run, Live, Check, Why, Depths, Predict, Show, Generate, Switch, Immunize}
use Rattle.dim_cli.specs.Quiet.{quiet_command}
use Rattle.dim_inquiry.specs.Course.{Course, ◌>>=◌, ends, wants}
use Rattle.dim_commands.specs.Run.{run_course}
use Rattle.dim_commands.specs.Immunize.{immunize_course}
use Rattle.dim_inquiry.specs.Check.{check_course}
use Rattle.dim_inquiry.specs.Why.{why_course}
use Rattle.dim_commands.specs.Depths.{depths_course}
use Rattle.dim_inquiry.specs.Predict.{predict_course}
use Rattle.dim_inquiry.specs.Show.{show_course}
use Rattle.dim_commands.specs.Generate.{generate_course}
use Rattle.dim_inquiry.specs.Switch.{switch_course}

-- what is asked for by a call that waits for nothing
abbrev pub course_of : Named → Asked → Course Report
course_of files (Run w) = run_course files w
course_of files (Live w) = ends (Err refusals.Words)
course_of files (Immunize w) = immunize_course files w
course_of files (Check w) = check_course files w
course_of files (Why w) = why_course files w
course_of files (Depths w) = depths_course files w
course_of files (Predict w) = predict_course files w
course_of files (Show name) = show_course files name
course_of files (Generate n name) = generate_course n name
course_of files (Switch w) = switch_course files w

-- what the words ask for, over these files
abbrev pub course : List (List ℕ) → Named → Course Report
course words files = wants (quiet_command words) refusals.Words >>= course_of files
