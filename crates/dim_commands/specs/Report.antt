-- What a run puts at its end.
use Rattle.std.specs.Prelude.{ℕ, List, ◌++◌, length, map, codes}
use Rattle.std.specs.Fmt.{decimal, signed_decimal}
use Rattle.dim_asm.specs.Code.{Code}
use Rattle.dim_rag.specs.declared.entry.Entry.{Entry}
use Rattle.dim_events.specs.declared.kind.Totals.{Totals}
use Rattle.dim_events.specs.Kinds.{totals_of}
use Rattle.dim_gate.specs.Kinds.{kind_of}
use Rattle.dim_run.specs.declared.finish.Finish.{Finish}
use Rattle.dim_run.specs.declared.finish.Finish.TheVariants as finish
use Rattle.dim_run.specs.declared.finish.Last.{Last}
use Rattle.dim_run.specs.declared.playing.Outcome.{Outcome}
use Rattle.dim_run.specs.declared.playing.Outcome.TheVariants as outcomes
use Rattle.dim_trace.specs.Text.{name_at}
use Rattle.dim_inquiry.specs.Report.{by_number}
use Rattle.dim_inquiry.specs.declared.report.Report.{Report}
use Rattle.dim_inquiry.specs.declared.report.Ending.{Ending}
use Rattle.dim_inquiry.specs.declared.report.Ending.TheVariants as endings

-- how a run that has this outcome ends its command
abbrev pub ending_of : Outcome → Ending
ending_of outcomes.Finished = endings.Done
ending_of outcomes.Deadlocked = endings.Deadlocked
ending_of outcomes.Stalled = endings.Stalled

abbrev pub outcome_word : Outcome → List ℕ
outcome_word outcomes.Finished = codes "finished"
outcome_word outcomes.Deadlocked = codes "deadlocked"
outcome_word outcomes.Stalled = codes "stalled"

-- the line of a kind: its word, and how many entries are of it
abbrev pub count_line : List ℕ → ℕ → List ℕ
count_line word n = word ++ (codes " " ++ (decimal n ++ codes "\n"))

abbrev pub grant_lines : Totals → List ℕ
grant_lines x = count_line (codes "go") x.goes
    ++ (count_line (codes "yield") x.yields ++ count_line (codes "got") x.gots)

abbrev pub hold_lines : Totals → List ℕ
hold_lines x = count_line (codes "free") x.frees
    ++ (count_line (codes "took") x.takes ++ count_line (codes "miss") x.misses)

abbrev pub other_lines : Totals → List ℕ
other_lines x = count_line (codes "end") x.ends
    ++ (count_line (codes "break") x.breaks ++ count_line (codes "learn") x.learns)

unfoldable pub count_lines : Totals → List ℕ
count_lines x = grant_lines x ++ (hold_lines x ++ other_lines x)

-- how a thread finished
abbrev pub finish_words : Code → Finish → List ℕ
finish_words p finish.Done = codes "done"
finish_words p (finish.Trapped trap) = codes "trap " ++ decimal trap
finish_words p finish.Spent = codes "spent"
finish_words p (finish.Waits l) = codes "waits " ++ name_at p.locks l.0

-- the line of a thread
abbrev pub thread_line : Code → ℕ → Last → List ℕ
thread_line p t end = codes "thread "
    ++ (decimal t ++ (codes " " ++ (finish_words p end.finish ++ (codes " said " ++ (decimal end.said ++ (codes " last " ++ (signed_decimal end.last ++ codes "\n")))))))

abbrev pub thread_lines : Code → List Last → List ℕ
thread_lines p ends = by_number (thread_line p) 0 ends

-- how a run ended, and how many entries it has
unfoldable pub head_lines : Outcome → ℕ → List ℕ
head_lines outcome entries = codes "outcome "
    ++ (outcome_word outcome ++ (codes "\nentries " ++ (decimal entries ++ codes "\n")))

unfoldable pub known_line : ℕ → List ℕ
known_line known = codes "signatures " ++ (decimal known ++ codes "\n")

-- the report of a run with this outcome, these entries, so many known signatures, and these ends of
-- its threads
abbrev pub ran_text : Code → Outcome → List Entry → ℕ → List Last → List ℕ
ran_text p outcome entries known ends = head_lines outcome (length entries)
    ++ (count_lines (totals_of (map kind_of entries)) ++ (known_line known ++ thread_lines p ends))

abbrev pub ran : Code → Outcome → List Entry → ℕ → List Last → Report
ran p outcome entries known ends = record { ending = ending_of outcome; text = ran_text p outcome entries known ends }
