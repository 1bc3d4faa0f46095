-- `show`.
use Rattle.std.specs.Prelude.{ℕ, Bool, List, ◌++◌, length, codes}
use Rattle.std.specs.Fmt.{decimal}
use Rattle.std.specs.List.{flat_map}
use Rattle.dim_text.specs.Cuts.{ended}
use Rattle.dim_text.specs.States.{state_word}
use Rattle.dim_history_file.specs.Spelling.{StackLine, spelled}
use Rattle.dim_history_file.specs.Value.{NamedSig}
use Rattle.dim_inquiry.specs.declared.report.Report.{Report}
use Rattle.dim_inquiry.specs.declared.report.Ending.TheVariants as endings
use Rattle.dim_base.specs.Files.{Named}
use Rattle.dim_inquiry.specs.Course.{Course, ◌>>=◌, gives}
use Rattle.dim_inquiry.specs.Report.{by_number}
use Rattle.dim_inquiry.specs.Taking.{fetches_history, reads}

-- the first line of a signature: its number, its depth, its state and its yields
unfoldable pub shown_line : ℕ → ℕ → Bool → ℕ → List ℕ
shown_line i depth on yields =
    codes "signature "
    ++ (decimal i ++ (codes " depth " ++ (decimal depth ++ (codes " " ++ (state_word on ++ (codes " yields " ++ (decimal yields ++ codes "\n")))))))

-- the lines of the signature of this number, behind the first those of its stacks
abbrev pub shown_sig : ℕ → NamedSig → List ℕ
shown_sig i s = shown_line i s.depth s.on s.yields
    ++ flat_map (λ stack. ended (spelled (StackLine stack))) s.stacks

-- the report of `show`
abbrev pub shown_text : List NamedSig → List ℕ
shown_text sigs = by_number shown_sig 0 sigs
    ++ (codes "signatures " ++ (decimal (length sigs) ++ codes "\n"))

abbrev pub shown : List NamedSig → Report
shown sigs = record { ending = endings.Done; text = shown_text sigs }

-- `show`, over these files
unfoldable pub show_course : Named → List ℕ → Course Report
show_course files name = do
  history ← fetches_history files name
  sigs ← reads history
  gives (shown sigs)
