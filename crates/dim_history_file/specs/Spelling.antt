-- The texts of a history, one of each version.
use Rattle.std.specs.Prelude.{ℕ, ◌==◌, if◌then◌else◌, List, [], ◌∷◌, ◌++◌, length, map, codes}
use Rattle.std.specs.List.{flat_map}
use Rattle.std.specs.Fmt.{decimal}
use Rattle.dim_text.specs.Cuts.{line_of, ended, frame_word}
use Rattle.dim_text.specs.States.{state_word}
use Rattle.dim_history_file.specs.declared.opening.Opening.{Opening}
use Rattle.dim_history_file.specs.declared.version.Version.{Version}
use Rattle.dim_history_file.specs.declared.version.Version.TheVariants.{One, Two}
use Rattle.dim_history_file.specs.Value.{NamedFrame, NamedSig}
use Rattle.dim_history_file.specs.Judging.{Stage, Head, Due, Within, Closed, State, head}

-- a line of a text
pub data Line : Type 0 where
  HeadLine : Version → Line
  SignatureLine : Version → Opening → Line
  StackLine : List NamedFrame → Line
  EndLine : ℕ → Line

abbrev pub spelled_frame : NamedFrame → List ℕ
spelled_frame f = frame_word f.name (decimal f.at)

-- what stands behind the first word of a signature's line: version 1 has no state and no yields
abbrev pub opening_words : Version → Opening → List (List ℕ)
opening_words One o = decimal o.depth ∷ decimal o.count ∷ []
opening_words Two o = decimal o.depth ∷ decimal o.count ∷ state_word o.on ∷ decimal o.yields ∷ []

abbrev pub spelled : Line → List ℕ
spelled (HeadLine version) = head version
spelled (SignatureLine version opening) = line_of (codes "signature" ∷ opening_words version opening)
spelled (StackLine stack) = line_of (map spelled_frame stack)
spelled (EndLine count) = line_of (codes "end" ∷ decimal count ∷ [])

-- the lines of a signature, of which the first tells how many stacks it has
abbrev pub open_lines : Version → Opening → List (List NamedFrame) → List Line
open_lines version opening stacks = SignatureLine version opening
    ∷ map (λ stack. StackLine stack) stacks

-- what the line of a signature says
abbrev pub opening_for : NamedSig → Opening
opening_for s = record { depth = s.depth; count = length s.stacks; on = s.on; yields = s.yields }

abbrev pub sig_lines : Version → NamedSig → List Line
sig_lines version s = open_lines version (opening_for s) s.stacks

-- the lines down to the last signature, and all
abbrev pub lines_before_end : Version → List NamedSig → List Line
lines_before_end version sigs = HeadLine version ∷ flat_map (sig_lines version) sigs

abbrev pub history_lines : Version → List NamedSig → List Line
history_lines version sigs = lines_before_end version sigs ++ EndLine (length sigs) ∷ []

-- the lines that have been read
abbrev pub lines_at : Version → Stage → List NamedSig → List Line
lines_at version Head sigs = []
lines_at version Due sigs = lines_before_end version sigs
lines_at version (Within begun) sigs = lines_before_end version sigs
    ++ open_lines version begun.opening begun.stacks
lines_at version Closed sigs = history_lines version sigs

abbrev pub lines_so_far : State → List Line
lines_so_far s = lines_at s.version s.stage s.sigs

-- the text of some lines
abbrev pub text_of : List Line → List ℕ
text_of lines = flat_map (λ line. ended (spelled line)) lines

-- the text of a history in a version, and the one that is written
abbrev pub text_in : Version → List NamedSig → List ℕ
text_in version sigs = text_of (history_lines version sigs)

abbrev pub history_text : List NamedSig → List ℕ
history_text sigs = text_in Two sigs

-- what stands before the frame at a place of a stack's line
abbrev pub gap : ℕ → List ℕ
gap i = if i == 0 then [] else 32 ∷ []
