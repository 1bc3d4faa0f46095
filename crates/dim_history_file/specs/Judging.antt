-- What a text means: line by line, the first kind of fault that applies, or what has been read
-- behind the line.
use Rattle.std.specs.Prelude.{ℕ, Bool, true, false, not, ◌==◌, nat_lt, List, [], ◌∷◌, ◌++◌, length, Option, Some, None, Result, Ok, Err, if◌then◌else◌, codes}
use Rattle.std.specs.List.{list_all}
use Rattle.std.specs.Ordering.{is_lt}
use Rattle.std.specs.Str.{bytes_eq}
use Rattle.dim_text.specs.Cuts.{lines_of, words_of, sides_of}
use Rattle.dim_text.specs.Numerals.{number_of, number_from}
use Rattle.dim_text.specs.Naming.{name_of}
use Rattle.dim_text.specs.Reading.{◌>>=◌, or_else, read_from}
use Rattle.dim_text.specs.States.{state_in}
use Rattle.dim_text.specs.Words.{unless, filled, one_word, two_words, has_sides}
use Rattle.dim_history_file.specs.declared.fault.FileKind.{FileKind}
use Rattle.dim_history_file.specs.declared.fault.FileKind.TheVariants.{Line, Name, Number, Unsorted, Double, Count, Rest, Limit}
use Rattle.dim_history_file.specs.declared.fault.FileKind.TheVariants as kind
use Rattle.dim_history_file.specs.declared.fault.FileFault.{FileFault}
use Rattle.dim_history_file.specs.declared.opening.Opening.{Opening}
use Rattle.dim_history_file.specs.declared.version.Version.{Version}
use Rattle.dim_history_file.specs.declared.version.Version.TheVariants.{One, Two}
use Rattle.dim_history_file.specs.Faults.{fault}
use Rattle.dim_history_file.specs.Value.{NamedFrame, NamedSig, stack_order, have_stacks}

-- the first line of a version
abbrev pub head : Version → List ℕ
head One = codes "dim history 1"
head Two = codes "dim history 2"

-- the version that a first line tells
abbrev pub version_of : List ℕ → Option Version
version_of line =
    if bytes_eq line (head One) then Some One
    else (if bytes_eq line (head Two) then Some Two
    else None)

-- a signature whose stacks are being read: what its line says, and those that were read
pub record Begun : Type 0 where
  pub opening : Opening
  pub stacks : List (List NamedFrame)

-- what is due: the head, a signature or the end, a stack, or nothing more
pub data Stage : Type 0 where
  Head : Stage
  Due : Stage
  Within : Begun → Stage
  Closed : Stage

-- the version of the text, what is due, and the signatures that were read
pub record State : Type 0 where
  pub version : Version
  pub stage : Stage
  pub sigs : List NamedSig

-- the first line
unfoldable pub head_line : List NamedSig → List ℕ → Result State FileKind
head_line sigs line = do
  version ← or_else (version_of line) kind.Head
  Ok (record { version = version; stage = Due; sigs = sigs })

-- what a signature's line has behind its first word: two or three words that are numbers where all
-- is well, and a state
pub record Form : Type 0 where
  pub depth : List ℕ
  pub count : List ℕ
  pub on : Bool
  pub yields : List ℕ

-- a word and those behind it
abbrev pub next_word : List (List ℕ) → Result (List ℕ × List (List ℕ)) FileKind
next_word [] = Err Line
next_word (first ∷ words) = do
  word ← filled first Line
  Ok (word, words)

-- `DEPTH COUNT`, which stands for `DEPTH COUNT on 0`
unfoldable pub short_form : List (List ℕ) → Result Form FileKind
short_form words = do
  pair ← two_words words Line
  Ok (record { depth = pair.0; count = pair.1; on = true; yields = codes "0" })

-- `DEPTH COUNT STATE YIELDS`
unfoldable pub long_form : List (List ℕ) → Result Form FileKind
long_form words = do
  depth ← next_word words
  count ← next_word depth.1
  pair ← two_words count.1 Line
  on ← or_else (state_in pair.0) Line
  Ok (record { depth = depth.0; count = count.0; on = on; yields = pair.1 })

abbrev pub form_of : Version → List (List ℕ) → Result Form FileKind
form_of One words = short_form words
form_of Two words = long_form words

-- what the numbers of a form are, from left to right
unfoldable pub opening_of : Form → Result Opening FileKind
opening_of form = do
  depth ← or_else (number_from 1 32 form.depth) Number
  count ← or_else (number_from 2 32 form.count) Number
  yields ← or_else (number_of 4294967295 form.yields) Number
  Ok (record { depth = depth; count = count; on = form.on; yields = yields })

-- the line of a signature, of which these are the words behind the first
unfoldable pub signature_line : Version → List NamedSig → List (List ℕ) → Result State FileKind
signature_line version sigs words = do
  form ← form_of version words
  _ ← unless (length sigs == 4096) Limit
  opening ← opening_of form
  Ok (record { version = version; stage = Within (record { opening = opening; stacks = [] }); sigs = sigs })

-- `end N`
unfoldable pub end_line : Version → List NamedSig → List (List ℕ) → Result State FileKind
end_line version sigs words = do
  word ← one_word words Line
  n ← or_else (number_of 4096 word) Number
  _ ← unless (not (n == length sigs)) Count
  Ok (record { version = version; stage = Closed; sigs = sigs })

-- a line where a signature or the end is due
unfoldable pub due_line : Version → List NamedSig → List (List ℕ) → Result State FileKind
due_line version sigs [] = Err Line
due_line version sigs (first ∷ words) =
    if bytes_eq first (codes "signature") then signature_line version sigs words
    else (if bytes_eq first (codes "end") then end_line version sigs words
    else Err Line)

-- a frame
unfoldable pub frame_of : List ℕ → Result NamedFrame FileKind
frame_of word = do
  sides ← or_else (sides_of word) Line
  name ← or_else (name_of sides.0) Name
  at ← or_else (number_of 65535 sides.1) Number
  Ok (record { name = name; at = at })

abbrev pub frames_of : List (List ℕ) → Result (List NamedFrame) FileKind
frames_of [] = Ok []
frames_of (word ∷ words) = do
  frame ← frame_of word
  frames ← frames_of words
  Ok (frame ∷ frames)

-- a stack: that each word has a colon is judged first, then their number, and then the frames from
-- left to right
unfoldable pub stack_of : List (List ℕ) → Result (List NamedFrame) FileKind
stack_of words = do
  _ ← unless (not (list_all has_sides words)) Line
  _ ← unless (nat_lt 32 (length words)) Limit
  frames_of words

-- whether a stack is less than the last of these
abbrev pub is_less_than_last : List NamedFrame → List (List NamedFrame) → Bool
is_less_than_last stack [] = false
is_less_than_last stack (x ∷ []) = is_lt (stack_order stack x)
is_less_than_last stack (x ∷ y ∷ ys) = is_less_than_last stack (y ∷ ys)

-- behind the last stack of a signature, whose stacks no other may have
abbrev pub with_signature : Version → List NamedSig → NamedSig → Result State FileKind
with_signature version sigs s =
    if have_stacks sigs s.stacks then Err Double
    else Ok (record { version = version; stage = Due; sigs = sigs ++ s ∷ [] })

-- the signature that a line opens, with these stacks
abbrev pub signature_with : Opening → List (List NamedFrame) → NamedSig
signature_with opening stacks = record { depth = opening.depth; stacks = stacks; on = opening.on; yields = opening.yields }

-- behind a stack
abbrev pub with_stack : Version → List NamedSig → Begun → List (List NamedFrame)
    → Result State FileKind
with_stack version sigs begun stacks =
    if length stacks == begun.opening.count then with_signature version sigs (signature_with begun.opening stacks)
    else Ok (record { version = version; stage = Within (record begun { stacks = stacks }); sigs = sigs })

-- a line where a stack is due
unfoldable pub stack_line : Version → List NamedSig → Begun → List (List ℕ) → Result State FileKind
stack_line version sigs begun words = do
  stack ← stack_of words
  _ ← unless (is_less_than_last stack begun.stacks) Unsorted
  with_stack version sigs begun (begun.stacks ++ stack ∷ [])

-- the state behind a line
abbrev pub judged : Version → Stage → List NamedSig → List ℕ → Result State FileKind
judged version Head sigs line = head_line sigs line
judged version Due sigs line = due_line version sigs (words_of line)
judged version (Within begun) sigs line = stack_line version sigs begun (words_of line)
judged version Closed sigs line = Err Rest

unfoldable pub step : State → List ℕ → Result State FileKind
step s line = judged s.version s.stage s.sigs line

-- the kind of a last line that has no line feed
abbrev pub unended : Stage → FileKind
unended Head = kind.Head
unended Due = Line
unended (Within begun) = Line
unended Closed = Rest

abbrev pub closed : Stage → List NamedSig → Result (List NamedSig) FileKind
closed Closed sigs = Ok sigs
closed stage sigs = Err (unended stage)

-- at the end of the text, behind its last line feed
unfoldable pub at_end : State → List ℕ → Result (List NamedSig) FileKind
at_end s [] = closed s.stage s.sigs
at_end s (b ∷ last) = Err (unended s.stage)

-- before the first line, which tells the version
abbrev pub start : State
start = record { version = Two; stage = Head; sigs = [] }

-- the signatures that a text spells, or the first fault of the text
abbrev pub history_of : List ℕ → Result (List NamedSig) FileFault
history_of bytes = read_from fault step at_end start 1 (lines_of bytes)
