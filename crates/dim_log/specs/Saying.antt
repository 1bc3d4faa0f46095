-- What a text says, line by line.
use Rattle.std.specs.Prelude.{ℕ, ◌==◌, Bool, true, false, not, if◌then◌else◌, List, [], ◌∷◌, ◌++◌, length, Option, Some, None, Result, Ok, Err, codes}
use Rattle.std.specs.Str.{bytes_eq}
use Rattle.dim_text.specs.Cuts.{lines_of, words_of}
use Rattle.dim_text.specs.Numerals.{number_of}
use Rattle.dim_text.specs.Reading.{◌>>=◌, or_else, read_from}
use Rattle.dim_text.specs.Words.{filled}
use Rattle.dim_log.specs.declared.log.LogFaultKind.{LogFaultKind}
use Rattle.dim_log.specs.declared.log.LogFaultKind.TheVariants as kind
use Rattle.dim_log.specs.declared.log.LogFault.{LogFault}
use Rattle.dim_log.specs.declared.operation.Operation.{Operation}
use Rattle.dim_log.specs.declared.operation.Operation.TheVariants.{Lock, Try, Unlock, Start, Join}
use Rattle.dim_log.specs.Faults.{fault}
use Rattle.dim_log.specs.Value.{SaidFrame, Said, SaidLock, SaidTry, SaidUnlock, SaidStart, SaidJoin, LogValue}

-- the next word, which isn't empty, and the words behind it
unfoldable pub next_word : List (List ℕ) → Result (List ℕ × List (List ℕ)) LogFaultKind
next_word [] = Err kind.Short
next_word (word ∷ words) = do
  w ← filled word kind.Short
  Ok (w, words)

-- a word with none behind it
abbrev pub last_of : List ℕ → List (List ℕ) → Result (List ℕ) LogFaultKind
last_of word [] = Ok word
last_of word (more ∷ words) = Err kind.Long

-- the last word
unfoldable pub last_word : List (List ℕ) → Result (List ℕ) LogFaultKind
last_word words = next_word words >>= λ next. last_of next.0 next.1

-- the operation that a word names
unfoldable pub operation_of : List ℕ → Result Operation LogFaultKind
operation_of word =
    if bytes_eq word (codes "lock") then Ok Lock
    else (if bytes_eq word (codes "trylock") then Ok Try
    else (if bytes_eq word (codes "unlock") then Ok Unlock
    else (if bytes_eq word (codes "start") then Ok Start
    else (if bytes_eq word (codes "join") then Ok Join
    else Err kind.Operation))))

-- the result of a trylock
unfoldable pub took_of : List ℕ → Result Bool LogFaultKind
took_of word =
    if bytes_eq word (codes "1") then Ok true
    else (if bytes_eq word (codes "0") then Ok false
    else Err kind.Took)

-- the part of a word before its last colon, and the one behind it
abbrev pub with_first : ℕ → Option (List ℕ × List ℕ) → List ℕ → Option (List ℕ × List ℕ)
with_first c (Some sides) rest = Some (c ∷ sides.0, sides.1)
with_first c None rest = if c == 58 then Some ([], rest) else None

abbrev pub last_sides : List ℕ → Option (List ℕ × List ℕ)
last_sides [] = None
last_sides (c ∷ cs) = with_first c (last_sides cs) cs

abbrev pub a_frame : List ℕ → ℕ → SaidFrame
a_frame function line = record { function = function; line = line }

-- the frame that a word spells
unfoldable pub frame_of : List ℕ → Result SaidFrame LogFaultKind
frame_of word = do
  spelled ← filled word kind.Short
  sides ← or_else (last_sides spelled) kind.Frame
  function ← filled sides.0 kind.Frame
  line ← or_else (number_of 4294967295 sides.1) kind.Frame
  Ok (a_frame function line)

abbrev pub frames_of : List (List ℕ) → Result (List SaidFrame) LogFaultKind
frames_of [] = Ok []
frames_of (word ∷ words) = do
  frame ← frame_of word
  frames ← frames_of words
  Ok (frame ∷ frames)

-- the words of a stack, of which there is one at least
abbrev pub some_words : List (List ℕ) → Result (List (List ℕ)) LogFaultKind
some_words [] = Err kind.Short
some_words (word ∷ words) = Ok (word ∷ words)

-- the stack that words spell
unfoldable pub stack_of : List (List ℕ) → Result (List SaidFrame) LogFaultKind
stack_of words = some_words words >>= frames_of

-- a lock and a stack
unfoldable pub site_of : List (List ℕ) → Result (List ℕ × List SaidFrame) LogFaultKind
site_of words = do
  lock ← next_word words
  stack ← stack_of lock.1
  Ok (lock.0, stack)

-- what a line says whose first words name this thread and this operation
unfoldable pub said_by : List ℕ → Operation → List (List ℕ) → Result Said LogFaultKind
said_by thread Lock words = do
  site ← site_of words
  Ok (SaidLock thread site.0 site.1)
said_by thread Try words = do
  lock ← next_word words
  result ← next_word lock.1
  took ← took_of result.0
  stack ← stack_of result.1
  Ok (SaidTry thread lock.0 took stack)
said_by thread Unlock words = do
  site ← site_of words
  Ok (SaidUnlock thread site.0 site.1)
said_by thread Start words = do
  other ← last_word words
  Ok (SaidStart thread other)
said_by thread Join words = do
  other ← last_word words
  Ok (SaidJoin thread other)

-- what a line says: its words are taken from the left, and the first that is missing or wrong is
-- its fault
unfoldable pub said_in : List ℕ → Result Said LogFaultKind
said_in line = do
  thread ← next_word (words_of line)
  word ← next_word thread.1
  operation ← operation_of word.0
  said_by thread.0 operation word.1

-- a line adds what it says
unfoldable pub step : List Said → List ℕ → Result (List Said) LogFaultKind
step events line = do
  said ← said_in line
  Ok (events ++ said ∷ [])

-- what stands behind the last line feed is no line
unfoldable pub at_end : List Said → List ℕ → Result LogValue LogFaultKind
at_end events last = Ok (record { events = events; cut = not (length last == 0) })

-- what a text says, or its first fault
abbrev pub log_of : List ℕ → Result LogValue LogFault
log_of bytes = read_from fault step at_end [] 1 (lines_of bytes)
