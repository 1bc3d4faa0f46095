-- What a reader has read.
use Rattle.std.specs.Prelude.{◌≡◌, ◌≤◌, ◌<◌, ◌+◌, ◌^◌, ℕ, Bool, All, List, [], ◌∷◌, length, map, slice_index_or, Ok}
use Rattle.std.specs.Str.{bytes_eq}
use Rattle.dim_text.specs.Cuts.{words_of}
use Rattle.dim_log.specs.declared.line.Line.{Line}
use Rattle.dim_log.specs.declared.line.Site.{Site}
use Rattle.dim_log.specs.declared.log.Event.{Event}
use Rattle.dim_log.specs.declared.stacks.Stacks.{Stacks}
use Rattle.dim_log.specs.declared.reader.Reader.{Reader}
use Rattle.dim_log.specs.Value.{SaidFrame, Said, LogValue}
use Rattle.dim_log.specs.Tables.{with_new, with_all, same_stack, functions_of, threads_in, locks_in, stacks_in, functions_in}
use Rattle.dim_log.specs.Saying.{frames_of}
use Rattle.dim_log.specs.Line.{said_line}
use Rattle.dim_log.specs.Seen.{Tables, word_at, said_stack, said_event, AreSpotsWithin, IsWithin, Holds}

-- the stacks in words
abbrev pub seen : Stacks → List (List SaidFrame)
seen k = map (λ s. said_stack k.functions s.items) k.stacks.items

-- the stack with a number
abbrev pub stack_in : Stacks → ℕ → List SaidFrame
stack_in k n = slice_index_or (seen k) n []

-- each function stands in the table, and each text spells its stack
pub record AreSound (k : Stacks) : Type 0 where
  pub within : All (λ s. AreSpotsWithin k.functions s.items) k.stacks.items
  pub texts : map (λ t. frames_of (words_of t)) k.texts ≡ map (λ s. Ok s) (seen k)

abbrev pub tables : Reader → Tables
tables r = record { threads = r.threads; locks = r.locks; functions = r.stacks.functions; stacks = seen r.stacks }

-- what was said
abbrev pub said : Reader → List Said
said r = map (said_event (tables r)) r.events.items

pub record IsReading (r : Reader) : Type 0 where
  pub sound : AreSound r.stacks
  pub within : All (IsWithin (tables r)) r.events.items
  pub holds : Holds (tables r) (said r)

-- n things more may be named
pub record HasRoom (r : Reader) (n : ℕ) : Type 0 where
  pub threads : length r.threads + n ≤ 2 ^ 31
  pub locks : length r.locks + n ≤ 2 ^ 31
  pub functions : length r.stacks.functions + n ≤ 2 ^ 31
  pub texts : length r.stacks.texts + n ≤ 2 ^ 31

-- how many things lines name at most
abbrev pub weight : List ℕ → ℕ
weight line = length line + 3

abbrev pub weight_of : List (List ℕ) → ℕ
weight_of [] = 0
weight_of (line ∷ lines) = weight line + weight_of lines

-- tables take what an operation names
pub record Notes (old new : Tables) (s : Said) : Type 0 where
  pub threads : new.threads ≡ with_all bytes_eq old.threads (threads_in s)
  pub locks : new.locks ≡ with_all bytes_eq old.locks (locks_in s)
  pub functions : new.functions ≡ with_all bytes_eq old.functions (functions_in s)
  pub stacks : new.stacks ≡ with_all same_stack old.stacks (stacks_in s)

-- the stack that a text spells has this number from now on
pub record Numbered (old new : Stacks) (text : List ℕ) (n : ℕ) : Type 0 where
  pub value : frames_of (words_of text) ≡ Ok (stack_in new n)
  pub within : n < length (seen new)
  pub stacks : seen new ≡ with_new same_stack (seen old) (stack_in new n)
  pub functions : new.functions ≡ with_all bytes_eq old.functions (functions_of (stack_in new n))
  pub sound : AreSound new

-- a thread is taken
pub record Adds (old new : Reader) (name : List ℕ) (n : ℕ) : Type 0 where
  pub threads : new.threads ≡ with_new bytes_eq old.threads name
  pub word : word_at new.threads n ≡ name
  pub within : n < length new.threads
  pub locks : new.locks ≡ old.locks
  pub stacks : new.stacks ≡ old.stacks
  pub events : new.events ≡ old.events

-- a lock and a stack are taken
pub record TakesSite (old new : Reader) (s : Site) (lock stack : ℕ) : Type 0 where
  pub stack_is : Numbered old.stacks new.stacks s.frames.now stack
  pub texts : length new.stacks.texts ≤ length old.stacks.texts + 1
  pub lock_is : word_at new.locks lock ≡ s.lock.now
  pub lock_within : lock < length new.locks
  pub locks : new.locks ≡ with_new bytes_eq old.locks s.lock.now
  pub threads : new.threads ≡ old.threads
  pub events : new.events ≡ old.events

-- a line is taken as an event
pub record Takes (old new : Reader) (l : Line) (e : Event) : Type 0 where
  pub value : said_line l ≡ Ok (said_event (tables new) e)
  pub notes : Notes (tables old) (tables new) (said_event (tables new) e)
  pub within : IsWithin (tables new) e
  pub texts : length new.stacks.texts ≤ length old.stacks.texts + 1
  pub sound : AreSound new.stacks
  pub events : new.events ≡ old.events

-- what was read to the end, with whether the text was cut off
abbrev pub read_value : Reader → Bool → LogValue
read_value r cut = record { events = said r; cut = cut }
