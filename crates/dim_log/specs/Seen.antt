-- What contracts see of a log: its numbers looked up in its tables.
use Rattle.std.specs.Prelude.{◌≡◌, ◌<◌, ℕ, All, List, [], length, map, slice_index_or}
use Rattle.std.specs.List.{flat_map}
use Rattle.std.specs.Str.{bytes_eq}
use Rattle.dim_log.specs.declared.log.Spot.{Spot}
use Rattle.dim_log.specs.declared.log.Event.{Event}
use Rattle.dim_log.specs.declared.log.Event.TheVariants as event
use Rattle.dim_log.specs.declared.log.Log.{Log}
use Rattle.dim_log.specs.Value.{SaidFrame, Said, SaidLock, SaidTry, SaidUnlock, SaidStart, SaidJoin, LogValue}
use Rattle.dim_log.specs.Tables.{each_once, same_stack, threads_in, locks_in, stacks_in, functions_in}

-- the tables of a log, with each stack in words
pub record Tables : Type 0 where
  pub threads : List (List ℕ)
  pub locks : List (List ℕ)
  pub functions : List (List ℕ)
  pub stacks : List (List SaidFrame)

abbrev pub word_at : List (List ℕ) → ℕ → List ℕ
word_at words n = slice_index_or words n []

-- a stack, by the names of a table
abbrev pub said_frame : List (List ℕ) → Spot → SaidFrame
said_frame functions spot = record { function = word_at functions spot.function; line = spot.line }

abbrev pub said_stack : List (List ℕ) → List Spot → List SaidFrame
said_stack functions stack = map (said_frame functions) stack

abbrev pub stack_at : Tables → ℕ → List SaidFrame
stack_at t n = slice_index_or t.stacks n []

-- an event, by these tables
abbrev pub said_event : Tables → Event → Said
said_event t (event.Lock thread lock stack) = SaidLock (word_at t.threads thread) (word_at t.locks lock) (stack_at t stack)
said_event t (event.Try thread lock stack took) = SaidTry (word_at t.threads thread) (word_at t.locks lock) took (stack_at t stack)
said_event t (event.Unlock thread lock stack) = SaidUnlock (word_at t.threads thread) (word_at t.locks lock) (stack_at t stack)
said_event t (event.Start thread other) = SaidStart (word_at t.threads thread) (word_at t.threads other)
said_event t (event.Join thread other) = SaidJoin (word_at t.threads thread) (word_at t.threads other)

-- the numbers of an event stand for things in the tables
abbrev pub IsWithin : Tables → Event → Type 0
IsWithin t (event.Lock thread lock stack) = (thread < length t.threads) × (lock < length t.locks) × (stack < length t.stacks)
IsWithin t (event.Try thread lock stack took) = (thread < length t.threads) × (lock < length t.locks) × (stack < length t.stacks)
IsWithin t (event.Unlock thread lock stack) = (thread < length t.threads) × (lock < length t.locks) × (stack < length t.stacks)
IsWithin t (event.Start thread other) = (thread < length t.threads) × (other < length t.threads)
IsWithin t (event.Join thread other) = (thread < length t.threads) × (other < length t.threads)

abbrev pub AreSpotsWithin : List (List ℕ) → List Spot → Type 0
AreSpotsWithin functions stack = All (λ spot. spot.function < length functions) stack

abbrev pub tables_of : Log → Tables
tables_of log = record { threads = log.threads.items; locks = log.locks.items; functions = log.functions.items; stacks = map (λ s. said_stack log.functions.items s.items) log.stacks.items }

-- what a log says
abbrev pub log_value : Log → LogValue
log_value log = record { events = map (said_event (tables_of log)) log.events.items; cut = log.cut }

-- each number of a log stands for a thing in its tables
pub record AreWithin (log : Log) : Type 0 where
  pub events : All (IsWithin (tables_of log)) log.events.items
  pub stacks : All (λ s. AreSpotsWithin log.functions.items s.items) log.stacks.items

-- the tables hold what these operations name, each once, in the order in which they name it first
pub record Holds (t : Tables) (events : List Said) : Type 0 where
  pub threads : t.threads ≡ each_once bytes_eq (flat_map threads_in events)
  pub locks : t.locks ≡ each_once bytes_eq (flat_map locks_in events)
  pub functions : t.functions ≡ each_once bytes_eq (flat_map functions_in events)
  pub stacks : t.stacks ≡ each_once same_stack (flat_map stacks_in events)
