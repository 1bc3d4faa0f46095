-- What the values of words are, by the words that spell them; and that the entries of a run are in
-- the ranges of the format.
use Rattle.std.specs.Prelude.{◌≡◌, ◌↔◌, ◌≤◌, ℕ, List, ◌∷◌, ◌++◌, length, map, All, Ok}
use Rattle.std.specs.List.{AllByRecursion}
use Rattle.std.specs.Fmt.{decimal}
use Rattle.dim_stack.specs.declared.Frame.{Frame}
use Rattle.dim_stack.specs.Names.{IsTable}
use Rattle.dim_asm.specs.Bound.{IsBound}
use Rattle.dim_asm.specs.Code.{Code, IsProgram}
use Rattle.dim_rag.specs.declared.entry.Entry.{Entry}
use Rattle.dim_rag.specs.History.{past}
use Rattle.dim_signature.specs.Sig.{Sig, IsSig}
use Rattle.dim_gate.specs.Gate.{Constants}
use Rattle.dim_gate.specs.Legal.{Legal}
use Rattle.dim_vm.specs.Walks.{Walks}
use Rattle.dim_execution.specs.Start.{gate_of}
use Rattle.dim_trace.specs.declared.keyword.Keyword.{Keyword}
use Rattle.dim_trace.specs.Keywords.{spelling}
use Rattle.dim_trace.specs.Text.{stack_words, words_of_entry, trace_text}
use Rattle.dim_trace.specs.Judging.{births_of, stack_of, entry_in_words}
use Rattle.dim_trace.specs.Grammar.{IsBirth, IsStack, IsEntry, HasSet, AreSettings}
use Rattle.dim_trace.specs.Value.{TraceValue}

-- the first n words are the births, each in its range, and the others are left
abbrev pub BirthsLaw : Type 0
BirthsLaw = (n : ℕ) (words : List (List ℕ)) (births : List ℕ) (rest : List (List ℕ))
    → (births_of n words ≡ Ok (births, rest))
    ↔ ((length births ≡ n) × AllByRecursion IsBirth births × (words ≡ map decimal births ++ rest))

-- the words are the frames of the stack
abbrev pub StackLaw : Type 0
StackLaw = (names : List (List ℕ)) → IsTable names
    → (words : List (List ℕ)) (stack : List Frame)
    → (stack_of names words ≡ Ok stack) ↔ (IsStack names stack × (words ≡ stack_words names stack))

-- the keyword and the words behind it are the words of the entry
abbrev pub EntryLaw : Type 0
EntryLaw = (p : Code) (names : List (List ℕ)) → IsProgram p → IsTable names
    → (keyword : Keyword) (words : List (List ℕ)) (e : Entry)
    → (entry_in_words p names keyword words ≡ Ok e)
    ↔ (IsEntry p names e × (spelling keyword ∷ words ≡ words_of_entry p names e))

-- entries, oldest first, as a run makes them: no more than a trace has, each set of a Break one,
-- legal, and the moves of the machines
pub record AreMade (c : Constants) (p : Code) (fuel : ℕ) (entries : List Entry) : Type 0 where
  pub few : length entries ≤ 1048576
  pub sets : All HasSet entries
  pub legal : Legal c (past entries)
  pub walks : Walks p fuel (past entries)

-- where the program is bound to the names, and at most 4,080 signatures were loaded, each entry of
-- a run is in the ranges of the format
abbrev pub EntriesLaw : Type 0
EntriesLaw = (p : Code) (names : List (List ℕ)) (loaded : List Sig) (depth fuel : ℕ) (entries : List Entry)
    → IsProgram p → IsBound names p → All IsSig loaded → length loaded ≤ 4080
    → AreMade (gate_of p loaded depth) p fuel entries → AllByRecursion (IsEntry p names) entries

-- and the text of its trace, with fuel and depth in their ranges, is no longer than 536,870,912
-- bytes
abbrev pub LengthLaw : Type 0
LengthLaw = (p : Code) (names : List (List ℕ)) (loaded : List Sig) (t : TraceValue) → IsProgram p
    → IsTable names → IsBound names p → All IsSig loaded → length loaded ≤ 4080
    → AreSettings t → AreMade (gate_of p loaded t.depth) p t.fuel t.entries
    → length (trace_text p names t.fuel t.depth t.entries) ≤ 536870912
