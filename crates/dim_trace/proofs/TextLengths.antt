-- How long the text of a run's trace is.
use Rattle.std.proofs.Common.{◌≡◌, ℕ, ◌+◌, ◌-◌, ◌≤◌, min, arith, List, [], ◌∷◌, length}
use Rattle.std.specs.Prelude.{sum_by}
use Rattle.std.proofs.lemmas.List.Sums.{sum_by-cons}
use Rattle.std.proofs.lemmas.List.Sorted.{sum_by-IsPermutation, IsPermutation-reverse}
use Rattle.dim_rag.specs.declared.entry.Entry.{Entry}
use Rattle.dim_rag.specs.declared.entry.Entry.TheVariants.{Go, Yield, Got, Free, Took, Miss, End, Break, Learn}
use Rattle.dim_rag.specs.History.{past}
use Rattle.dim_asm.specs.Code.{thread_count, lock_count}
use Rattle.dim_signature.specs.Sig.{Sig}
use Rattle.dim_gate.specs.Learns.{learns, LearnLaw}
use Rattle.dim_gate.proofs.Exports.{in_range}
use Rattle.dim_execution.specs.Start.{gate_of}
use Rattle.dim_trace.specs.Laws.{EntriesLaw, LengthLaw}
use Rattle.dim_trace.proofs.UnitCounts.{cost, few_stacks}
use Rattle.dim_trace.proofs.LineLengths.{is_learn, text_le}

-- as many Learns as are counted
learn_count : (h : List Entry) → sum_by is_learn h ≡ length (learns h)
learn_count [] = omega arith
learn_count (Learn births ∷ h) = let i : sum_by is_learn h ≡ length (learns h) = learn_count h in omega (arith, i, sum_by-cons is_learn (Learn births) h)
learn_count (Go t l s ∷ h) = learn_count h
learn_count (Yield t l s sig births ∷ h) = learn_count h
learn_count (Got t l ∷ h) = learn_count h
learn_count (Free t l ∷ h) = learn_count h
learn_count (Took t l s ∷ h) = learn_count h
learn_count (Miss t l s why ∷ h) = learn_count h
learn_count (End t why ∷ h) = learn_count h
learn_count (Break set t ∷ h) = learn_count h

-- a gate learns at most 48 more than were loaded
few_more : (loaded : List Sig) → length loaded + min 48 (4096 - length loaded) ≤ length loaded + 48
few_more loaded = omega arith

-- a sum doesn't go by the order
in_past : (f : Entry → ℕ) (entries : List Entry) → sum_by f (past entries) ≡ sum_by f entries
in_past f entries = sum_by-IsPermutation f entries (past entries) (IsPermutation-reverse entries)

pub length_law : EntriesLaw → LearnLaw → LengthLaw
length_law ranges learn p names loaded t program table bound sigs few settings made =
    let c = gate_of p loaded t.depth in
    let h = past t.entries in
    let stacks : sum_by cost h ≤ 262144 = few_stacks p t.fuel (thread_count p) (lock_count p) h settings.few_fuel program.few_threads made.walks (in_range c h made.legal) in
    let cycles : length (learns h) ≤ 48 = learn.few_learns c h made.legal program.few_threads (few_more loaded) in
    text_le p names program.lock_names table t.fuel t.depth t.entries settings.few_fuel settings.few_depth made.few
    (omega (arith, stacks, in_past cost t.entries))
    (omega (arith, cycles, learn_count h, in_past is_learn t.entries))
    (ranges p names loaded t.depth t.fuel t.entries program bound sigs few made)
