-- Each entry of a run is in the ranges of the format.
use Rattle.std.proofs.Common.{◌≡◌, ℕ, ◌-◌, ◌<◌, ◌≤◌, List, [], ◌∷◌, length, reverse, sym, subst, arith}
use Rattle.std.specs.Prelude.{All}
use Rattle.std.specs.List.{AllByRecursion}
use Rattle.std.proofs.lemmas.List.{get_or-reverse, length-reverse, reverse-reverse}
use Rattle.std.proofs.lemmas.List.Elements.{All-from_recursion, recursion_from_All}
use Rattle.dim_base.specs.declared.Tid.{Tid}
use Rattle.dim_stack.specs.declared.Frame.{Frame}
use Rattle.dim_asm.specs.Bound.{IsBound}
use Rattle.dim_asm.specs.Code.{Code, IsProgram, thread_count}
use Rattle.dim_signature.specs.Sig.{Sig, IsSig}
use Rattle.dim_rag.specs.declared.entry.Entry.{Entry}
use Rattle.dim_rag.specs.declared.entry.Entry.TheVariants.{Go, Yield, Got, Free, Took, Miss, End, Break, Learn}
use Rattle.dim_rag.specs.Born.{EdgesLaw}
use Rattle.dim_rag.specs.Certificate.{CertificateLaw}
use Rattle.dim_rag.specs.Steps.{WalkLaw}
use Rattle.dim_rag.specs.Waits.{WaitsLaw}
use Rattle.dim_cover.specs.Named.{NamedLaw as NamedCoverLaw}
use Rattle.dim_gate.specs.Gate.{Constants}
use Rattle.dim_gate.specs.Legal.{Legal}
use Rattle.dim_vm.specs.Stacks.{IsAtInstruction, AskedLaw, NamedLaw, stack_with}
use Rattle.dim_vm.specs.Walks.{Walks}
use Rattle.dim_execution.specs.Start.{gate_of}
use Rattle.dim_trace.specs.Grammar.{IsThread, IsFrame, IsStack, IsEntry, HasSet}
use Rattle.dim_trace.specs.Laws.{AreMade, EntriesLaw}
use Rattle.dim_trace.proofs.CallDepths.{HasDepth, fitting}
use Rattle.dim_trace.proofs.NamedBirths.{HasFew, yield_cover, miss_why, learn_births}

-- what holds of each holds of each in the other order
turned : {X : Type 0} (P : X → Type 0) (xs : List X) → All P xs → All P (reverse xs)
turned P xs a k d low =
    let n : length (reverse xs) ≡ length xs = length-reverse xs in
    subst P (sym (get_or-reverse xs k d (omega (arith, low, n)))) (a (length xs - 1 - k) d (omega (arith, low, n)))

sized : (loaded : List Sig) → AllByRecursion IsSig loaded → AllByRecursion HasFew loaded
sized [] a = tt
sized (s ∷ loaded) a = ((a.0.some, a.0.few), sized loaded a.1)

module _ (asked : AskedLaw) (named : NamedLaw) (covers : NamedCoverLaw) (edges : EdgesLaw) (certificate : CertificateLaw) (cycles : WalkLaw) (waits : WaitsLaw)
    (p : Code) (names : List (List ℕ)) (loaded : List Sig) (depth fuel : ℕ) (program : IsProgram p) (bound : IsBound names p) (sigs : AllByRecursion HasFew loaded) (few : length loaded ≤ 4080) where
  abbrev c : Constants
  c = gate_of p loaded depth

  is_thread : (t : Tid) → t.0 < thread_count p → IsThread t
  is_thread t low = omega (arith, low, program.few_threads)

  are_frames : (s : List Frame) → AllByRecursion (IsAtInstruction p) s → AllByRecursion (IsFrame names) s
  are_frames [] a = tt
  are_frames (f ∷ s) a = let n = named names p f program bound a.0 in (record { named = n.0; near = n.1 }, are_frames s a.1)

  is_stack : (s : List Frame) → HasDepth s → All (IsAtInstruction p) s → IsStack names s
  is_stack s deep at = record { some = deep.0; few = deep.1; frames = are_frames s (recursion_from_All (IsAtInstruction p) s at) }

  -- the stack with which the newest entry asked
  at_head : (e : Entry) (h : List Entry) → Walks p fuel (e ∷ h) → All (IsAtInstruction p) (stack_with e)
  at_head e h w = asked p fuel (e ∷ h) w 0 e (omega arith)

  is_entry : (e : Entry) (h : List Entry) → length h ≤ 1048575 → Legal c (e ∷ h) → Walks p fuel (e ∷ h) → HasSet e → IsEntry p names e
  is_entry (Go t l s) h short k w set = (is_thread t k.0.in_range.0, k.0.in_range.1, is_stack s (fitting p fuel h (Go t l s) w.0) (at_head (Go t l s) h w))
  is_entry (Yield t l s sig births) h short k w set = (
    is_thread t k.0.in_range.0,
    k.0.in_range.1,
    yield_cover edges certificate cycles waits c program.few_threads (omega arith) sigs covers (omega (arith, few)) t l s sig births h short k.1 k.0,
    is_stack s (fitting p fuel h (Yield t l s sig births) w.0) (at_head (Yield t l s sig births) h w),
  )
  is_entry (Got t l) h short k w set = (is_thread t k.0.in_range.0, k.0.in_range.1)
  is_entry (Free t l) h short k w set = (is_thread t k.0.in_range.0, k.0.in_range.1)
  is_entry (Took t l s) h short k w set = (is_thread t k.0.in_range.0, k.0.in_range.1, is_stack s (fitting p fuel h (Took t l s) w.0) (at_head (Took t l s) h w))
  is_entry (Miss t l s why) h short k w set = (
    is_thread t k.0.in_range.0,
    k.0.in_range.1,
    miss_why edges certificate cycles waits c program.few_threads (omega arith) sigs covers (omega (arith, few)) t l s h why short k.1 k.0,
    is_stack s (fitting p fuel h (Miss t l s why) w.0) (at_head (Miss t l s why) h w),
  )
  is_entry (End t why) h short k w set = (is_thread t k.0.in_range, fitting p fuel h (End t why) w.0)
  is_entry (Break set t) h short k w is = (is, is_thread t k.0.in_range)
  is_entry (Learn births) h short k w set = learn_births edges certificate cycles waits c program.few_threads (omega arith) sigs births h short k.1 k.0

  all_are : (h : List Entry) → length h ≤ 1048576 → Legal c h → Walks p fuel h → AllByRecursion HasSet h → AllByRecursion (IsEntry p names) h
  all_are [] short k w sets = tt
  all_are (e ∷ h) short k w sets = (is_entry e h (omega (arith, short)) k w sets.0, all_are h (omega (arith, short)) k.1 w.1 sets.1)

  each_is : (entries : List Entry) → AreMade c p fuel entries → AllByRecursion (IsEntry p names) entries
  each_is entries made =
      let n : length (reverse entries) ≡ length entries = length-reverse entries in
      let sets = recursion_from_All HasSet (reverse entries) (turned HasSet entries made.sets) in
      let each = all_are (reverse entries) (omega (arith, n, made.few)) made.legal made.walks sets in
      let back = turned (IsEntry p names) (reverse entries) (All-from_recursion (IsEntry p names) (reverse entries) each) in
      subst (AllByRecursion (IsEntry p names)) (reverse-reverse entries) (recursion_from_All (IsEntry p names) (reverse (reverse entries)) back)

pub entries_law : AskedLaw → NamedLaw → NamedCoverLaw → EdgesLaw → CertificateLaw → WalkLaw → WaitsLaw → EntriesLaw
entries_law asked named covers edges certificate cycles waits p names loaded depth fuel entries program bound sigs few made =
    each_is asked named covers edges certificate cycles waits p names loaded depth fuel program bound (sized loaded (recursion_from_All IsSig loaded sigs)) few entries made
