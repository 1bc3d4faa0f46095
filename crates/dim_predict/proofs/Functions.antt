-- The functions of candidates stand in the table in which those of the entries do.
use Rattle.std.proofs.Common.{◌≡◌, ℕ, ◌-◌, ◌<◌, ◌≤◌, refl, sym, subst, inl, inr, arith, List, [], ◌∷◌, length, reverse}
use Rattle.std.specs.Prelude.{All}
use Rattle.std.specs.List.{AllByRecursion}
use Rattle.std.proofs.lemmas.List.{get_or-reverse, length-reverse}
use Rattle.std.proofs.lemmas.List.Elements.{All-from_recursion, recursion_from_All}
use Rattle.dim_asm.specs.Code.{Code}
use Rattle.dim_stack.specs.declared.Frame.{Frame}
use Rattle.dim_signature.specs.Sig.{Sig}
use Rattle.dim_rag.specs.declared.entry.Entry.{Entry}
use Rattle.dim_rag.specs.declared.entry.Entry.TheVariants.{Go, Yield, Got, Free, Took, Miss, End, Break, Learn}
use Rattle.dim_rag.specs.Born.{In}
use Rattle.dim_rag.specs.History.{past}
use Rattle.dim_vm.specs.Stacks.{stack_with}
use Rattle.dim_trace.specs.Grammar.{IsFrame, IsEntry}
use Rattle.dim_predict.specs.Candidates.{candidates_of}
use Rattle.dim_predict.specs.Naming.{FunctionsLaw}
use Rattle.dim_predict.proofs.Stacks.{AllAsk, candidate_has}

-- what holds of each holds of each in the other order
turned : {X : Type 0} (P : X → Type 0) (xs : List X) → All P xs → All P (reverse xs)
turned P xs a k d low =
    let n : length (reverse xs) ≡ length xs = length-reverse xs in
    subst P (sym (get_or-reverse xs k d (omega (arith, low, n)))) (a (length xs - 1 - k) d (omega (arith, low, n)))

-- of each that is among some
by_elements : {X : Type 0} (P : X → Type 0) (xs : List X) → ((x : X) → In x xs → P x) → AllByRecursion P xs
by_elements P [] f = tt
by_elements P (x ∷ xs) f = (f x (inl refl), by_elements P xs (λ y i. f y (inr i)))

more : {X : Type 0} (P Q : X → Type 0) (xs : List X) → ((x : X) → P x → Q x) → AllByRecursion P xs → AllByRecursion Q xs
more P Q [] f a = tt
more P Q (x ∷ xs) f a = (f x a.0, more P Q xs f a.1)

module _ (p : Code) (names : List (List ℕ)) where
  -- the frames of the stack of an entry
  abbrev AreFrames : List Frame → Type 0
  AreFrames s = AllByRecursion (IsFrame names) s

  frames : (e : Entry) → IsEntry p names e → AreFrames (stack_with e)
  frames (Go t l s) k = k.2.frames
  frames (Yield t l s sig births) k = k.3.frames
  frames (Took t l s) k = k.2.frames
  frames (Miss t l s why) k = k.3.frames
  frames (Got t l) k = tt
  frames (Free t l) k = tt
  frames (End t why) k = tt
  frames (Break set t) k = tt
  frames (Learn births) k = tt

  asked : (entries : List Entry) → AllByRecursion (IsEntry p names) entries → AllAsk AreFrames (past entries)
  asked entries a =
      more (IsEntry p names) (λ e. AreFrames (stack_with e)) (past entries) frames
      (recursion_from_All (IsEntry p names) (reverse entries) (turned (IsEntry p names) entries (All-from_recursion (IsEntry p names) entries a)))

  -- of all candidates
  each : (Q : Frame → Type 0) → ((f : Frame) → IsFrame names f → Q f) → (loaded : List Sig) (depth : ℕ) (entries : List Entry) → AllByRecursion (IsEntry p names) entries
      → All (λ s. All (λ stack. All Q stack) s.stacks) (candidates_of loaded depth entries)
  each Q f loaded depth entries a =
      All-from_recursion (λ s. All (λ stack. All Q stack) s.stacks) (candidates_of loaded depth entries)
      (by_elements (λ (s : Sig). All (λ stack. All Q stack) s.stacks) (candidates_of loaded depth entries) (λ s i.
      All-from_recursion (λ stack. All Q stack) s.stacks
      (more AreFrames (λ stack. All Q stack) s.stacks (λ stack k. All-from_recursion Q stack (more (IsFrame names) Q stack f k))
      (candidate_has AreFrames loaded depth entries s (asked entries a) i))))

pub functions_law : FunctionsLaw
functions_law p names t k loaded depth = (
  each p names (λ f. f.func < length names) (λ f n. n.named) loaded depth t.entries k.entries.each,
  each p names (λ f. f.at ≤ 65535) (λ f n. n.near) loaded depth t.entries k.entries.each,
)
