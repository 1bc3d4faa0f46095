-- The signatures that are known after a run, by places.
use Rattle.std.proofs.Common.{◌≡◌, ℕ, ◌+◌, ◌<◌, ◌≤◌, true, refl, ap, sym, ◌∙◌, subst, inl, inr, arith, List, [], ◌∷◌, ◌++◌, length, Option, Some, None}
use Rattle.std.specs.Prelude.{slice_get, option_map, is_some}
use Rattle.std.proofs.lemmas.Bool.{false≢true}
use Rattle.std.proofs.lemmas.List.{length-map}
use Rattle.std.proofs.lemmas.Option.{slice_get-map}
use Rattle.dim_stack.specs.declared.Frame.{Frame}
use Rattle.dim_rag.specs.declared.entry.Edge.{Edge}
use Rattle.dim_rag.specs.declared.entry.Entry.{Entry}
use Rattle.dim_rag.specs.declared.entry.Entry.TheVariants.{Go, Yield, Got, Free, Took, Miss, End, Break, Learn}
use Rattle.dim_rag.specs.History.{past}
use Rattle.dim_rag.specs.Steps.{IsCycle, births}
use Rattle.dim_rag.specs.Waits.{waits}
use Rattle.dim_signature.specs.Sig.{Sig, counted, fresh}
use Rattle.dim_signature.specs.Catalogue.{signature_number}
use Rattle.dim_signature.proofs.Exports.{found}
use Rattle.dim_gate.specs.Gate.{Constants}
use Rattle.dim_gate.specs.Known.{Known, knowns, known_sigs, learnt_sig, stacks_of as stacks_born}
use Rattle.dim_gate.specs.Learns.{learns}
use Rattle.dim_gate.specs.Legal.{Legal}
use Rattle.dim_gate.specs.Starved.{kept_free}
use Rattle.dim_gate.specs.ByPlace.{IsCycleOrStarvation}
use Rattle.dim_gate.specs.Settled.{is_known}
use Rattle.dim_gate.proofs.Exports.{cycle_law, known_law, learnt_edges_law, legal_made, signature_law}
use Rattle.dim_execution.specs.Executes.{Executes}
use Rattle.dim_run.specs.Grown.{yields_of, grown}
use Rattle.dim_run.specs.Learnt.{stacks_of, next_number, IsGrownAt, IsLearnt, AreLearnt, LearntLaw}
use Rattle.dim_run.specs.Rules.{Rules, gate_of}
use Rattle.dim_run.proofs.Completes.{complete_law}
use Rattle.dim_run.proofs.Grown.{law as grown_law}

-- the signature of what is known with a number
known_sig : (loaded : List Sig) (depth : ℕ) (h : List Entry) (i : ℕ) (k : Known) → slice_get (knowns loaded depth h) i ≡ Some k → slice_get (known_sigs loaded depth h) i ≡ Some k.sig
known_sig loaded depth h i k q = slice_get-map (λ (x : Known). x.sig) (knowns loaded depth h) i ∙ ap (λ o. option_map (λ (x : Known). x.sig) o) q

-- the signature of a cycle or of a starvation has the stacks of its edges
of_edges : (c : Constants) (h : List Entry) (edges : List Edge) → IsCycleOrStarvation c.threads c.locks h edges → learnt_sig c.depth (births edges) h ≡ fresh c.depth (stacks_of edges)
of_edges c h edges (inl k) = signature_law.cycle c.threads c.depth h edges k
of_edges c h edges (inr k) = signature_law.starvation c.threads c.locks c.depth h edges k

-- no more are learnt than may be known
few_learns : (c : Constants) → length c.loaded ≤ c.cap → (h : List Entry) → Legal c h → next_number c h ≤ c.cap
few_learns c low [] k = omega (arith, low)
few_learns c low (Learn births ∷ h) k =
    let room : length (known_sigs c.loaded c.depth h) + kept_free c.threads c.locks h births < c.cap = (legal_made c h (Learn births) k.0).3 in
    let known : length (known_sigs c.loaded c.depth h) ≡ length (knowns c.loaded c.depth h) = length-map (knowns c.loaded c.depth h) (λ (x : Known). x.sig) in
    let size : length (knowns c.loaded c.depth h) ≡ length c.loaded + length (learns h) = known_law.count c.loaded c.depth h in
    omega (arith, room, known, size)
few_learns c low (Go t l s ∷ h) k = few_learns c low h k.1
few_learns c low (Yield t l s sig b ∷ h) k = few_learns c low h k.1
few_learns c low (Got t l ∷ h) k = few_learns c low h k.1
few_learns c low (Free t l ∷ h) k = few_learns c low h k.1
few_learns c low (Took t l s ∷ h) k = few_learns c low h k.1
few_learns c low (Miss t l s why ∷ h) k = few_learns c low h k.1
few_learns c low (End t why ∷ h) k = few_learns c low h k.1
few_learns c low (Break set t ∷ h) k = few_learns c low h k.1

-- who is known has a number
numbered : (sigs : List Sig) (stacks : List (List Frame)) → is_some (signature_number sigs stacks) ≡ true → (i : ℕ) × (s : Sig) × (slice_get sigs i ≡ Some s) × (s.stacks ≡ stacks)
numbered sigs stacks q = go (signature_number sigs stacks) refl q
  where
    go : (o : Option ℕ) → signature_number sigs stacks ≡ o → is_some o ≡ true → (i : ℕ) × (s : Sig) × (slice_get sigs i ≡ Some s) × (s.stacks ≡ stacks)
    go None r q = absurd (false≢true q)
    go (Some i) r q = let w = found sigs stacks i r in (i, w.0, w.1, w.2)

module _ (r : Rules) (entries : List Entry) (k : Executes (gate_of r) r.program r.fuel entries) where
  abbrev c : Constants
  c = gate_of r

  abbrev h : List Entry
  h = past entries

  abbrev sigs : List Sig
  sigs = grown r.loaded r.depth entries

  grown_at : (i : ℕ) (s : Sig) → slice_get (known_sigs r.loaded r.depth h) i ≡ Some s → IsGrownAt entries sigs i s
  grown_at i s q = grown_law.each r.loaded r.depth entries i s q

  count : length sigs ≡ next_number c h
  count =
      grown_law.count r.loaded r.depth entries
      ∙ length-map (knowns r.loaded r.depth h) (λ (x : Known). x.sig)
      ∙ known_law.count r.loaded r.depth h

  few : length sigs ≤ c.cap
  few = let n = count in let l : next_number c h ≤ c.cap = few_learns c (omega arith) h k.legal in omega (arith, n, l)

  loaded : (i : ℕ) (s : Sig) → slice_get r.loaded i ≡ Some s → IsGrownAt entries sigs i s
  loaded i s q = grown_at i s (known_sig r.loaded r.depth h i (record { sig = s; since = 0 }) (known_law.loaded r.loaded r.depth h i s q))

  -- the number of the signature of a Learn, and the signature
  new_sig : (newer : List Entry) (places : List ℕ) (older : List Entry) → newer ++ (Learn places ∷ older) ≡ h → IsGrownAt entries sigs (next_number c older) (learnt_sig r.depth places older)
  new_sig newer places older is =
      let new : Known = record { sig = learnt_sig r.depth places older; since = length older } in
      grown_at (next_number c older) new.sig
      (known_sig r.loaded r.depth h (next_number c older) new
      (subst (λ (g : List Entry). slice_get (knowns r.loaded r.depth g) (next_number c older) ≡ Some new) is (known_law.learnt r.loaded r.depth newer places older)))

  learnt : (newer : List Entry) (places : List ℕ) (older : List Entry) → newer ++ (Learn places ∷ older) ≡ h → IsLearnt c entries sigs places older
  learnt newer places older is =
      let w = learnt_edges_law c newer places older (subst (Legal c) (sym is) k.legal) in
      record {
        edges = w.0;
        stands = w.1;
        births_are = w.2;
        sig =
            subst (IsGrownAt entries sigs (next_number c older))
            (ap (λ (b : List ℕ). learnt_sig r.depth b older) (sym w.2) ∙ of_edges c older w.0 w.1) (new_sig newer places older is);
      }

  -- the signature of a cycle that stands at the end is known
  known_at_end : (edges : List Edge) → IsCycle (waits c.threads h) edges → is_known c h (births edges) ≡ true → (i : ℕ) × (s : Sig) × (slice_get sigs i ≡ Some s) × (s.stacks ≡ stacks_of edges)
  known_at_end edges cycle q =
      let w = numbered (known_sigs r.loaded r.depth h) (stacks_born (births edges) h) q in
      let same : stacks_born (births edges) h ≡ stacks_of edges = ap (λ (s : Sig). s.stacks) (of_edges c h edges (inl cycle)) in
      (w.0, counted (yields_of w.0 entries) w.1, grown_at w.0 w.1 w.2, w.3 ∙ same)

  cycles : (newer older : List Entry) → newer ++ older ≡ h → (edges : List Edge) → IsCycle (waits c.threads older) edges
      → (i : ℕ) × (s : Sig) × (slice_get sigs i ≡ Some s) × (s.stacks ≡ stacks_of edges)
  cycles newer older is edges cycle =
      known_at_end edges
      (subst (λ (g : List Entry). IsCycle (waits c.threads g) edges) is (cycle_law.stays c newer older (subst (Legal c) (sym is) k.legal) edges cycle))
      ((complete_law r entries k).cycles newer older (sym is) edges cycle)

  pub are_learnt : AreLearnt c entries sigs
  are_learnt = record { count = count; few = few; loaded = loaded; learnt = learnt; cycles = cycles }

pub learnt_law : LearntLaw
learnt_law r entries k = are_learnt r entries k
