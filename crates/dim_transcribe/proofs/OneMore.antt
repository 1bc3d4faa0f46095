-- The operations so far, and one more.
use Rattle.std.proofs.Common.{◌≡◌, ℕ, ◌+◌, ◌<◌, ◌≤◌, List, [], ◌∷◌, length, take, reverse, get_or, refl, ap, sym, subst, ◌∙◌, inl, inr, eqb, arith}
use Rattle.std.specs.Prelude.{slice_get, Some, Vec}
use Rattle.std.specs.declared.alloc.Global.{Global}
use Rattle.std.proofs.lemmas.List.{take_all, take_more, reverse-append}
use Rattle.std.proofs.lemmas.Bool.{cases_Bool, eqb-true, eqb-false}
use Rattle.dim_base.specs.declared.Tid.{Tid}
use Rattle.dim_base.specs.declared.Lid.{Lid}
use Rattle.dim_stack.specs.declared.Frame.{Frame}
use Rattle.dim_asm.specs.Code.{Code}
use Rattle.dim_rag.specs.declared.entry.Entry.{Entry}
use Rattle.dim_rag.specs.declared.entry.Entry.TheVariants.{End}
use Rattle.dim_rag.specs.declared.entry.Why.TheVariants.{Done}
use Rattle.dim_vm.specs.Configuration.{Configuration}
use Rattle.dim_log.specs.declared.log.Log.{Log}
use Rattle.dim_log.specs.declared.log.Spot.{Spot}
use Rattle.dim_orders.specs.declared.kept.Operation.{Operation}
use Rattle.dim_transcribe.specs.declared.transcript.Key.{Key}
use Rattle.dim_transcribe.specs.declared.transcript.StandIn.{StandIn}
use Rattle.dim_transcribe.specs.Performs.{IsStack, Made, Means, PerformsChain, StandFor, Stands, StandsWith, calls_after, made}

-- a machine stands where its own entries are those of some operations, and this is what it holds
pub record HasMade (p : Code) (key : Key) (log : Log) (t : Tid) (os : List Operation) (c : Configuration) (holds : List ℕ) : Type 0 where
  pub own : List Entry
  pub made : Made p key log t (reverse os) own
  pub stands : StandsWith p t c holds own

pub made_more : (p : Code) (key : Key) (log : Log) (t : Tid) (os : List Operation) (i : ℕ) (d : Operation) (l : Lid) (s : List Frame) (c c' : Configuration) (holds holds' : List ℕ)
    → Means key log (get_or os i d) l s → i < length os
    → ((h : List Entry) → StandsWith p t c holds h → StandsWith p t c' holds' (made p t l s (get_or os i d).deed h))
    → ((h : List Entry) → Stands p t c h → calls_after p t h ≡ s)
    → HasMade p key log t (take i os) c holds → HasMade p key log t (take (i + 1) os) c' holds'
made_more p key log t os i d l s c c' holds holds' means lt on calls m =
    let more : reverse (take (i + 1) os) ≡ get_or os i d ∷ reverse (take i os) = ap reverse (take_more os i d lt) ∙ reverse-append (take i os) (get_or os i d ∷ []) in
    let after : List Entry = made p t l s (get_or os i d).deed m.own in
    record {
      own = after;
      made = subst (λ (xs : List Operation). Made p key log t xs after) (sym more) (l, s, m.own, means, m.made, calls m.own m.stands.stands, refl);
      stands = on m.own m.stands;
    }

-- all that are below k, and k
pub below_more : (P : ℕ → Type 0) (k : ℕ) → ((j : ℕ) → j < k → P j) → P k → (j : ℕ) → j < k + 1 → P j
below_more P k h x j lt = elim (cases_Bool (eqb j k)) [
  | inl e ↦ subst P (sym (eqb-true j k e)) x
  | inr e ↦ h j (let other : (j ≡ k) → ⊥ = eqb-false j k e in omega (arith, other, lt))
]

-- frames that stand for the innermost spots of a stack of the log
pub stack_found : (key : Key) (log : Log) (stack : ℕ) (s frames : List Frame) (v : Vec Spot Global) (places : List StandIn) (inner spots : List Spot)
    → places ≡ key.places.items → frames ≡ s → inner ≡ take 30 spots → spots ≡ v.items
    → Some v ≡ slice_get log.stacks.items stack → StandFor places frames inner → IsStack key log stack s
stack_found key log stack s frames v places inner spots ps fs is vs there h = record {
  spots = v;
  there = sym there;
  stand = subst (λ (x : List StandIn). StandFor x s (take 30 v.items)) ps
      (subst (λ (x : List Frame). StandFor places x (take 30 v.items)) fs
      (subst (λ (x : List Spot). StandFor places frames x) (is ∙ ap (take 30) vs) h));
}

-- all operations are made, and the thread ends
pub performed : (p : Code) (key : Key) (log : Log) (t : Tid) (os : List Operation) (i : ℕ) (c c' : Configuration) (holds : List ℕ) → length os ≤ i
    → ((h : List Entry) → Stands p t c h → Stands p t c' (End t Done ∷ h))
    → HasMade p key log t (take i os) c holds → PerformsChain p key log t os
performed p key log t os i c c' holds all ends m = record {
  own = m.own;
  made = subst (λ (xs : List Operation). Made p key log t (reverse xs) m.own) (take_all i os all) m.made;
  walk = (ends m.own m.stands.stands).walk;
}
