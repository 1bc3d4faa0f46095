-- A machine that follows an entry goes on along its own entries.
use Rattle.std.proofs.Common.{◌≡◌, ℕ, List, [], ◌∷◌, false, refl, ap, sym, subst, ◌∙◌}
use Rattle.std.specs.Prelude.{IsTrue, replicate}
use Rattle.dim_base.specs.declared.Tid.{Tid}
use Rattle.dim_stack.specs.declared.Frame.{Frame}
use Rattle.dim_asm.specs.Code.{Code}
use Rattle.dim_rag.specs.declared.entry.Entry.{Entry}
use Rattle.dim_rag.specs.declared.entry.Entry.TheVariants.{Go, Yield, Got, Free, Took, Miss, End, Break, Learn}
use Rattle.dim_vm.specs.declared.state.State.{State}
use Rattle.dim_vm.specs.declared.state.State.TheVariants.{Running, Waits, Yields, Ended}
use Rattle.dim_vm.specs.Table.{Next}
use Rattle.dim_vm.specs.Configuration.{Configuration, moved, moved_by, next_of, rested, rested_in, start}
use Rattle.dim_vm.specs.Fitting.{FitsEntry, FitsOwn, MayEnd}
use Rattle.dim_vm.specs.Frames.{stack_of}
use Rattle.dim_vm.proofs.Exports.{fits_more, rested_again}
use Rattle.dim_transcribe.specs.Performs.{Stands, StandsWith, calls_after, held_after, most_units}

pub followed : (p : Code) (t : Tid) (c c' : Configuration) (e : Entry) (h : List Entry)
    → FitsEntry p (IsTrue false) (rested p c) e → c' ≡ moved p (rested p c) e
    → Stands p t c h → Stands p t c' (e ∷ h)
followed p t c c' e h fits after s =
    let own : FitsOwn p (rested p c) e = fits_more p (IsTrue false) (MayEnd (Unit {0}) (rested p c).state) (rested p c) e (λ (x : IsTrue false). cc) fits in
    record {
      walk = (subst (λ (x : Configuration). FitsOwn p x e) (sym s.leads) own, s.walk);
      leads = ap (λ (x : Configuration). rested p (moved p x e)) s.leads ∙ ap (rested p) (sym after);
    }

-- plain instructions change no hold
held_in : (p : Code) (c : Configuration) (s : State) → (rested_in p c s).holds ≡ c.holds
held_in p c Running = refl
held_in p c (Waits l) = refl
held_in p c (Yields l) = refl
held_in p c (Ended why) = refl

held_rested : (p : Code) (c : Configuration) → (rested p c).holds ≡ c.holds
held_rested p c = held_in p c c.state

held_moved : (c : Configuration) (e : Entry) (n : Next) → (moved_by c e n).holds ≡ held_after e c.holds
held_moved c (Go t l s) n = refl
held_moved c (Yield t l s sig births) n = refl
held_moved c (Got t l) n = refl
held_moved c (Free t l) n = refl
held_moved c (Took t l s) n = refl
held_moved c (Miss t l s why) n = refl
held_moved c (End t why) n = refl
held_moved c (Break set t) n = refl
held_moved c (Learn births) n = refl

-- what an entry leaves held
pub held_on : (p : Code) (c c' : Configuration) (e : Entry) → c' ≡ moved p (rested p c) e → c'.holds ≡ held_after e c.holds
held_on p c c' e after =
    ap (λ (x : Configuration). x.holds) after ∙ held_moved (rested p c) e (next_of p (rested p c)) ∙ ap (held_after e) (held_rested p c)

-- a machine that made the plain instructions which come next, and the calls that it has then
pub rests : (p : Code) (t : Tid) (c c' : Configuration) (holds : List ℕ) (h : List Entry) → c' ≡ rested p c → StandsWith p t c holds h → StandsWith p t c' holds h
rests p t c c' holds h there s = record {
  stands = record { walk = s.stands.walk; leads = s.stands.leads ∙ sym (ap (rested p) there ∙ rested_again p c) };
  held = s.held ∙ sym (ap (λ (x : Configuration). x.holds) there ∙ held_rested p c);
}

pub calls_there : (p : Code) (t : Tid) (c c' : Configuration) (h : List Entry) (calls : List Frame) → c' ≡ rested p c → calls ≡ stack_of p c'.context.frames → Stands p t c h → calls_after p t h ≡ calls
calls_there p t c c' h calls there are s = ap (λ (x : Configuration). stack_of p x.context.frames) (s.leads ∙ sym there) ∙ sym are

-- a machine at its start, which holds no lock
pub begins : (p : Code) (t : Tid) (c : Configuration) → c ≡ start p t most_units → StandsWith p t c (replicate 256 0) []
begins p t c e = record {
  stands = record { walk = tt; leads = ap (rested p) (sym e) };
  held = sym (ap (λ (x : Configuration). x.holds) e);
}
