-- The monitor is told the notes as they are taken.
use Rattle.std.proofs.Common.{◌≡◌, ℕ, ◌+◌, refl, ap, sym, ◌∙◌, subst, arith, List, [], ◌∷◌, ◌++◌, length, take}
use Rattle.std.specs.Prelude.{Some, slice_get}
use mathlib.Core.List.{IsPrefix}
use Rattle.std.proofs.lemmas.List.{append_assoc}
use Rattle.dim_rag.specs.declared.entry.Entry.{Entry}
use Rattle.dim_rag.specs.Tables.{Replay}
use Rattle.dim_events.specs.Ring.{taken}
use Rattle.dim_gate.specs.Gate.{Gate}
use Rattle.dim_gate.specs.Notes.{IsInboxOf}
use Rattle.dim_run.specs.declared.notes.Notes.{Notes}
use Rattle.dim_run.proofs.Fed.{IsFed}
use Rattle.dim_run.proofs.Noted.{read_behind}

-- the monitor has been told just the notes that were taken, and none is kept
pub record IsPassing (g0 g : Gate) (n : Notes) (m0 m : Replay) : Type 0 where
  pub gate_is : g ≡ g0
  pub inbox : IsInboxOf g.feed n.inbox
  pub taken_are : taken n.inbox ≡ m.entries
  pub empty : n.kept.notes.items ≡ []
  pub fed : IsFed g0 m0 m (length m.entries)

-- the note that comes next is the entry behind those taken before
pub next_note : (es seen ahead : List Entry) (e : Entry) → IsPrefix (e ∷ []) ahead → IsPrefix (seen ++ ahead) es → slice_get es (length seen) ≡ Some e
next_note es seen ahead e q p =
    let all : seen ++ (e ∷ (q.0 ++ p.0)) ≡ es = ap (λ (x : List Entry). seen ++ (x ++ p.0)) q.1 ∙ sym (append_assoc seen ahead p.0) ∙ p.1 in
    let place : length seen + 0 ≡ length seen = omega arith in
    subst (λ (n : ℕ). slice_get es n ≡ Some e) place (subst (λ (x : List Entry). slice_get x (length seen + 0) ≡ Some e) all (read_behind seen (e ∷ (q.0 ++ p.0)) 0 e refl))

-- and it is then taken
pub one_taken : (ahead : List Entry) (e : Entry) → IsPrefix (e ∷ []) ahead → take 1 ahead ≡ e ∷ []
one_taken ahead e q = sym (ap (λ (x : List Entry). take 1 x) q.1)
