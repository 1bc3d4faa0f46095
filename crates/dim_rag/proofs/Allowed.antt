-- A thread is allowed exactly where it has an allow edge.
use Rattle.std.proofs.Common.{◌≡◌, ℕ, eqb, refl, ap, sym, ◌∙◌, inl, inr, List, get_or}
use Rattle.std.specs.Prelude.{Some, None, if◌then◌else◌}
use Rattle.std.proofs.lemmas.Bool.{cases_Bool, eqb-true}
use Rattle.dim_base.specs.declared.Lid.{Lid}
use Rattle.dim_stack.specs.declared.Frame.{Frame}
use Rattle.dim_rag.specs.declared.entry.Edge.{Edge}
use Rattle.dim_rag.specs.declared.entry.Entry.{Entry}
use Rattle.dim_rag.specs.declared.graph.row.Row.{Row}
use Rattle.dim_rag.specs.declared.entry.Mode.{Mode}
use Rattle.dim_rag.specs.declared.entry.Mode.TheVariants.{Running, Allowed, Yielding, Ended}
use Rattle.dim_rag.specs.History.{mode}
use Rattle.dim_rag.specs.Rows.{IsRow, allowed_on, idle_row}
use Rattle.dim_rag.specs.EdgeLaws.{HasAllow, AllowedLaw}
use Rattle.dim_rag.proofs.Rows.{old_mode}
use Rattle.dim_rag.proofs.Words.{same}
use Rattle.dim_rag.proofs.Replayed.{rows_of}

-- the edge that a mode gives, by its mode
edge_by : (t : ℕ) (l : Lid) (birth : ℕ) (s : List Frame) → (x : Edge) × (allowed_on t l.0 (Allowed l birth) s ≡ Some x) × (x.birth ≡ birth)
edge_by t l birth s =
    let x : Edge = record { t = record { 0 = t }; l = l; stack = s; birth = birth } in
    (x, ap (λ b. if b then Some x else None) (same l.0), refl)

-- and the mode of the edge that it gives
mode_by_edge : (t : ℕ) (l : Lid) (m : Mode) (s : List Frame) (x : Edge) → allowed_on t l.0 m s ≡ Some x → m ≡ Allowed l x.birth
mode_by_edge t l Running s x q = absurd (let n : None ≡ Some x = q in cc)
mode_by_edge t l (Yielding k place) s x q = absurd (let n : None ≡ Some x = q in cc)
mode_by_edge t l (Ended place) s x q = absurd (let n : None ≡ Some x = q in cc)
mode_by_edge t l (Allowed k birth) s x q =
    let y : Edge = record { t = record { 0 = t }; l = k; stack = s; birth = birth } in
    elim (cases_Bool (eqb k.0 l.0)) [
      | inl b ↦
          let e : Some y ≡ Some x = sym (ap (λ c. if c then Some y else None) b) ∙ q in
          let at : birth ≡ x.birth = cc in
          ap (λ (i : Lid). Allowed i birth) (ap (λ n. record { 0 = n }) (eqb-true k.0 l.0 b)) ∙ ap (Allowed l) at
      | inr b ↦ absurd (let n : None ≡ Some x = sym (ap (λ c. if c then Some y else None) b) ∙ q in cc)
    ]

by_row : (t : ℕ) (l : Lid) (birth : ℕ) (r : Row) (h : List Entry) → IsRow t r h → (mode t h ≡ Allowed l birth → HasAllow t l birth h) × (HasAllow t l birth h → mode t h ≡ Allowed l birth)
by_row t l birth r h k = (
  λ q.
      let w = edge_by t l birth r.stack in
      (w.0, k.allow_is l.0 ∙ ap (λ m. allowed_on t l.0 m r.stack) (old_mode t r h k (Allowed l birth) q) ∙ w.1, w.2),
  λ w. k.mode_is ∙ mode_by_edge t l r.mode r.stack w.0 (sym (k.allow_is l.0) ∙ w.1) ∙ ap (Allowed l) w.2,
)

pub allowed_law : AllowedLaw
allowed_law n m h f i t lt l birth =
    let k = rows_of n m h f i in
    by_row t l birth (get_or k.rows t idle_row) h (k.are t idle_row (rw k.count lt))
