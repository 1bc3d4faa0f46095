-- A thread that yields lacks the lock that it wants, in each list.
use Rattle.std.proofs.Common.{◌≡◌, ℕ, true, refl, eqb, ap, sym, ◌∙◌, inl, inr, List, [], ◌∷◌, length}
use Rattle.std.specs.Prelude.{Option, Some, None}
use Rattle.std.proofs.lemmas.Bool.{cases_Bool, eqb-true, eq-eqb, and_parts, and_from, false≢true}
use Rattle.dim_base.specs.declared.Lid.{Lid}
use Rattle.dim_stack.specs.declared.Frame.{Frame}
use Rattle.dim_rag.specs.declared.entry.Edge.{Edge}
use Rattle.dim_rag.specs.declared.entry.Entry.{Entry}
use Rattle.dim_rag.specs.declared.entry.Entry.TheVariants.{Go, Yield, Got, Free, Took, Miss, End, Break, Learn}
use Rattle.dim_rag.specs.declared.entry.Mode.{Mode}
use Rattle.dim_rag.specs.declared.entry.Mode.TheVariants.{Running, Allowed, Yielding, Ended}
use Rattle.dim_rag.specs.History.{mode, mode_by, mode_of_wish, hold, latest_wish, is_word_of, Wish}
use Rattle.dim_rag.specs.Asks.{may_ask, has_stack}
use Rattle.dim_rag.proofs.Words.{not_about, hold-about, hold-other, mode-word, mode-other}

never : (p : ℕ) (o : Option Wish) (l : Lid) (place : ℕ) → mode_of_wish p o ≡ Yielding l place → ⊥
never p None l place q = absurd (cc)
never p (Some w) l place q = absurd (cc)

yield_lacks : (t : ℕ) (l : Lid) (place : ℕ) (e : Entry) (h : List Entry) → is_word_of t e ≡ true → mode_by (e ∷ h) ≡ Yielding l place → hold t l.0 (e ∷ h) ≡ None
yield_lacks t l place (Yield u m s sig b) h w q =
    let same : m ≡ l = (let j : Yielding m (length h) ≡ Yielding l place = q in cc) in
    hold-about t l.0 (Yield u m s sig b) h (and_from (eqb u.0 t) (eqb m.0 l.0) w (eq-eqb m.0 l.0 (ap (λ (x : Lid). x.0) same)))
yield_lacks t l place (Go u m s) h w q = absurd (cc)
yield_lacks t l place (Got u m) h w q = absurd (cc)
yield_lacks t l place (Free u m) h w q = absurd (cc)
yield_lacks t l place (Took u m s) h w q = absurd (cc)
yield_lacks t l place (Miss u m s why) h w q = absurd (cc)
yield_lacks t l place (End u why) h w q = absurd (cc)
yield_lacks t l place (Break set u) h w q = absurd (never (length h) (latest_wish u.0 h) l place q)
yield_lacks t l place (Learn b) h w q = absurd (false≢true w)

pub yielding_lacks : (t : ℕ) (l : Lid) (place : ℕ) (h : List Entry) → mode t h ≡ Yielding l place → hold t l.0 h ≡ None
yielding_lacks t l place [] q = absurd (cc)
yielding_lacks t l place (e ∷ h) q = elim (cases_Bool (is_word_of t e)) [
  | inl w ↦ yield_lacks t l place e h w (sym (mode-word t e h w) ∙ q)
  | inr w ↦ hold-other t l.0 e h (not_about t l.0 e h w) ∙ yielding_lacks t l place h (sym (mode-other t e h w) ∙ q)
]

-- so one that may ask for a lock, and holds it, runs
pub asking_runs : (t : ℕ) (l : Lid) (s : List Frame) (h : List Entry) (x : Edge) → may_ask l s (mode t h) (latest_wish t h) ≡ true → hold t l.0 h ≡ Some x → mode t h ≡ Running
asking_runs t l s h x may held = go (mode t h) refl may
  where
    go : (m : Mode) → mode t h ≡ m → may_ask l s m (latest_wish t h) ≡ true → mode t h ≡ Running
    go Running e q = e
    go (Allowed y birth) e q = absurd (false≢true q)
    go (Ended place) e q = absurd (false≢true q)
    go (Yielding y place) e q =
        let same : y.0 ≡ l.0 = eqb-true y.0 l.0 (and_parts (eqb y.0 l.0) (has_stack s (latest_wish t h)) q).0 in
        absurd (let n : None ≡ Some x = sym (yielding_lacks t y place h e) ∙ ap (λ k. hold t k h) same ∙ held in cc)
