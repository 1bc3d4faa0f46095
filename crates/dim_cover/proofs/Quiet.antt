-- An entry that is neither a Go, a Took, a Break nor a Free leaves the edges as they are.
use Rattle.std.proofs.Common.{◌≡◌, ℕ, List, refl, sym}
use Rattle.std.specs.Borrow.{Bor}
use Rattle.std.proofs.lemmas.List.{append-nil}
use Rattle.dim_base.specs.declared.Tid.{Tid}
use Rattle.dim_base.specs.declared.Lid.{Lid}
use Rattle.dim_stack.specs.declared.Frame.{Frame}
use Rattle.dim_rag.specs.declared.entry.Edge.{Edge}
use Rattle.dim_rag.specs.declared.entry.Entry.{Entry}
use Rattle.dim_rag.specs.declared.entry_ref.EntryRef.{EntryRef}
use Rattle.dim_rag.specs.declared.entry_ref.EntryRef.TheVariants.{Go, Yield, Got, Free, Took, MissBusy, MissAvoid, End, Break, Learn}
use Rattle.dim_rag.specs.Shown.{shown}
use Rattle.dim_cover.specs.Change.{changed}

pub shows_quiet : (e : EntryRef) (h : List Entry) (es : List Edge)
    → ((t : Tid) (l : Lid) (s : Bor (List Frame)) → e ≡ Go t l s → ⊥) → ((t : Tid) (l : Lid) (s : Bor (List Frame)) → e ≡ Took t l s → ⊥)
    → ((set : ℕ) (t : Tid) → e ≡ Break set t → ⊥) → ((t : Tid) (l : Lid) → e ≡ Free t l → ⊥) → es ≡ changed h (shown e) es
shows_quiet (Yield t l s sig b) h es g k b' f = sym (append-nil es)
shows_quiet (Got t l) h es g k b f = sym (append-nil es)
shows_quiet (MissBusy t l s u) h es g k b f = sym (append-nil es)
shows_quiet (MissAvoid t l s sig b) h es g k b' f = sym (append-nil es)
shows_quiet (End t why) h es g k b f = sym (append-nil es)
shows_quiet (Learn c) h es g k b f = sym (append-nil es)
shows_quiet (Go t l s) h es g k b f = absurd (g t l s refl)
shows_quiet (Took t l s) h es g k b f = absurd (k t l s refl)
shows_quiet (Break set t) h es g k b f = absurd (b set t refl)
shows_quiet (Free t l) h es g k b f = absurd (f t l refl)
