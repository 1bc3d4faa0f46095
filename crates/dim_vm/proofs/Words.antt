-- The latest words of a thread whose newest entry is its own.
use Rattle.std.proofs.Common.{◌≡◌, ℕ, ◌==◌, Bool, true, if◌then◌else◌, List, [], ◌∷◌, ◌++◌, ap, sym, subst, ◌∙◌, Option, Some, eq-eqb, length}
use Rattle.std.specs.Prelude.{IfSome}
use Rattle.std.proofs.lemmas.List.{reverse-append}
use Rattle.dim_base.specs.declared.Tid.{Tid}
use Rattle.dim_base.specs.declared.Lid.{Lid}
use Rattle.dim_stack.specs.declared.Frame.{Frame}
use Rattle.dim_rag.specs.declared.entry.Entry.{Entry}
use Rattle.dim_rag.specs.declared.entry.Entry.TheVariants.{Go, Yield, Got, Free, Took, Miss, End, Break, Learn}
use Rattle.dim_rag.specs.Fits.{IsYielding}
use Rattle.dim_rag.specs.History.{is_word_of, latest, mode_by, past}
use Rattle.dim_rag.specs.Tables.{thread_of}

pub same_tid : (u t : Tid) → Some u ≡ Some t → (u.0 == t.0) ≡ true
same_tid u t e = let x : u ≡ t = cc in eq-eqb u.0 t.0 (ap (λ (z : Tid). z.0) x)

-- an entry of t is a word of t
pub own_word : (t : Tid) (e : Entry) → thread_of e ≡ Some t → is_word_of t.0 e ≡ true
own_word t (Go u l s) h = same_tid u t h
own_word t (Yield u l s sig births) h = same_tid u t h
own_word t (Got u l) h = same_tid u t h
own_word t (Free u l) h = same_tid u t h
own_word t (Took u l s) h = same_tid u t h
own_word t (Miss u l s why) h = same_tid u t h
own_word t (End u why) h = same_tid u t h
own_word t (Break set u) h = same_tid u t h
own_word t (Learn births) h = cc

pub own_latest : (t : Tid) (e : Entry) (h : List Entry) → thread_of e ≡ Some t → latest t.0 (e ∷ h) ≡ e ∷ h
own_latest t e h by = ap (λ (b : Bool). if b then e ∷ h else latest t.0 h) (own_word t e by)

-- after its Yield a thread yields
pub yield_yields : (t u : Tid) (l : Lid) (s : List Frame) (sig : ℕ) (births : List ℕ) (e : Entry) (h : List Entry) → e ≡ Yield u l s sig births → thread_of e ≡ Some t → IsYielding t.0 (e ∷ h)
yield_yields t u l s sig births e h is by =
    let P : Entry → Type 0 = λ x. IsYielding t.0 (x ∷ h) in
    subst P (sym is) (l, length h, ap mode_by (own_latest t (Yield u l s sig births) h (ap thread_of (sym is) ∙ by)))

-- the same where the Yield was appended
pub yields_last : (own items : List Entry) (o : Option Entry) (e : Entry) (t u : Tid) → items ≡ own ++ e ∷ [] → o ≡ Some e → IfSome o (λ x. thread_of x ≡ Some t) → t ≡ u
    → ((v : Tid) → thread_of e ≡ Some v → (h : List Entry) → IsYielding v.0 (e ∷ h)) → IsYielding u.0 (past items)
yields_last own items o e t u grown is by same yields =
    let P : Option Entry → Type 0 = λ x. IfSome x (λ y. thread_of y ≡ Some t) in
    let mine : thread_of e ≡ Some t = subst P is by in
    subst (IsYielding u.0) (sym (ap past grown ∙ reverse-append own (e ∷ []))) (yields u (mine ∙ ap Some same) (past own))
