-- The end of a text.
use Rattle.std.proofs.Common.{◌≡◌, ◌≢◌, ◌≤◌, ◌+◌, ℕ, Bool, not, List, [], ◌∷◌, length, Option, Some, None, Result, Ok, Err, arith, sym, ap, ◌∙◌, subst}
use Rattle.std.specs.Prelude.{MatchOption, unwrap_or, ◌==◌}
use Rattle.std.specs.Borrow.{Bor}
use Rattle.dim_text.specs.Reading.{◌>>=◌, in_line, read_from, Fails, Gives}
use Rattle.dim_text.proofs.Exports.{read_from-last, read_from-none, read_from-step, Fails-bind}
use Rattle.dim_log.specs.declared.log.LogFault.{LogFault}
use Rattle.dim_log.specs.Faults.{fault}
use Rattle.dim_log.specs.Value.{Said, LogValue}
use Rattle.dim_log.specs.Saying.{step, at_end}

-- what is left behind the last line feed
ending : (s : List Said) (n : ℕ) (parts new : List (List ℕ)) (r : Option (Bor (List ℕ))) (last none : Bor (List ℕ)) → length parts ≤ 1
    → MatchOption r ((parts ≡ []) × (new ≡ [])) (λ part. parts ≡ part.now ∷ new) → last ≡ unwrap_or r none → none.now ≡ []
    → read_from fault step at_end s n parts ≡ in_line fault n (at_end s last.now)
ending s n [] new None last none few next is empty =
    read_from-none fault step at_end s n ∙ ap (λ w. in_line fault n (at_end s w)) (sym empty ∙ sym (ap (λ (b : Bor (List ℕ)). b.now) is))
ending s n [] new (Some p) last none few next is empty = cc (next)
ending s n (part ∷ []) new (Some p) last none few next is empty =
    let same : part ≡ p.now = cc (next) in
    read_from-last fault step at_end s n part ∙ ap (λ w. in_line fault n (at_end s w)) (same ∙ sym (ap (λ (b : Bor (List ℕ)). b.now) is))
ending s n (part ∷ []) new None last none few next is empty = cc (next.0)
ending s n (part ∷ other ∷ parts) new r last none few next is empty = absurd (omega arith)

pub last_ends : (s : List Said) (n : ℕ) (parts rest new : List (List ℕ)) (r : Option (Bor (List ℕ))) (last none : Bor (List ℕ)) → length parts ≤ 1 → rest ≡ parts
    → MatchOption r ((rest ≡ []) × (new ≡ [])) (λ part. rest ≡ part.now ∷ new) → last ≡ unwrap_or r none → none.now ≡ []
    → read_from fault step at_end s n parts ≡ in_line fault n (at_end s last.now)
last_ends s n parts rest new r last none few same next is empty =
    ending s n parts new r last none few (subst (λ ps. MatchOption r ((ps ≡ []) × (new ≡ [])) (λ part. ps ≡ part.now ∷ new)) same next) is empty

-- a line that fails
pub failing : (s : List Said) (n : ℕ) (line : List ℕ) (lines parts : List (List ℕ)) (all : Result LogValue LogFault) (o : Option LogFault) → parts ≡ line ∷ lines → lines ≢ [] → read_from fault step at_end s n parts ≡ all
    → Fails o (in_line fault n (step s line)) → Fails o all
failing s n line lines parts all o is more same h =
    subst (Fails o) (sym (read_from-step fault step at_end s n line lines more) ∙ ap (read_from fault step at_end s n) (sym is) ∙ same) (Fails-bind o _ (λ t. read_from fault step at_end t (n + 1) lines) h)

-- a line that is taken
pub going_on : (s t : List Said) (n : ℕ) (line : List ℕ) (lines parts : List (List ℕ)) (all : Result LogValue LogFault) → parts ≡ line ∷ lines → lines ≢ [] → read_from fault step at_end s n parts ≡ all
    → in_line fault n (step s line) ≡ Ok t → read_from fault step at_end t (n + 1) lines ≡ all
going_on s t n line lines parts all is more same taken =
    ap (λ r. r >>= λ u. read_from fault step at_end u (n + 1) lines) (sym taken)
    ∙ sym (read_from-step fault step at_end s n line lines more)
    ∙ ap (read_from fault step at_end s n) (sym is)
    ∙ same

-- what the end of a text gives
pub ended : (s : List Said) (n : ℕ) (last : List ℕ) (empty : Bool) → empty ≡ (length last == 0) → in_line fault n (at_end s last) ≡ Ok (record { events = s; cut = not empty })
unfolding at_end
ended s n last empty is = ap (λ x. Ok (record { events = s; cut = not x })) (sym is)

-- at the exit of a `?` that hands an error on
pub exits : {X A E F : Type 0} (fault_of : E → Option F) (view : X → A) (r : Result X E) (x e : E) (right : Result A F) → r ≡ Err x → x ≡ e → Fails (fault_of e) right → Gives fault_of view r right
exits fault_of view r x e right is same h = rw (is, same) h
