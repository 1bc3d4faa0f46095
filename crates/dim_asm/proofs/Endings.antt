-- The end of a text.
use Rattle.std.proofs.Common.{◌≡◌, ◌≢◌, ◌≤◌, ◌+◌, ℕ, List, [], ◌∷◌, length, Option, Some, None, Result, Ok, Err, arith, sym, ap, ◌∙◌, subst}
use Rattle.std.specs.Prelude.{MatchOption, unwrap_or}
use Rattle.std.specs.Borrow.{Bor}
use Rattle.dim_text.specs.Reading.{◌>>=◌, in_line, read_from, Fails, Gives}
use Rattle.dim_text.proofs.Exports.{read_from-last, read_from-none, read_from-step, Fails-bind}
use Rattle.dim_asm.specs.declared.fault.AsmKind.{AsmKind}
use Rattle.dim_asm.specs.declared.fault.AsmFault.{AsmFault}
use Rattle.dim_asm.specs.Faults.{fault}
use Rattle.dim_asm.specs.Source.{Source}
use Rattle.dim_asm.specs.Judging.{State, step, at_end}

-- what is left behind the last line feed
ending : (s : State) (n : ℕ) (parts new : List (List ℕ)) (r : Option (Bor (List ℕ))) (last none : Bor (List ℕ)) → length parts ≤ 1
    → MatchOption r ((parts ≡ []) × (new ≡ [])) (λ part. parts ≡ part.now ∷ new) → last ≡ unwrap_or r none → none.now ≡ []
    → read_from fault step at_end s n parts ≡ in_line fault n (at_end s last.now)
ending s n [] new None last none few next is empty =
    read_from-none fault step at_end s n ∙ ap (λ w. in_line fault n (at_end s w)) (sym empty ∙ sym (ap (λ (b : Bor (List ℕ)). b.now) is))
ending s n [] new (Some p) last none few next is empty = cc (next)
ending s n (part ∷ []) new (Some p) last none few next is empty =
    let same : part ≡ p.now = cc (next) in
    read_from-last fault step at_end s n part ∙ ap (λ w. in_line fault n (at_end s w)) (same ∙ sym (ap (λ (b : Bor (List ℕ)). b.now) is))
ending s n (part ∷ []) new None last none few next is empty = cc (next.0)
ending s n (part ∷ other ∷ parts) new r last none few next is empty = absurd (omega arith)

pub last_ends : (s : State) (n : ℕ) (parts rest new : List (List ℕ)) (r : Option (Bor (List ℕ))) (last none : Bor (List ℕ)) → length parts ≤ 1 → rest ≡ parts
    → MatchOption r ((rest ≡ []) × (new ≡ [])) (λ part. rest ≡ part.now ∷ new) → last ≡ unwrap_or r none → none.now ≡ []
    → read_from fault step at_end s n parts ≡ in_line fault n (at_end s last.now)
last_ends s n parts rest new r last none few same next is empty =
    ending s n parts new r last none few (subst (λ ps. MatchOption r ((ps ≡ []) × (new ≡ [])) (λ part. ps ≡ part.now ∷ new)) same next) is empty

-- a line that fails
pub failing : (s : State) (n : ℕ) (line : List ℕ) (lines parts : List (List ℕ)) (all : Result Source AsmFault) (o : Option AsmFault) → parts ≡ line ∷ lines → lines ≢ [] → read_from fault step at_end s n parts ≡ all
    → Fails o (in_line fault n (step s line)) → Fails o all
failing s n line lines parts all o is more same h =
    subst (Fails o) (sym (read_from-step fault step at_end s n line lines more) ∙ ap (read_from fault step at_end s n) (sym is) ∙ same) (Fails-bind o _ (λ t. read_from fault step at_end t (n + 1) lines) h)

-- a line that is taken
pub going_on : (s t : State) (n : ℕ) (line : List ℕ) (lines parts : List (List ℕ)) (all : Result Source AsmFault) → parts ≡ line ∷ lines → lines ≢ [] → read_from fault step at_end s n parts ≡ all
    → in_line fault n (step s line) ≡ Ok t → read_from fault step at_end t (n + 1) lines ≡ all
going_on s t n line lines parts all is more same taken =
    ap (λ r. r >>= λ u. read_from fault step at_end u (n + 1) lines) (sym taken)
    ∙ sym (read_from-step fault step at_end s n line lines more)
    ∙ ap (read_from fault step at_end s n) (sym is)
    ∙ same

-- what the end of a text was judged to be
pub judged_end : (n : ℕ) (s : Source) (r : Result (Unit {0}) AsmKind) (right : Result Source AsmKind) (o : Option AsmFault) → Gives (λ k. Some k) (λ u. s) r right → Fails o (in_line fault n r) → Fails o (in_line fault n right)
judged_end n s (Ok u) right None h k = tt
judged_end n s (Ok u) right (Some f) h k = cc (k)
judged_end n s (Err kind) right None h k = tt
judged_end n s (Err kind) right (Some f) h k = ap (in_line fault n) h ∙ cc (k)

pub good_end : (n : ℕ) (s : Source) (r : Result (Unit {0}) AsmKind) (u : Unit {0}) (right : Result Source AsmKind) → Gives (λ k. Some k) (λ v. s) r right → in_line fault n r ≡ Ok u → right ≡ Ok s
good_end n s (Ok v) u right h k = h
good_end n s (Err kind) u right h k = cc (k)
