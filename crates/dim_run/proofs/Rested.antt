-- Where a settle has nothing to do.
use Rattle.std.proofs.Common.{◌≡◌, ℕ, zero, suc, ◌+◌, ◌<◌, ◌≤◌, Bool, true, false, ◌&&◌, refl, ap, sym, ◌∙◌, subst, arith, List, [], ◌∷◌, ◌++◌, length}
use Rattle.std.specs.Prelude.{if◌then◌else◌, Some, None}
use Rattle.dim_rag.specs.declared.entry.Entry.{Entry}
use Rattle.dim_rag.specs.History.{past, mode}
use Rattle.dim_rag.specs.Tables.{Replay}
use Rattle.dim_rag.specs.Waits.{waits}
use Rattle.dim_rag.specs.Stuck.{is_member, is_yielding, holds_more, choice}
use Rattle.dim_gate.specs.Gate.{Gate, Constants, constants}
use Rattle.dim_gate.specs.Known.{known_sigs}
use Rattle.dim_gate.specs.Legal.{Legal}
use Rattle.dim_gate.proofs.Exports.{none_chosen}
use Rattle.dim_monitor.specs.Found.{cycles_of}
use Rattle.dim_monitor.proofs.Exports.{no_cycles}
use Rattle.dim_run.specs.Notes.{AreTaken}
use Rattle.dim_run.specs.declared.notes.Notes.{Notes}
use Rattle.dim_run.specs.Settle.{IsTwin, IsBehind, first_unknown, unknown_cycle, learn_or, break_of, greatest_stuck, next_break, next_way_out, next_command, settled, SettledLaw}
use Rattle.dim_run.proofs.SettleEnds.{done}

-- where there is no next command, a settle makes nothing
pub rests : (c : Constants) (h : List Entry) → next_command c h ≡ None → settled c h ≡ h
unfolding settled
rests c h q = done c h 80 q

unchosen : (set m : ℕ) (h : List Entry) (k : ℕ) (member yields more : Bool) → yields ≡ false → choice set m h k ≡ None → (if (member && yields) && more then Some k else choice set m h k) ≡ None
unchosen set m h k true true more q e = absurd (cc)
unchosen set m h k true false more q e = e
unchosen set m h k false yields more q e = e

-- where no thread yields, no set has a choice
pub no_choice : (set m : ℕ) (h : List Entry) (k : ℕ) → ((t : ℕ) → t < k → is_yielding (mode t h) ≡ false) → choice set m h k ≡ None
no_choice set m h zero q = refl
no_choice set m h (suc k) q =
    unchosen set m h k (is_member set k) (is_yielding (mode k h)) (holds_more m h (choice set m h k) k) (q k (omega arith)) (no_choice set m h k (λ t lt. q t (omega arith)))

-- so there is no Break
pub no_break : (n m : ℕ) (h : List Entry) → ((t : ℕ) → t < n → is_yielding (mode t h) ≡ false) → next_break n m h ≡ None
no_break n m h q = ap (break_of (greatest_stuck n m h)) (no_choice (greatest_stuck n m h) m h n q)

-- nor a starvation that is to be learnt
pub no_way_out : (c : Constants) (h : List Entry) → ((t : ℕ) → t < c.threads → is_yielding (mode t h) ≡ false) → next_way_out c h ≡ None
no_way_out c h q =
    ap (λ o. learn_or o (next_break c.threads c.locks h))
    (none_chosen c.threads c.locks c.cap (known_sigs c.loaded c.depth h) h (greatest_stuck c.threads c.locks h) (no_choice (greatest_stuck c.threads c.locks h) c.locks h c.threads q))
    ∙ no_break c.threads c.locks h q

-- where there is no cycle, none is unknown
pub none_unknown : (c : Constants) (h : List Entry) → cycles_of c.threads h ≡ [] → unknown_cycle c h ≡ None
none_unknown c h q = ap (first_unknown c h) q

-- before the first entry there is nothing to do
pub first_rests : (c : Constants) → next_command c [] ≡ None
first_rests c =
    ap (λ o. learn_or o (next_way_out c [])) (none_unknown c [] (no_cycles (waits c.threads []) c.threads c.threads (λ t lt. refl)))
    ∙ no_way_out c [] (λ t lt. refl)

pub rests_first : (g : Gate) → g.entries ≡ [] → next_command (constants g) (past g.entries) ≡ None
rests_first g q = ap (λ (es : List Entry). next_command (constants g) (past es)) q ∙ first_rests (constants g)

only_front : (told newer : List Entry) → length (told ++ newer) ≡ length told → told ++ newer ≡ told
only_front [] [] q = refl
only_front [] (e ∷ es) q = absurd (omega (arith, q))
only_front (e ∷ told) newer q = ap (λ xs. e ∷ xs) (only_front told newer (omega (arith, q)))

-- a monitor that is behind by no entry has taken all of them
pub none_newer : (g : Gate) (m : Replay) → IsBehind g m → length g.entries ≡ length m.entries → m.entries ≡ g.entries
none_newer g m b q = sym (b.entries ∙ only_front m.entries b.newer (sym (ap (λ (xs : List Entry). length xs) b.entries) ∙ q))

pub still_twin : (g : Gate) (m : Replay) → IsBehind g m → length g.entries ≡ length m.entries → IsTwin g m
still_twin g m b q = record { threads = b.threads; locks = b.locks; entries = none_newer g m b q }

pub still_taken : (g : Gate) (m : Replay) (notes : Notes) → IsBehind g m → length g.entries ≡ length m.entries → AreTaken g notes m.entries → AreTaken g notes g.entries
still_taken g m notes b q = subst (AreTaken g notes) (none_newer g m b q)

-- where it has taken all entries and there was nothing to do, there is nothing to do
pub still_rests : (g : Gate) (m : Replay) → IsBehind g m → length g.entries ≡ length m.entries → next_command (constants g) (past m.entries) ≡ None → next_command (constants g) (past g.entries) ≡ None
still_rests g m b q = subst (λ (es : List Entry). next_command (constants g) (past es) ≡ None) (none_newer g m b q)

-- where there is nothing to do at the gate's entries, there is none at those of a monitor that has taken them, while the gate goes on
pub rests_behind : (g g1 : Gate) (m m1 : Replay) → constants g1 ≡ constants g → m1 ≡ m → IsTwin g m → next_command (constants g) (past g.entries) ≡ None → next_command (constants g1) (past m1.entries) ≡ None
rests_behind g g1 m m1 cs same twin q =
    ap (λ (c : Constants). next_command c (past m1.entries)) cs
    ∙ ap (λ (es : List Entry). next_command (constants g) (past es)) (ap (λ (x : Replay). x.entries) same ∙ twin.entries)
    ∙ q

-- the same of a gate with the same constants and entries
pub rests_on : (g g1 : Gate) → constants g1 ≡ constants g → g1.entries ≡ g.entries → next_command (constants g) (past g.entries) ≡ None → next_command (constants g1) (past g1.entries) ≡ None
rests_on g g1 cs es q = ap (λ (c : Constants). next_command c (past g1.entries)) cs ∙ ap (λ (xs : List Entry). next_command (constants g) (past xs)) es ∙ q

-- after a settle there is nothing to do
pub rests_settled : (g g1 : Gate) → SettledLaw → Legal (constants g) (past g.entries) → g.threads ≤ 32 → length g.loaded + 16 ≤ g.cap → constants g1 ≡ constants g → past g1.entries ≡ settled (constants g) (past g.entries) → next_command (constants g1) (past g1.entries) ≡ None
rests_settled g g1 law legal few cap cs hs = ap (λ (c : Constants). next_command c (past g1.entries)) cs ∙ ap (next_command (constants g)) hs ∙ law (constants g) (past g.entries) legal few cap

-- where there is no cycle in the graph of a twin, none is unknown
pub none_found : (g : Gate) (m x : Replay) → x ≡ m → IsTwin g m → cycles_of x.threads (past x.entries) ≡ [] → None ≡ unknown_cycle (constants g) (past g.entries)
none_found g m x same twin q =
    let threads : x.threads ≡ g.threads = ap (λ (y : Replay). y.threads) same ∙ twin.threads in
    let entries : x.entries ≡ g.entries = ap (λ (y : Replay). y.entries) same ∙ twin.entries in
    sym (none_unknown (constants g) (past g.entries)
    (ap (λ (n : ℕ). cycles_of n (past g.entries)) (sym threads) ∙ ap (λ (es : List Entry). cycles_of x.threads (past es)) (sym entries) ∙ q))

-- where nobody yields in the graph of a twin, there is no way out to take
pub no_way_out_told : (g : Gate) (m x : Replay) → x ≡ m → IsTwin g m → ((t : ℕ) → t < x.threads → is_yielding (mode t (past x.entries)) ≡ false) → None ≡ next_way_out (constants g) (past g.entries)
no_way_out_told g m x same twin q =
    let threads : x.threads ≡ g.threads = ap (λ (y : Replay). y.threads) same ∙ twin.threads in
    let entries : x.entries ≡ g.entries = ap (λ (y : Replay). y.entries) same ∙ twin.entries in
    sym (no_way_out (constants g) (past g.entries)
    (subst (λ (n : ℕ). (t : ℕ) → t < n → is_yielding (mode t (past g.entries)) ≡ false) threads
    (subst (λ (es : List Entry). (t : ℕ) → t < x.threads → is_yielding (mode t (past es)) ≡ false) entries q)))
