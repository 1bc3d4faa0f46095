-- What a monitor has taken of a history that goes on.
use Rattle.std.proofs.Common.{◌≡◌, ℕ, ◌+◌, ◌-◌, ◌≤◌, refl, ap, sym, ◌∙◌, subst, List, [], ◌∷◌, ◌++◌, length, append_assoc, arith}
use Rattle.std.specs.Prelude.{Option, Some, None, Result, Ok, Err, IfOk, max, reverse}
use Rattle.std.proofs.lemmas.List.{append-nil, length-append, reverse-append, reverse-reverse}
use Rattle.dim_rag.specs.declared.entry.Entry.{Entry}
use Rattle.dim_rag.specs.declared.command.Command.{Command}
use Rattle.dim_rag.specs.declared.command.Reply.{Reply}
use Rattle.dim_rag.specs.History.{past}
use Rattle.dim_rag.specs.Tables.{Replay}
use Rattle.dim_gate.specs.Gate.{Gate}
use Rattle.dim_run.specs.Settle.{IsBehind}
use Rattle.dim_run.specs.Callers.{Opening, Known, GoesOn, IsAsked, told}
use Rattle.dim_mutex.specs.Holdings.{Watches}

-- one history goes on from another, and that from a third
pub on_and_on : (h before first : List Entry) → GoesOn h before → GoesOn before first → GoesOn h first
on_and_on h before first a b = (a.0 ++ b.0, a.1 ∙ ap (λ x. a.0 ++ x) b.1 ∙ sym (append_assoc a.0 b.0 first))

pub watches_on : (h before : List Entry) (m : Option Replay) → GoesOn (past h) (past before) → Watches m before → Watches m h
watches_on h before None a w = tt
watches_on h before (Some m) a w = on_and_on (past h) (past before) (past m.entries) a w

-- what a caller has seen goes on with each call
seen_on : (k : Known) (found : List Entry) (e : Option Entry) → GoesOn (past (told k found e).seen) (past found)
seen_on k found None = ([], refl)
seen_on k found (Some e) = (e ∷ [], reverse-append found (e ∷ []))

pub watched_on : (o : Opening) (k k' : Known) (cmd : Command) (r : Reply) (m : Option Replay) → IsAsked o k k' cmd r → Watches m k.seen → Watches m k'.seen
watched_on o k k' cmd r m a w =
    let found = watches_on a.found k.seen m a.goes_on w in
    subst (λ (x : Known). Watches m x.seen) (sym a.after) (watches_on (told k a.found _).seen a.found m (seen_on k a.found _) found)

-- what is behind that which was taken
pub behind : (h m : List Entry) → (w : GoesOn (past h) (past m)) → h ≡ m ++ reverse w.0
behind h m w = sym (reverse-reverse h) ∙ ap reverse w.1 ∙ reverse-append w.0 (reverse m) ∙ ap (λ x. x ++ reverse w.0) (reverse-reverse m)

pub no_more : (h m : List Entry) → GoesOn (past h) (past m) → length m ≤ length h
no_more h m w = (let x = ap length (behind h m w) in let y = length-append m (reverse w.0) in omega (arith, x, y))

-- one that has taken nothing is at the beginning
pub from_nothing : (h : List Entry) → GoesOn (past h) []
from_nothing h = (past h, sym (append-nil (past h)))

-- one that has taken all has nothing behind it
pub from_all : (h m : List Entry) → m ≡ h → GoesOn (past h) (past m)
from_all h m e = ([], ap past (sym e))

-- a fresh monitor, if there is one, has taken nothing
pub fresh_watches : {E : Type 0} (h : List Entry) (threads locks : ℕ) (r : Result Replay E) → IfOk r (λ m. m ≡ record { threads = threads; locks = locks; entries = []; spare = 0 }) → IfOk r (λ m. Watches (Some m) h)
fresh_watches h threads locks (Ok m) e = subst (λ (x : Replay). GoesOn (past h) (past x.entries)) (sym e) (from_nothing h)
fresh_watches h threads locks (Err x) e = tt

-- one that has taken the beginning of a gate's history has room for the rest, and may catch up
pub may_catch_up : (g : Gate) (m m' : Replay) (len taken : ℕ) → m.threads ≡ g.threads → m.locks ≡ g.locks → Watches (Some m) g.entries → len ≡ length g.entries → taken ≡ length m.entries → m' ≡ record m { spare = max m.spare (len - taken + 80) } → IsBehind g m'
may_catch_up g m m' len taken threads locks w l t e = subst (IsBehind g) (sym e) record {
  threads = threads;
  locks = locks;
  newer = reverse w.0;
  entries = behind g.entries m.entries w;
  room = (let x = ap length (behind g.entries m.entries w) in let y = length-append m.entries (reverse w.0) in omega (arith, x, y, l, t));
}
