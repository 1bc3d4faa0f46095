-- The verdict on a trace, as it is found: place by place, and then at the end.
use Rattle.std.specs.Prelude.{ℕ, zero, suc, ◌==◌, Bool, true, false, not, ◌&&◌, ◌||◌, nat_le, nat_lt, if◌then◌else◌, List, [], ◌∷◌, length, Option, Some, None, is_some}
use Rattle.std.specs.Cmp.Lexicographic.{pointwise}
use Rattle.std.specs.List.{list_all}
use Rattle.dim_base.specs.declared.Tid.{Tid}
use Rattle.dim_base.specs.declared.Lid.{Lid}
use Rattle.dim_stack.specs.declared.Frame.{Frame}
use Rattle.dim_stack.specs.Order.{frame_eq}
use Rattle.dim_asm.specs.Code.{Code, thread_count, lock_count}
use Rattle.dim_rag.specs.contracts.entry.EntryPartialEq.TheImpl.{eq-value}
use Rattle.dim_rag.specs.declared.entry.Entry.{Entry}
use Rattle.dim_rag.specs.declared.entry.Entry.TheVariants.{Go, Yield, Got, Free, Took, Miss, End, Break, Learn}
use Rattle.dim_rag.specs.declared.entry.Mode.{Mode}
use Rattle.dim_rag.specs.declared.entry.Mode.TheVariants.{Running, Allowed, Yielding, Ended}
use Rattle.dim_rag.specs.declared.entry.Why.{Why}
use Rattle.dim_rag.specs.declared.entry.Why.TheVariants.{Spent}
use Rattle.dim_rag.specs.Edges.{standing}
use Rattle.dim_rag.specs.History.{mode}
use Rattle.dim_rag.specs.Holder.{holder}
use Rattle.dim_rag.specs.Tables.{thread_of, caller_of}
use Rattle.dim_gate.specs.Answer.{entry_of}
use Rattle.dim_gate.specs.Gate.{Constants}
use Rattle.dim_gate.specs.Legal as legal
use Rattle.dim_gate.specs.Settled.{is_known, are_followed}
use Rattle.dim_monitor.specs.Found.{cycles_of}
use Rattle.dim_vm.specs.Configuration.{Configuration, is_ended, next_of}
use Rattle.dim_vm.specs.Frames.{stack_of}
use Rattle.dim_vm.specs.Table.{Next, Ends, Wants, Retakes, Frees, Tries}
use Rattle.dim_vm.specs.Walks.{configuration, is_by}
use Rattle.dim_trace.specs.declared.verdict.Rule.TheVariants as rule
use Rattle.dim_trace.specs.declared.verdict.Verdict.{Verdict}
use Rattle.dim_trace.specs.declared.verdict.Verdict.TheVariants.{Yes, No}
use Rattle.dim_trace.specs.Checking.{IsVerdict}

-- whether two entries are one
abbrev pub same : Entry → Entry → Bool
same a b = eq-value.it a b

abbrev pub same_stack : List Frame → List Frame → Bool
same_stack s r = pointwise frame_eq s r

-- whether a thread and a lock are among so many
abbrev pub are_among : ℕ → ℕ → Tid → Lid → Bool
are_among threads locks t l = nat_lt t.0 threads && nat_lt l.0 locks

abbrev pub is_in_range : ℕ → ℕ → Entry → Bool
is_in_range threads locks (Go t l s) = are_among threads locks t l
is_in_range threads locks (Yield t l s sig births) = are_among threads locks t l
is_in_range threads locks (Got t l) = are_among threads locks t l
is_in_range threads locks (Free t l) = are_among threads locks t l
is_in_range threads locks (Took t l s) = are_among threads locks t l
is_in_range threads locks (Miss t l s why) = are_among threads locks t l
is_in_range threads locks (End t why) = nat_lt t.0 threads
is_in_range threads locks (Break set t) = nat_lt t.0 threads
is_in_range threads locks (Learn births) = true

abbrev pub is_made : Option Entry → Entry → Bool
is_made None e = false
is_made (Some x) e = same x e

-- whether e is legal after h
abbrev pub is_legal : Constants → List Entry → Entry → Bool
is_legal c h e = is_in_range c.threads c.locks e
    && is_made (entry_of c (legal.giver_of c.threads e) (legal.command_of e) h) e

-- whether the next thing is to take l that isn't held, to take it once more, to free it, or to try
-- it
abbrev pub wants : Lid → Next → Bool
wants l (Wants m after) = m.0 == l.0
wants l _ = false

abbrev pub retakes : Lid → Next → Bool
retakes l (Retakes m after) = m.0 == l.0
retakes l _ = false

abbrev pub frees : Lid → Next → Bool
frees l (Frees m after) = m.0 == l.0
frees l _ = false

abbrev pub tries : Lid → Next → Bool
tries l (Tries m took missed) = m.0 == l.0
tries l _ = false

-- whether it is to take some lock, or this end
abbrev pub wants_some : Next → Bool
wants_some (Wants m after) = true
wants_some _ = false

abbrev pub ends : Tid → Why → Next → Bool
ends t why (Ends w) = same (End t w) (End t why)
ends t why _ = false

-- whether an entry is what a thread does next that has so many units and calls, and that is awake
-- or isn't
abbrev pub fits_next : ℕ → List Frame → Bool → Entry → Next → Bool
fits_next units stack awake (Go t l s) n = nat_le 2 units && (same_stack s stack && wants l n)
fits_next units stack awake (Yield t l s sig births) n = nat_le 2 units
    && (same_stack s stack && wants l n)
fits_next units stack awake (Got t l) n = nat_le 1 units && wants l n
fits_next units stack awake (Free t l) n = nat_le 1 units && frees l n
fits_next units stack awake (Took t l s) n = nat_le 1 units
    && (same_stack s stack && (tries l n || retakes l n))
fits_next units stack awake (Miss t l s why) n = nat_le 1 units && (same_stack s stack && tries l n)
fits_next units stack awake (End t Spent) n = (units == 0)
    || ((units == 1) && (awake && wants_some n))
fits_next units stack awake (End t why) n = nat_le 1 units && ends t why n
fits_next units stack awake (Break set t) n = false
fits_next units stack awake (Learn births) n = false

abbrev pub fits : Code → Bool → Configuration → Entry → Bool
fits p awake c e = not (is_ended c.state)
    && (is_by c.thread (thread_of e) && fits_next c.units (stack_of p c.context.frames) awake e (next_of p c))

-- whether a thread in this mode, with this first cause that stands, runs or is woken
abbrev pub is_awake : Mode → Option ℕ → Bool
is_awake Running cause = true
is_awake (Yielding l place) cause = not (is_some cause)
is_awake (Allowed l birth) cause = false
is_awake (Ended place) cause = false

-- whether e, after h, is a move of its caller's machine, if that is a thread
abbrev pub is_move : Code → ℕ → List Entry → Entry → Option Tid → Bool
is_move p fuel h e None = true
is_move p fuel h e (Some t) = fits p (is_awake (mode t.0 h) (standing (thread_count p) (lock_count p) t.0 h)) (configuration p fuel t h) e

-- whether a thread in this mode has ended or is allowed on a lock that one of the n threads holds
abbrev pub rests : ℕ → List Entry → Mode → Bool
rests n h (Ended place) = true
rests n h (Allowed l birth) = is_some (holder n l.0 h)
rests n h Running = false
rests n h (Yielding l place) = false

-- the same of the first k threads
abbrev pub all_rest : ℕ → List Entry → ℕ → Bool
all_rest n h zero = true
all_rest n h (suc k) = rests n h (mode k h) && all_rest n h k

abbrev pub is_settled : Constants → List Entry → Bool
is_settled c h = all_rest c.threads h c.threads
    && (list_all (is_known c h) (cycles_of c.threads h) && are_followed c.threads c.locks None h)

-- the verdict by two tests of an entry at a place, and by what is said behind it
abbrev pub by_tests : Bool → Bool → ℕ → Verdict → Verdict
by_tests granted moved place on = if granted then (if moved then on else No place rule.Walk) else No place rule.Legal

-- the verdict on entries of which those before have passed, the newest of them first
unfoldable pub verdict_after : Constants → Code → ℕ → List Entry → List Entry → Verdict
verdict_after c p fuel h [] = if is_settled c h then Yes else No (length h) rule.Settled
verdict_after c p fuel h (e ∷ entries) = by_tests (is_legal c h e) (is_move p fuel h e (caller_of e)) (length h) (verdict_after c p fuel (e ∷ h) entries)

-- the verdict on some entries, oldest first
unfoldable pub verdict_of : Constants → Code → ℕ → List Entry → Verdict
verdict_of c p fuel entries = verdict_after c p fuel [] entries

-- it is a verdict
abbrev pub FoundLaw : Type 0
FoundLaw = (c : Constants) (p : Code) (fuel : ℕ) (entries : List Entry)
    → IsVerdict c p fuel entries (verdict_of c p fuel entries)
