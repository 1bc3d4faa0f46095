-- The entry of an answer, by its reply.
use Rattle.std.proofs.Common.{◌≡◌, ◌∙◌, ℕ, Bool, true, false, refl, ap, sym, subst, inl, inr, List, length}
use Rattle.std.specs.Prelude.{Option, Some, None, if◌then◌else◌}
use Rattle.dim_base.specs.declared.Tid.{Tid}
use Rattle.dim_base.specs.declared.Lid.{Lid}
use Rattle.dim_stack.specs.declared.Frame.{Frame}
use Rattle.dim_rag.specs.declared.entry.Edge.{Edge}
use Rattle.dim_rag.specs.declared.entry.Entry.{Entry}
use Rattle.dim_rag.specs.declared.entry.Entry.TheVariants as entry
use Rattle.dim_rag.specs.declared.entry.Mode.{Mode}
use Rattle.dim_rag.specs.declared.entry.Mode.TheVariants.{Running, Allowed, Yielding, Ended}
use Rattle.dim_rag.specs.declared.entry.Named.{Named}
use Rattle.dim_rag.specs.declared.entry.Why.{Why}
use Rattle.dim_rag.specs.declared.command.Command.{Command}
use Rattle.dim_rag.specs.declared.command.Command.TheVariants.{Request, Acquire, Release, Try, End, Break, Learn}
use Rattle.dim_rag.specs.declared.command.Refusal.{Refusal}
use Rattle.dim_rag.specs.declared.command.Refusal.TheVariants as refusal
use Rattle.dim_rag.specs.declared.command.Reply.{Reply}
use Rattle.dim_rag.specs.declared.command.Reply.TheVariants as reply
use Rattle.dim_rag.specs.History.{mode, hold, count, latest_wish}
use Rattle.dim_rag.specs.Holder.{holder}
use Rattle.dim_rag.specs.Edges.{standing}
use Rattle.dim_rag.specs.Asks.{may_ask}
use Rattle.dim_rag.specs.Born.{edge_after}
use Rattle.dim_rag.specs.Fits.{Fits, AreInRange, FitsAfter, IsInRange}
use Rattle.dim_rag.proofs.Exports.{choice_law}
use Rattle.dim_signature.specs.Sig.{Sig}
use Rattle.dim_cover.specs.Named.{named}
use Rattle.dim_gate.specs.Gate.{Constants}
use Rattle.dim_gate.specs.Known.{known_sigs}
use Rattle.dim_rag.specs.Made.{entry_by}
use Rattle.dim_gate.specs.Answer.{answer_by, entry_of, reply_of, MayGive}
use Rattle.dim_gate.specs.Threads.{Answer, only, refused, with, again_or, still_or, yield_or_go, busy_or_got, acquire, if_running, release, miss_or, avoid_or_took, end}
use Rattle.dim_gate.specs.Tender.{stale_or, chosen_or_stale, unlearnt_or, broken, known_or, full_or_learnt}
use Rattle.dim_gate.proofs.Fitting.{fits_after}
use Rattle.dim_gate.proofs.Legal.{made_legal}
use Rattle.dim_gate.proofs.Made.{IsMade, made}
use Rattle.dim_gate.proofs.Yields.{chosen}

-- the reply tells the entry
abbrev Tells : Tid → Command → Answer → Type 0
Tells t cmd a = entry_by t cmd a.reply ≡ a.entry

refusal_tells : (t : Tid) (cmd : Command) (r : Refusal) → Tells t cmd (refused r)
refusal_tells t (Request l s) r = refl
refusal_tells t (Acquire l) r = refl
refusal_tells t (Release l) r = refl
refusal_tells t (Try l s) r = refl
refusal_tells t (End why) r = refl
refusal_tells t (Break set u) r = refl
refusal_tells t (Learn births) r = refl

module _ (t : Tid) (cmd : Command) where
  chosen_tells : (b : Bool) (x y : Answer) → Tells t cmd x → Tells t cmd y → Tells t cmd (if b then x else y)
  chosen_tells true x y p q = p
  chosen_tells false x y p q = q

  again_tells : (l : Lid) (s : List Frame) (n : ℕ) (o : Option Edge) (next : Answer) → Tells t cmd (with reply.Took (entry.Took t l s)) → Tells t cmd next → Tells t cmd (again_or t l s n o next)
  again_tells l s n None next took p = p
  again_tells l s n (Some e) next took p = chosen_tells _ (refused (refusal.Own e.birth)) (with reply.Took (entry.Took t l s)) (refusal_tells t cmd (refusal.Own e.birth)) took

  running_tells : (m : Mode) (next : Answer) → Tells t cmd next → Tells t cmd (if_running m next)
  running_tells Running next p = p
  running_tells (Allowed m birth) next p = refusal_tells t cmd (refusal.OutOfTurn (Allowed m birth))
  running_tells (Yielding m place) next p = refusal_tells t cmd (refusal.OutOfTurn (Yielding m place))
  running_tells (Ended place) next p = refusal_tells t cmd (refusal.OutOfTurn (Ended place))

  stale_tells : (o : Option ℕ) (next : Answer) → Tells t cmd next → Tells t cmd (stale_or o next)
  stale_tells None next p = p
  stale_tells (Some i) next p = refusal_tells t cmd (refusal.Stale i)

  known_tells : (o : Option ℕ) (next : Answer) → Tells t cmd next → Tells t cmd (known_or o next)
  known_tells None next p = p
  known_tells (Some i) next p = refusal_tells t cmd (refusal.Known i)

module _ (t : Tid) (l : Lid) (s : List Frame) where
  asked : (o : Option ℕ) (k : Option Named) → Tells t (Request l s) (still_or o (yield_or_go t l s k))
  asked None None = refl
  asked None (Some n) = refl
  asked (Some cause) k = refl

  tried : (o : Option Edge) (k : Option Named) → Tells t (Try l s) (miss_or t l s o (avoid_or_took t l s k))
  tried None None = refl
  tried None (Some n) = refl
  tried (Some e) k = refl

module _ (t : Tid) (l : Lid) where
  got : (o : Option Edge) → Tells t (Acquire l) (busy_or_got t l o)
  got None = refl
  got (Some e) = refl

  woken : (o : Option ℕ) → Tells t (Acquire l) (still_or o (only reply.Woken))
  woken None = refl
  woken (Some cause) = refl

  acquired : (o : Option Edge) (c : Option ℕ) (m : Mode) → Tells t (Acquire l) (acquire t l o c m)
  acquired o c (Allowed m birth) = chosen_tells t (Acquire l) _ (busy_or_got t l o) (refused (refusal.OutOfTurn (Allowed m birth))) (got o) refl
  acquired o c (Yielding m place) = chosen_tells t (Acquire l) _ (still_or c (only reply.Woken)) (refused (refusal.OutOfTurn (Yielding m place))) (woken c) refl
  acquired o c Running = refl
  acquired o c (Ended place) = refl

  released : (o : Option Edge) → Tells t (Release l) (release t l o)
  released None = refl
  released (Some e) = chosen_tells t (Release l) _ _ (refused (refusal.NotOwner (Some e.t))) refl refl

ended : (t : Tid) (why : Why) (m : Mode) → Tells t (End why) (end t why m)
ended t why Running = refl
ended t why (Yielding m place) = refl
ended t why (Allowed m birth) = refl
ended t why (Ended place) = refl

unlearnt_tells : (t u : Tid) (set : ℕ) (o : Option (List ℕ)) → Tells t (Break set u) (unlearnt_or o (broken set u))
unlearnt_tells t u set None = refl
unlearnt_tells t u set (Some b) = refl

breaks : (t u : Tid) (set : ℕ) (o : Option ℕ) (w : Option (List ℕ)) → Tells t (Break set u) (chosen_or_stale u o (unlearnt_or w (broken set u)))
breaks t u set None w = refl
breaks t u set (Some c) w = chosen_tells t (Break set u) _ (unlearnt_or w (broken set u)) (refused (refusal.Stale u.0)) (unlearnt_tells t u set w) refl

learnt : (t : Tid) (cap known kept : ℕ) (births : List ℕ) → Tells t (Learn births) (full_or_learnt cap known kept births)
learnt t cap known kept births = chosen_tells t (Learn births) _ (refused (refusal.Full cap)) _ refl refl

-- the entry of the answer to a command is the one that its reply tells
pub by_reply : (n m cap : ℕ) (sigs : List Sig) (t : Tid) (cmd : Command) (h : List Entry) → Tells t cmd (answer_by n m cap sigs t cmd h)
by_reply n m cap sigs t (Request l s) h =
    let cover : Option Named = named sigs h (edge_after t l s h) in
    let next : Answer = still_or (standing n m t.0 h) (yield_or_go t l s cover) in
    let held : Tells t (Request l s) (again_or t l s (count t.0 l.0 h) (hold t.0 l.0 h) next) =
    again_tells t (Request l s) l s (count t.0 l.0 h) (hold t.0 l.0 h) next refl (asked t l s (standing n m t.0 h) cover) in
    chosen_tells t (Request l s) (may_ask l s (mode t.0 h) (latest_wish t.0 h)) (again_or t l s (count t.0 l.0 h) (hold t.0 l.0 h) next) (refused (refusal.OutOfTurn (mode t.0 h))) held refl
by_reply n m cap sigs t (Acquire l) h = acquired t l _ _ _
by_reply n m cap sigs t (Release l) h = running_tells t (Release l) _ _ (released t l _)
by_reply n m cap sigs t (Try l s) h =
    let cover : Option Named = named sigs h (edge_after t l s h) in
    let next : Answer = miss_or t l s (holder n l.0 h) (avoid_or_took t l s cover) in
    let held : Tells t (Try l s) (again_or t l s (count t.0 l.0 h) (hold t.0 l.0 h) next) =
    again_tells t (Try l s) l s (count t.0 l.0 h) (hold t.0 l.0 h) next refl (tried t l s (holder n l.0 h) cover) in
    running_tells t (Try l s) (mode t.0 h) (again_or t l s (count t.0 l.0 h) (hold t.0 l.0 h) next) held
by_reply n m cap sigs t (End why) h = ended t why _
by_reply n m cap sigs t (Break set u) h = stale_tells t (Break set u) _ _ (breaks t u set _ _)
by_reply n m cap sigs t (Learn births) h = stale_tells t (Learn births) _ _ (known_tells t (Learn births) _ _ (learnt t cap (length sigs) _ births))

pub made_is : (c : Constants) (caller : ℕ) (cmd : Command) (h : List Entry) (r : Reply) (o : Option Entry) → r ≡ reply_of c caller cmd h → o ≡ entry_by record { 0 = caller } cmd r → entry_of c caller cmd h ≡ o
made_is c caller cmd h r o said is =
    sym (is ∙ ap (entry_by record { 0 = caller } cmd) said ∙ by_reply c.threads c.locks c.cap (known_sigs c.loaded c.depth h) record { 0 = caller } cmd h)

-- what is made is in range
pub made_in_range : (c : Constants) (caller : ℕ) (cmd : Command) (h : List Entry) (e : Entry) → MayGive c caller cmd → entry_of c caller cmd h ≡ Some e → IsInRange c.threads c.locks e
made_in_range c caller cmd h e may q = go cmd may (made c.threads c.locks c.cap sigs t h e cmd q)
  where
    sigs : List Sig
    sigs = known_sigs c.loaded c.depth h

    t : Tid
    t = record { 0 = caller }

    is : (x : Entry) → x ≡ e → IsInRange c.threads c.locks x → IsInRange c.threads c.locks e
    is x q p = subst (IsInRange c.threads c.locks) q p

    go : (cmd : Command) → MayGive c caller cmd → IsMade c.threads c.locks c.cap sigs t cmd h e → IsInRange c.threads c.locks e
    go (Request l s) may (inl (a, inl m)) = is _ m.0 may
    go (Request l s) may (inl (a, inr m)) = is _ m.1 may
    go (Request l s) may (inr w) = is _ w.1.0 may
    go (Acquire l) may m = is _ m.0 may
    go (Release l) may m = is _ m.0 may
    go (Try l s) may (a, inl w) = is _ w.0 may
    go (Try l s) may (a, inr (b, inl m)) = is _ m.0 may
    go (Try l s) may (a, inr (b, inr m)) = is _ m.1 may
    go (End why) may m = is _ m.0 may
    go (Break set u) may m = is _ m.0 (chosen choice_law set c.locks h c.threads u.0 m.2).below
    go (Learn births) may m = is _ m.0 tt

-- and fits
pub made_fits : (c : Constants) (caller : ℕ) (cmd : Command) (h : List Entry) (e : Entry) → AreInRange c.threads c.locks h → Fits h → MayGive c caller cmd → entry_of c caller cmd h ≡ Some e → FitsAfter h e
made_fits c caller cmd h e range fits may is = fits_after c h e range fits (made_legal c caller cmd h e may is (made_in_range c caller cmd h e may is))
