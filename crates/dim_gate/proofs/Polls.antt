-- What a poll and a release enter.
use Rattle.std.proofs.Common.{◌≡◌, ◌↔◌, ◌∙◌, Bool, true, false, refl, ap, sym, List, IsTrue}
use Rattle.std.specs.Prelude.{Option, Some, None, if◌then◌else◌}
use Rattle.std.proofs.lemmas.Bool.{false≢true}
use Rattle.dim_base.specs.declared.Tid.{Tid}
use Rattle.dim_base.specs.declared.Lid.{Lid}
use Rattle.dim_rag.specs.declared.command.Command.TheVariants.{Acquire, Release}
use Rattle.dim_rag.specs.declared.command.Reply.{Reply}
use Rattle.dim_rag.specs.declared.command.Reply.TheVariants as reply
use Rattle.dim_rag.specs.declared.entry.Entry.{Entry}
use Rattle.dim_rag.specs.declared.entry.Entry.TheVariants.{Got, Free}
use Rattle.dim_rag.specs.Made.{entry_by}
use Rattle.dim_gate.specs.Gate.{Constants}
use Rattle.dim_gate.specs.Answer.{entry_of, reply_of}
use Rattle.dim_gate.specs.Replies.{is_got, is_freed}
use Rattle.dim_gate.proofs.Replied.{made_is}

-- an entry or none, by a test
abbrev pub if_so : Entry → Bool → Option Entry
if_so e b = if b then Some e else None

got_by : (t : Tid) (l : Lid) (r : Reply) → entry_by t (Acquire l) r ≡ if_so (Got t l) (is_got r)
got_by t l reply.Go = refl
got_by t l (reply.Yield n) = refl
got_by t l reply.Got = refl
got_by t l (reply.Busy h) = refl
got_by t l (reply.Still i) = refl
got_by t l reply.Woken = refl
got_by t l reply.Freed = refl
got_by t l reply.Took = refl
got_by t l (reply.MissBusy h) = refl
got_by t l (reply.MissAvoid n) = refl
got_by t l reply.Ended = refl
got_by t l (reply.Broken u) = refl
got_by t l (reply.Learnt i) = refl
got_by t l (reply.Refused w) = refl

freed_by : (t : Tid) (l : Lid) (r : Reply) → entry_by t (Release l) r ≡ if_so (Free t l) (is_freed r)
freed_by t l reply.Go = refl
freed_by t l (reply.Yield n) = refl
freed_by t l reply.Got = refl
freed_by t l (reply.Busy h) = refl
freed_by t l (reply.Still i) = refl
freed_by t l reply.Woken = refl
freed_by t l reply.Freed = refl
freed_by t l reply.Took = refl
freed_by t l (reply.MissBusy h) = refl
freed_by t l (reply.MissAvoid n) = refl
freed_by t l reply.Ended = refl
freed_by t l (reply.Broken u) = refl
freed_by t l (reply.Learnt i) = refl
freed_by t l (reply.Refused w) = refl

module _ (c : Constants) (t : Tid) (l : Lid) (h : List Entry) (r : Reply) where
  -- what a poll enters, by the reply to it
  pub got : r ≡ reply_of c t.0 (Acquire l) h → entry_of c t.0 (Acquire l) h ≡ if_so (Got t l) (is_got r)
  got said = made_is c t.0 (Acquire l) h r (if_so (Got t l) (is_got r)) said (sym (got_by t l r))

  -- what a release enters
  pub freed : r ≡ reply_of c t.0 (Release l) h → entry_of c t.0 (Release l) h ≡ if_so (Free t l) (is_freed r)
  freed said = made_is c t.0 (Release l) h r (if_so (Free t l) (is_freed r)) said (sym (freed_by t l r))

module _ (o : Option Entry) (e : Entry) (b : Bool) (is : o ≡ if_so e b) where
  -- what is entered where the test holds
  pub so : b ≡ true → o ≡ Some e
  so q = is ∙ ap (if_so e) q

  -- and where it doesn't
  pub nothing : b ≡ false → o ≡ None
  nothing q = is ∙ ap (if_so e) q

  -- which is not this entry
  pub never : b ≡ false → IsTrue false ↔ (o ≡ Some e)
  never q = (λ f. absurd (false≢true f), λ k. absurd (let j : None ≡ Some e = sym (nothing q) ∙ k in cc))

  pub always : b ≡ true → IsTrue true ↔ (o ≡ Some e)
  always q = (λ f. so q, λ k. refl)
