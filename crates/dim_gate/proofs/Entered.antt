-- What a gate enters by an answer.
use Rattle.std.proofs.Common.{◌≡◌, ◌∙◌, ℕ, ap, sym, subst, List}
use Rattle.std.specs.Prelude.{Option, Some, None, option_map}
use Rattle.dim_rag.specs.declared.command.Command.{Command}
use Rattle.dim_rag.specs.declared.command.Reply.{Reply}
use Rattle.dim_rag.specs.declared.entry.Entry.{Entry}
use Rattle.dim_rag.specs.declared.entry_ref.EntryRef.{EntryRef}
use Rattle.dim_rag.specs.Fits.{Fits, AreInRange, FitsAfter, IsInRange}
use Rattle.dim_rag.specs.Made.{entry_by}
use Rattle.dim_rag.specs.Shown.{shown}
use Rattle.dim_rag.specs.History.{past}
use Rattle.dim_rag.specs.Tables.{Replay}
use Rattle.dim_gate.specs.declared.knowledge.Knowledge.{Knowledge}
use Rattle.dim_gate.specs.FeedId.{FeedId}
use Rattle.dim_gate.specs.Gate.{Constants, Gate, constants, gate_at}
use Rattle.dim_gate.specs.Answer.{entry_of, reply_of, MayGive}
use Rattle.dim_gate.specs.Legal.{IsLegalAfter}
use Rattle.dim_gate.proofs.Legal.{made_legal}
use Rattle.dim_gate.proofs.Replied.{made_is, made_fits, made_in_range}

-- the entry of the answer is this one, which is legal and fits
pub record IsEntered (c : Constants) (caller : ℕ) (cmd : Command) (h : List Entry) (e : Entry) : Type 0 where
  pub is : entry_of c caller cmd h ≡ Some e
  pub legal : IsLegalAfter c h e
  pub fits : FitsAfter h e

-- so is the one that the reply tells
pub entered : (c : Constants) (caller : ℕ) (cmd : Command) (h : List Entry) (r : Reply) (o : Option EntryRef) (e : EntryRef) → AreInRange c.threads c.locks h → Fits h → MayGive c caller cmd
    → r ≡ reply_of c caller cmd h → option_map shown o ≡ entry_by record { 0 = caller } cmd r → o ≡ Some e → IsEntered c caller cmd h (shown e)
entered c caller cmd h r o e range fits may said by is =
    let made : entry_of c caller cmd h ≡ Some (shown e) = made_is c caller cmd h r (Some (shown e)) said (sym (ap (option_map shown) is) ∙ by) in
    let within : IsInRange c.threads c.locks (shown e) = made_in_range c caller cmd h (shown e) may made in
    record {
      is = made;
      legal = made_legal c caller cmd h (shown e) may made within;
      fits = made_fits c caller cmd h (shown e) range fits may made;
    }

-- the same of a gate, by what it replays and knows, where what was decided is by what was seen of it
pub told : (r : Replay) (k : Knowledge) (feed : Option FeedId) (g : Gate) (caller : ℕ) (cmd : Command) (answer : Reply) (o : Option EntryRef) (e : EntryRef) → gate_at r k feed ≡ g → MayGive (constants g) caller cmd
    → AreInRange r.threads r.locks (past r.entries) → Fits (past r.entries) → (seen : Replay) → seen ≡ r → answer ≡ reply_of (constants (gate_at seen k None)) caller cmd (past seen.entries)
    → option_map shown o ≡ entry_by record { 0 = caller } cmd answer → o ≡ Some e → IsEntered (constants (gate_at r k None)) caller cmd (past r.entries) (shown e)
told r k feed g caller cmd answer o e view may range fits seen same said by is =
    entered (constants (gate_at r k None)) caller cmd (past r.entries) answer o e range fits
    (subst (λ (x : Gate). MayGive (constants x) caller cmd) (sym view) may)
    (subst (λ (x : Replay). answer ≡ reply_of (constants (gate_at x k None)) caller cmd (past x.entries)) same said)
    by is
