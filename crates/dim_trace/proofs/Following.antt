-- Whether Learns of starvations are followed by their Breaks, entry by entry.
use Rattle.std.proofs.Common.{◌≡◌, ℕ, ◌+◌, Bool, ◌&&◌, ap, ap₂, sym, ◌∙◌, subst, List, ◌∷◌}
use Rattle.std.specs.Prelude.{Option, Some, slice_get}
use Rattle.dim_rag.specs.declared.entry.Entry.{Entry}
use Rattle.dim_rag.specs.History.{past}
use Rattle.dim_rag.specs.Tables.{Replay}
use Rattle.dim_rag.proofs.Exports.{past_more}
use Rattle.dim_gate.specs.Gate.{Gate, gate_after, replay}
use Rattle.dim_gate.specs.Settled.{is_followed, are_followed}

-- one entry more is followed, or not, by the one behind it
pub goes_on : (g g2 : Gate) (t : Replay) (entries : List Entry) (place : ℕ) (e : Entry) (b f f2 : Bool) → t ≡ replay g → slice_get entries place ≡ Some e
    → b ≡ is_followed t.threads t.locks (past t.entries) (slice_get entries (place + 1)) e → f ≡ are_followed g.threads g.locks (slice_get entries place) (past g.entries)
    → f2 ≡ (b && f) → g2 ≡ gate_after g (Some e) → f2 ≡ are_followed g2.threads g2.locks (slice_get entries (place + 1)) (past g2.entries)
goes_on g g2 t entries place e b f f2 same read said was joined longer =
    let next : Option Entry = slice_get entries (place + 1) in
    let here : b ≡ is_followed g.threads g.locks (past g.entries) next e = subst (λ (x : Replay). b ≡ is_followed x.threads x.locks (past x.entries) next e) same said in
    let before : f ≡ are_followed g.threads g.locks (Some e) (past g.entries) = subst (λ (o : Option Entry). f ≡ are_followed g.threads g.locks o (past g.entries)) read was in
    let all : f2 ≡ are_followed g.threads g.locks next (e ∷ past g.entries) = joined ∙ ap₂ (λ (x y : Bool). x && y) here before in
    subst (λ (x : Gate). f2 ≡ are_followed x.threads x.locks next (past x.entries)) (sym longer) (all ∙ ap (are_followed g.threads g.locks next) (sym (past_more g.entries e)))
