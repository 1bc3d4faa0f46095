use Rattle.std.proofs.Common.{◌≡◌, ◌≤◌, ◌+◌, ◌∷◌, [], ◌++◌, ◌∙◌, ℕ, List, refl, ap, sym, subst, length, arith}
use Rattle.std.specs.Prelude.{Option}
use Rattle.std.specs.Option.{option_to_list}
use Rattle.std.proofs.lemmas.List.{length-append, length-reverse, append-nil}
use Rattle.dim_rag.specs.declared.entry.Edge.{Edge}
use Rattle.dim_rag.specs.declared.entry.Entry.{Entry}
use Rattle.dim_rag.specs.declared.entry.Entry.TheVariants.{Free}
use Rattle.dim_rag.specs.History.{past}
use Rattle.dim_rag.specs.Shown.{HasStack, shown}
use Rattle.dim_rag.specs.Born.{AreByBirth, all_edges, edge_after}
use Rattle.dim_rag.proofs.Exports.{edges_law as law}
use Rattle.dim_cover.specs.Change.{changed, ended, granted, edge_taken, without_any, broken_out}
use Rattle.dim_cover.proofs.Bound.{room_for}
use Rattle.dim_cover.proofs.Changed.{change_law}
use Rattle.dim_cover.proofs.Quiet.{shows_quiet}
use Rattle.dim_cover.proofs.index.Index.tell_ref.Goals as goal

pub returns-in-Go : goal.returns-in-Go
returns-in-Go c =
    let b = c.args.before.now in
    let h = past b.entries in
    let law = change_law b.threads b.locks h (shown c.args.e.now) c.len-birth.ensures.fits c.len-birth.ensures.in_range c.requires.in_range c.requires.fits in
    let new : Edge = record { t = c.in-Go.t; l = c.in-Go.l; stack = c.in-Go.stack.now; birth = c.len-birth.result } in
    let is : all_edges h ++ new ∷ [] ≡ changed h (shown c.args.e.now) (all_edges h) =
    subst (λ (e : Entry). all_edges h ++ new ∷ [] ≡ changed h e (all_edges h)) (sym (ap shown c.in-Go.is)) (ap (λ n. all_edges h ++ record { t = c.in-Go.t; l = c.in-Go.l; stack = c.in-Go.stack.now; birth = n } ∷ []) (c.len-birth.ensures.len ∙ sym (length-reverse b.entries))) in
    c.add.ensures ∙ ap (λ (es : List Edge). record { room = c.args.self.now.room; edges = es }) (ap (λ (es : List Edge). es ++ new ∷ []) c.requires.edges ∙ is ∙ sym law)

pub returns-in-Took : goal.returns-in-Took
returns-in-Took c =
    let b = c.args.before.now in
    let h = past b.entries in
    let law = change_law b.threads b.locks h (shown c.args.e.now) c.len-birth.ensures.fits c.len-birth.ensures.in_range c.requires.in_range c.requires.fits in
    let new : Option Edge = edge_taken c.in-Took.t c.in-Took.l c.in-Took.stack.now h in
    let is : all_edges h ++ option_to_list new ≡ changed h (shown c.args.e.now) (all_edges h) =
    subst (λ (e : Entry). all_edges h ++ option_to_list new ≡ changed h e (all_edges h)) (sym (ap shown c.in-Took.is)) refl in
    c.add_taken.ensures ∙ ap (λ (es : List Edge). record { room = c.args.self.now.room; edges = es }) (ap (λ (es : List Edge). es ++ option_to_list new) c.requires.edges ∙ is ∙ sym law)

pub returns-in-Free : goal.returns-in-Free
returns-in-Free c =
    let b = c.args.before.now in
    let h = past b.entries in
    let law = change_law b.threads b.locks h (shown c.args.e.now) c.len-birth.ensures.fits c.len-birth.ensures.in_range c.requires.in_range c.requires.fits in
    let is : without_any c.freed.result (all_edges h) ≡ changed h (shown c.args.e.now) (all_edges h) =
    subst (λ (e : Entry). without_any c.freed.result (all_edges h) ≡ changed h e (all_edges h)) (sym (ap shown c.in-Free.is))
    (ap (λ (o : Option ℕ). without_any o (all_edges h)) c.freed.ensures ∙ ap (without_any (ended h (Free c.in-Free.t c.in-Free.l))) (sym (append-nil (all_edges h)))) in
    c.remove_any.ensures ∙ ap (λ (es : List Edge). record { room = c.args.self.now.room; edges = es }) (ap (without_any c.freed.result) c.requires.edges ∙ is ∙ sym law)

pub returns-in-Break : goal.returns-in-Break
returns-in-Break c =
    let b = c.args.before.now in
    let h = past b.entries in
    let law = change_law b.threads b.locks h (shown c.args.e.now) c.len-birth.ensures.fits c.len-birth.ensures.in_range c.requires.in_range c.requires.fits in
    let is : all_edges h ++ option_to_list (broken_out c.in-Break.t h) ≡ changed h (shown c.args.e.now) (all_edges h) =
    subst (λ (e : Entry). all_edges h ++ option_to_list (broken_out c.in-Break.t h) ≡ changed h e (all_edges h)) (sym (ap shown c.in-Break.is)) refl in
    c.add_broken_out.ensures ∙ ap (λ (es : List Edge). record { room = c.args.self.now.room; edges = es }) (ap (λ (es : List Edge). es ++ option_to_list (broken_out c.in-Break.t h)) c.requires.edges ∙ is ∙ sym law)

pub returns-in_default : goal.returns-in_default
returns-in_default c =
    let b = c.args.before.now in
    let h = past b.entries in
    let law = change_law b.threads b.locks h (shown c.args.e.now) c.len-birth.ensures.fits c.len-birth.ensures.in_range c.requires.in_range c.requires.fits in
    let other = c.in_default in
    ap (λ (es : List Edge). record { room = c.args.self.now.room; edges = es })
    (c.requires.edges ∙ shows_quiet c.args.e.now h (all_edges h) other.not-Go other.not-Took other.not-Break other.not-Free ∙ sym law)

pub add-requires-clause-room : goal.add-requires-clause-room
add-requires-clause-room c =
    let b = c.args.before.now in
    let h = past b.entries in
    let room = room_for b.threads b.locks h (shown c.args.e.now) c.len-birth.ensures.fits c.len-birth.ensures.in_range c.requires.in_range c.requires.fits in
    let one : length (all_edges h ++ edge_after c.in-Go.t c.in-Go.l c.in-Go.stack.now h ∷ []) ≤ b.threads + b.locks =
    subst (λ (e : Entry). length (all_edges h ++ option_to_list (granted h e)) ≤ b.threads + b.locks) (ap shown c.in-Go.is) room in
    let counted = length-append (all_edges h) (edge_after c.in-Go.t c.in-Go.l c.in-Go.stack.now h ∷ []) in
    let same : length c.args.self.now.edges ≡ length (all_edges h) = ap length c.requires.edges in
    omega (arith, one, counted, same, c.requires.room)

pub remove_any-requires : goal.remove_any-requires
remove_any-requires c = subst AreByBirth (sym c.requires.edges) (law.by_birth (past c.args.before.now.entries))

pub add_taken-requires-clause-room : goal.add_taken-requires-clause-room
add_taken-requires-clause-room c =
    let b = c.args.before.now in
    let h = past b.entries in
    let new : Option Edge = edge_taken c.in-Took.t c.in-Took.l c.in-Took.stack.now h in
    let room = room_for b.threads b.locks h (shown c.args.e.now) c.len-birth.ensures.fits c.len-birth.ensures.in_range c.requires.in_range c.requires.fits in
    let one : length (all_edges h ++ option_to_list new) ≤ b.threads + b.locks =
    subst (λ (e : Entry). length (all_edges h ++ option_to_list (granted h e)) ≤ b.threads + b.locks) (ap shown c.in-Took.is) room in
    subst (λ (es : List Edge). length (es ++ option_to_list new) ≤ c.args.self.now.room) (sym c.requires.edges)
    (subst (λ n. length (all_edges h ++ option_to_list new) ≤ n) (sym c.requires.room) one)

pub add_broken_out-requires-clause-room : goal.add_broken_out-requires-clause-room
add_broken_out-requires-clause-room c =
    let b = c.args.before.now in
    let h = past b.entries in
    let room = room_for b.threads b.locks h (shown c.args.e.now) c.len-birth.ensures.fits c.len-birth.ensures.in_range c.requires.in_range c.requires.fits in
    let broken : length (all_edges h ++ option_to_list (broken_out c.in-Break.t h)) ≤ b.threads + b.locks =
    subst (λ (e : Entry). length (all_edges h ++ option_to_list (granted h e)) ≤ b.threads + b.locks) (ap shown c.in-Break.is) room in
    subst (λ (es : List Edge). length (es ++ option_to_list (broken_out c.in-Break.t h)) ≤ c.args.self.now.room) (sym c.requires.edges)
    (subst (λ n. length (all_edges h ++ option_to_list (broken_out c.in-Break.t h)) ≤ n) (sym c.requires.room) broken)

pub add-requires-clause-some : goal.add-requires-clause-some
add-requires-clause-some c = (subst HasStack c.in-Go.is c.requires.stack).0

pub add-requires-clause-few : goal.add-requires-clause-few
add-requires-clause-few c = (subst HasStack c.in-Go.is c.requires.stack).1

pub add_taken-requires-clause-some : goal.add_taken-requires-clause-some
add_taken-requires-clause-some c = (subst HasStack c.in-Took.is c.requires.stack).0

pub add_taken-requires-clause-few : goal.add_taken-requires-clause-few
add_taken-requires-clause-few c = (subst HasStack c.in-Took.is c.requires.stack).1
