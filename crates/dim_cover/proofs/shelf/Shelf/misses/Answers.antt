use Rattle.std.proofs.Common.{◌≡◌, ◌++◌, ◌∷◌, [], ◌∙◌, ℕ, List, true, ap, sym, subst, take}
use Rattle.std.specs.Prelude.{Some, None}
use Rattle.dim_stack.specs.declared.Frame.{Frame}
use Rattle.dim_rag.specs.declared.entry.Edge.{Edge}
use Rattle.dim_cover.specs.Best.{HasCover}
use Rattle.dim_cover.specs.Shelf.{IsPlaced, bucket}
use Rattle.dim_cover.proofs.Best.{best_is, near}
use Rattle.dim_cover.proofs.Switched.{on_some}
use Rattle.dim_cover.proofs.shelf.Shelf.misses.Goals as goal

pub returns : goal.returns
returns c = λ seen edges new sigs on_shelf sorted same.
    let es : List Edge = edges ++ new ∷ [] in
    let shelf = c.args.self.now in
    let none : (n : ℕ) → HasCover es new.birth sigs n → ⊥ = λ n h.
    let w = near edges new h.sig sorted h.births h.cover_is in
    let on : h.sig.on ≡ true = (on_some es new.birth h.sig h.births h.cover_is).0 in
    let within = on_shelf.bounded n h.sig h.sig_is on in
    let placed : IsPlaced shelf.places.items n (bucket (take h.sig.depth w.stack)) = on_shelf.listed n h.sig h.sig_is on w.place w.stack w.at in
    let key : bucket (take h.sig.depth w.stack) ≡ bucket (take h.sig.depth c.args.stack.now) = ap (λ (f : List Frame). bucket f) (sym w.same) ∙ ap (λ (s : List Frame). bucket (take h.sig.depth s)) same in
    c.is_vacant.ensures seen h.sig.depth within.0 within.1 (on_shelf.depths n h.sig h.sig_is on) n (subst (λ b. IsPlaced shelf.places.items n b) key placed) in
    sym (best_is es new.birth sigs None (λ x q. absurd (let j : None ≡ Some x = q in cc)) (λ n h. absurd (none n h)))
