use Rattle.std.proofs.Common.{◌≡◌, ℕ, ◌+◌, ◌-◌, ◌*◌, ◌<◌, refl, ap, ap₂, sym, ◌∙◌, subst, List, ◌∷◌, ◌++◌, [], length, get_or, append-nil, append_assoc, arith}
use Rattle.std.proofs.lemmas.List.{get_or_default}
use Rattle.dim_predict.specs.declared.key.Key.{Key}
use Rattle.dim_predict.specs.declared.pairs.Found.{Found}
use Rattle.dim_predict.specs.Candidates.{is_opposed}
use Rattle.dim_predict.specs.Keys.{content_of}
use Rattle.dim_predict.specs.Pairs.{AreNumbers, IsOppositeOf, IsNextOf, IsSearched, stacks_at}
use Rattle.dim_predict.proofs.Repeats.{Stacks}
use Rattle.dim_predict.proofs.Searching.{noted}
use Rattle.dim_predict.proofs.Rowing.{IsAt, at_first, at_next, next_first, rest, rest_end, rest_first, rest_opposed, rest_other}
use Rattle.dim_predict.proofs.pairs.Found.row.Goals.{then-is_opposed+in_ok-note, else-is_opposed}
use Rattle.dim_predict.proofs.pairs.Found.row.Goals as goal

pub loop-j-init : goal.loop-j-init
loop-j-init c =
    let keys = c.args.keys.now in
    let i = c.args.i in
    let j = c.index-j.result.now in
    let links = c.args.links.now.opposite.items in
    let size = c.requires.links.opposites in
    let is : j ≡ get_or links i 0 = c.index-j.ensures ∙ get_or_default links i j 0 (let l = c.requires.first in omega (arith, l, size)) in
    let opposite : IsOppositeOf keys i j = subst (IsOppositeOf keys i) (sym is) (c.requires.links.opposite_is i (omega arith) c.requires.first) in
    record {
      numbers = refl;
      room = refl;
      at = λ d. at_first keys (get_or keys i d) i j c.requires.first (get_or_default keys i d (get_or keys i d) c.requires.first) opposite;
      step = λ loaded come d s. (
        [],
        subst (λ (xs : List Stacks). IsSearched loaded keys c.args.self.now.numbers.items xs c.args.self.now.seen.table.items c.args.self.now.pairs.items) (sym (append-nil come)) s,
        sym (rest_first keys (get_or keys i d) d (i + 1) j (opposite d)),
      );
    }

pub note-requires : goal.note-requires
note-requires c =
    let keys = c.args.keys.now in
    let inv = c.loop-j.invariant in
    let ns = c.loop-j.self.numbers.items in
    let n : AreNumbers keys (length keys) ns = subst (AreNumbers keys (length keys)) (sym inv.numbers) c.requires.numbers in
    let size = n.size in
    let first = c.requires.first in
    let second = c.loop-j-test.true in
    let a : get_or ns c.args.i 0 < length keys = n.below c.args.i first in
    let b : get_or ns c.loop-j.j 0 < length keys = n.below c.loop-j.j second in
    let room : length c.loop-j.self.seen.table.items ≡ length keys * 4096 = inv.room ∙ c.requires.room in
    let few = c.requires.few in
    record {
      first = omega (arith, first, size);
      second = omega (arith, second, size);
      low = omega (arith, a, few);
      low_other = omega (arith, b, few);
      room = omega (arith, a, b, room);
    }

pub loop-j-smaller : goal.loop-j-smaller
loop-j-smaller c =
    let keys = c.args.keys.now in
    let i = c.args.i in
    let j = c.loop-j.j in
    let n = c.index-j-in-loop-j.result.now in
    let links = c.args.links.now.next.items in
    let size = c.requires.links.nexts in
    let low = c.loop-j-test.true in
    let is : n ≡ get_or links j 0 = c.index-j-in-loop-j.ensures ∙ get_or_default links j n 0 (omega (arith, low, size)) in
    let next : IsNextOf keys j n = subst (IsNextOf keys j) (sym is) (c.requires.links.next_is j (omega arith) low) in
    let d = c.index-keys-j.result in
    let behind = (next_first keys (get_or keys i d) d i j n low (c.loop-j.invariant.at d) next).behind in
    let smaller : length keys - n < length keys - j = omega (arith, behind, low) in
    smaller

pub loop-j-preserved : goal.loop-j-preserved
loop-j-preserved c =
    let keys = c.args.keys.now in
    let i = c.args.i in
    let j = c.loop-j.j in
    let n = c.index-j-in-loop-j.result.now in
    let links = c.args.links.now.next.items in
    let numbers = c.args.self.now.numbers.items in
    let inv = c.loop-j.invariant in
    let size = c.requires.links.nexts in
    let low = c.loop-j-test.true in
    let is : n ≡ get_or links j 0 = c.index-j-in-loop-j.ensures ∙ get_or_default links j n 0 (omega (arith, low, size)) in
    let next : IsNextOf keys j n = subst (IsNextOf keys j) (sym is) (c.requires.links.next_is j (omega arith) low) in
    let tells : (d : Key) → is_opposed (content_of (get_or keys i d)) (content_of (get_or keys j d)) ≡ c.is_opposed.result = λ d.
    ap₂ (λ (x y : Key). is_opposed (content_of x) (content_of y)) (get_or_default keys i d c.index-keys-i.result c.requires.first ∙ sym c.index-keys-i.is) (get_or_default keys j d c.index-keys-j.result low ∙ sym c.index-keys-j.is) ∙ sym c.is_opposed.ensures in
    let at : (d : Key) → IsAt keys (get_or keys i d) i n = λ d. at_next keys (get_or keys i d) i j n (inv.at d) (next_first keys (get_or keys i d) d i j n low (inv.at d) next) in
    elim c.if-is_opposed.branch [
      | then-is_opposed+in_ok-note w ↦
          let e = w.in_ok-note.ensures in
          let f = w.note.new.self in
          record {
            numbers = ap (λ (x : Found). x.numbers.items) w.self-is ∙ e.kept ∙ inv.numbers;
            room = ap (λ (x : Found). length x.seen.table.items) w.self-is ∙ e.added.size ∙ inv.room;
            at = at;
            step = λ loaded come d s.
                let k = get_or keys i d in
                let r = inv.step loaded come d s in
                let x = stacks_at keys d i j in
                let first = next_first keys k d i j n low (inv.at d) next in
                let before = subst (λ ns. IsSearched loaded keys ns (come ++ r.0) c.loop-j.self.seen.table.items c.loop-j.self.pairs.items) (sym inv.numbers) r.1 in
                let ns = c.loop-j.self.numbers.items in
                let now = noted loaded keys ns c.requires.few (subst (AreNumbers keys (length keys)) (sym inv.numbers) c.requires.numbers) (come ++ r.0) c.loop-j.self.seen.table.items f.seen.table.items c.loop-j.self.pairs.items i j d c.requires.first low before e.added f.pairs.items e.pairs in
                let after = subst (λ (zs : List ℕ). IsSearched loaded keys zs ((come ++ r.0) ++ x ∷ []) f.seen.table.items f.pairs.items) inv.numbers now in
                let moved = subst (λ (xs : List Stacks). IsSearched loaded keys numbers xs f.seen.table.items f.pairs.items) (append_assoc come r.0 (x ∷ [])) after in (
                  r.0 ++ x ∷ [],
                  subst (λ (y : Found). IsSearched loaded keys numbers (come ++ (r.0 ++ x ∷ [])) y.seen.table.items y.pairs.items) (sym w.self-is) moved,
                  append_assoc r.0 (x ∷ []) (rest keys k n)
                      ∙ ap (λ (xs : List Stacks). r.0 ++ xs) (sym (rest_opposed keys k d j low (tells d ∙ w.if-is_opposed.true) ∙ ap (λ (xs : List Stacks). x ∷ xs) (rest_first keys k d (j + 1) n first)))
                      ∙ r.2,
                );
          }
      | else-is_opposed w ↦ record {
        numbers = ap (λ (x : Found). x.numbers.items) w.self-is ∙ inv.numbers;
        room = ap (λ (x : Found). length x.seen.table.items) w.self-is ∙ inv.room;
        at = at;
        step = λ loaded come d s.
            let k = get_or keys i d in
            let r = inv.step loaded come d s in
            let first = next_first keys k d i j n low (inv.at d) next in (
              r.0,
              subst (λ (y : Found). IsSearched loaded keys numbers (come ++ r.0) y.seen.table.items y.pairs.items) (sym w.self-is) r.1,
              ap (λ (xs : List Stacks). r.0 ++ xs) (sym (rest_other keys k d j low (tells d ∙ w.if-is_opposed.false) ∙ rest_first keys k d (j + 1) n first)) ∙ r.2,
            );
      }
    ]

pub returns-clause-step : goal.returns-clause-step
returns-clause-step c = λ loaded come d s.
    let keys = c.args.keys.now in
    let k = get_or keys c.args.i d in
    let r = c.loop-j.invariant.step loaded come d s in
    let all : r.0 ≡ rest keys k (c.args.i + 1) = sym (append-nil r.0) ∙ ap (λ (xs : List Stacks). r.0 ++ xs) (sym (rest_end keys k c.loop-j.j c.loop-j-test.false)) ∙ r.2 in
    subst (λ (xs : List Stacks). IsSearched loaded keys c.args.self.now.numbers.items (come ++ xs) c.loop-j.self.seen.table.items c.loop-j.self.pairs.items) all r.1
