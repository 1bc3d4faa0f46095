use Rattle.std.proofs.Common.{ℕ, ◌<◌, ◌||◌, refl, ap₂, sym, ◌∙◌, subst, subst₂, [], List, length, get_or, arith}
use Rattle.dim_predict.specs.declared.key.Key.{Key}
use Rattle.dim_predict.specs.declared.places.Places.{Places}
use Rattle.dim_predict.specs.Numbered.{IsNumberedTo}
use Rattle.dim_predict.specs.Pairs.{AreNumbers, IsSearched, stack_at}
use Rattle.dim_predict.proofs.Loaded.{are_told}
use Rattle.dim_predict.proofs.Numbering.{are_numbers}
use Rattle.dim_predict.proofs.pairs.Found.new.Goals as goal

pub see_known-requires-clause-numbers : goal.see_known-requires-clause-numbers
see_known-requires-clause-numbers c = λ s n e. (let low = (c.in_ok-numbers.ensures.first s n e).0 in low)

pub returns-clause-numbers : goal.returns-clause-numbers
returns-clause-numbers c =
    let keys = c.args.keys.now in
    let n = c.in_ok-numbers.numbers in
    subst (AreNumbers keys (length keys)) (sym c.into_list.ensures) (are_numbers keys n.firsts n.list.items (length keys) (omega arith) c.in_ok-numbers.ensures)

pub returns-clause-searched : goal.returns-clause-searched
returns-clause-searched c =
    let keys = c.args.keys.now in
    let sigs = c.args.catalogue.now.sigs in
    let few = c.requires in
    let numbers = c.in_ok-numbers.numbers in
    let n : IsNumberedTo keys (length keys) numbers.firsts numbers.list.items = c.in_ok-numbers.ensures in
    let low : (k : ℕ) (d : Key) → k < length keys → get_or numbers.list.items k 0 < 4096 = λ k d l. (let b : get_or numbers.list.items k 0 < length keys = (n.first (stack_at keys k d) (get_or numbers.list.items k 0) (n.known k d l)).0 in omega (arith, b, few)) in
    let table = c.see_known.new.seen.table.items in
    let none = c.new-2.ensures.items in
    subst₂ (λ (ns : List ℕ) (ps : List Places). IsSearched sigs keys ns [] table ps) (sym c.into_list.ensures) (sym none) record {
      size = c.see_known.ensures.room ∙ c.in_ok-seen.ensures.size;
      found_is = λ d. refl;
      within = λ k d l. absurd (omega (arith, l));
      come_is = λ i j d l m.
          c.see_known.ensures.seen (get_or numbers.list.items i 0) (get_or numbers.list.items j 0) (low i d l) (low j d m)
          ∙ ap₂ (λ p q. p || q) (are_told keys numbers.firsts numbers.list.items few n i j d l m sigs c.len-known.ensures.catalogue.sorted) (c.in_ok-seen.ensures.empty (get_or numbers.list.items i 0) (get_or numbers.list.items j 0));
    }
