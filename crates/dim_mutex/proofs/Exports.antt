-- What crates that use the locks cite.
use Rattle.std.proofs.Common.{◌≡◌, ℕ, ◌<◌, ◌++◌, ap, sym, ◌∙◌, subst, List, length, take, get_or, arith}
use Rattle.std.specs.Prelude.{slice_get, Some}
use Rattle.std.proofs.lemmas.Option.{slice_get_within, slice_get-get_or, get_or_from_slice_get}
use Rattle.std.proofs.lemmas.List.{take-append-le, take_all}
use Rattle.dim_mutex.specs.Views.{DomainView, CallerView, IsCallerOf, AreCallersOf}

-- where each of a domain's callers, in its place, stays a caller with its number, they are all its
-- callers still
pub all_back : (d : DomainView) (n : ℕ) (old new rest : List CallerView) → AreCallersOf d old → n ≡ length old → length new ≡ length old
    → ((i : ℕ) (x : CallerView) → i < length old → IsCallerOf d (get_or new i x) × ((get_or new i x).known.number ≡ (get_or old i x).known.number))
    → AreCallersOf d (take n (new ++ rest))
all_back d n old new rest all few same each = record { all = ap length written ∙ same ∙ all.all; each = back }
  where
    written : take n (new ++ rest) ≡ new
    written = take-append-le n new rest (omega (arith, few, same)) ∙ take_all n new (omega (arith, few, same))

    back : (i : ℕ) (c : CallerView) → slice_get (take n (new ++ rest)) i ≡ Some c → IsCallerOf d c × (c.known.number ≡ i)
    back i c at =
        let here : slice_get new i ≡ Some c = ap (λ xs. slice_get xs i) (sym written) ∙ at in
        let within = slice_get_within new i c here in
        let low : i < length old = omega (arith, within, same) in
        let is : get_or new i c ≡ c = get_or_from_slice_get new i c c here in
        let e = each i c low in
        (subst (IsCallerOf d) is e.0, ap (λ (x : CallerView). x.known.number) (sym is) ∙ (e.1 ∙ (all.each i (get_or old i c) (slice_get-get_or old i c low)).1))
