-- How many names a history that was read has.
use Rattle.std.proofs.Common.{◌≡◌, ◌+◌, ◌≤◌, ◌*◌, ℕ, List, [], ◌∷◌, length, ap, arith}
use Rattle.std.specs.List.{AllByRecursion, flat_map}
use Rattle.std.specs.Ordering.{match_ordering}
use Rattle.std.specs.declared.cmp.Ordering.{Ordering}
use Rattle.std.specs.declared.cmp.Ordering.TheVariants.{Less, Equal, Greater}
use Rattle.std.proofs.lemmas.List.{length-append, length-map}
use Rattle.dim_stack.specs.Names.{name_cmp, table_of, with_name}
use Rattle.dim_history_file.specs.declared.history.History.{History}
use Rattle.dim_history_file.specs.Grammar.{IsStack, IsSignature, IsHistory}
use Rattle.dim_history_file.specs.Seen.{value_of}
use Rattle.dim_history_file.specs.Value.{NamedFrame, NamedSig, names_of_stack, names_used}
use Rattle.dim_merge.specs.Sources.{IsRead}

length-with_name : (name : List ℕ) (names : List (List ℕ)) → length (with_name name names) ≤ length names + 1
length-with_name name [] = omega arith
length-with_name name (x ∷ xs) = by (name_cmp name x) (length-with_name name xs)
  where
    by : (o : Ordering) → length (with_name name xs) ≤ length xs + 1 → length (match_ordering o (name ∷ x ∷ xs) (x ∷ xs) (x ∷ with_name name xs)) ≤ length (x ∷ xs) + 1
    by Less h = omega arith
    by Equal h = omega arith
    by Greater h = omega arith

length-table_of : (names : List (List ℕ)) → length (table_of names) ≤ length names
length-table_of [] = omega arith
length-table_of (name ∷ names) = omega (arith, length-with_name name (table_of names), length-table_of names)

few_of_stacks : (stacks : List (List NamedFrame)) → AllByRecursion IsStack stacks → length (flat_map names_of_stack stacks) ≤ 32 * length stacks
few_of_stacks [] a = omega arith
few_of_stacks (x ∷ xs) a =
    omega (arith, length-append (names_of_stack x) (flat_map names_of_stack xs), length-map x (λ (f : NamedFrame). f.name), a.0.few, few_of_stacks xs a.1)

few_used : (sigs : List NamedSig) → AllByRecursion IsSignature sigs → length (names_used sigs) ≤ 1024 * length sigs
few_used [] a = omega arith
few_used (s ∷ sigs) a =
    omega (arith, length-append (flat_map names_of_stack s.stacks) (names_used sigs), few_of_stacks s.stacks a.0.stacks, a.0.few, few_used sigs a.1)

few_names : (h : History) → h.names ≡ table_of (names_used (value_of h)) → IsHistory (value_of h) → length h.names ≤ 4194304
few_names h e k =
    let same : length h.names ≡ length (table_of (names_used (value_of h))) = ap length e in
    omega (arith, same, length-table_of (names_used (value_of h)), few_used (value_of h) k.signatures, k.few)

pub is_read : (h : History) → h.names ≡ table_of (names_used (value_of h)) → IsHistory (value_of h) → IsRead h
is_read h e k = record { few = few_names h e k; history = k }
