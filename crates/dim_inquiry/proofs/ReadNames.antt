-- How many names a history that was read has.
use Rattle.std.proofs.Common.{◌≡◌, ◌≤◌, ◌*◌, List, [], ◌∷◌, length, ap, arith}
use Rattle.std.specs.List.{AllByRecursion, flat_map}
use Rattle.std.proofs.lemmas.List.{length-append, length-map}
use Rattle.dim_stack.specs.Names.{table_of}
use Rattle.dim_asm.proofs.Exports.{length-table_of}
use Rattle.dim_history_file.specs.declared.history.History.{History}
use Rattle.dim_history_file.specs.Grammar.{AreNear, IsStack, IsSignature, IsHistory}
use Rattle.dim_history_file.specs.Seen.{value_of}
use Rattle.dim_history_file.specs.Value.{NamedFrame, NamedSig, names_of_stack, names_used}
use Rattle.dim_inquiry.specs.Inputs.{IsRead}

few_of_stacks : (stacks : List (List NamedFrame)) → AllByRecursion IsStack stacks → length (flat_map names_of_stack stacks) ≤ 32 * length stacks
few_of_stacks [] a = omega arith
few_of_stacks (x ∷ xs) a =
    omega (arith, length-append (names_of_stack x) (flat_map names_of_stack xs), length-map x (λ (f : NamedFrame). f.name), a.0.few, few_of_stacks xs a.1)

few_used : (sigs : List NamedSig) → AllByRecursion IsSignature sigs → length (names_used sigs) ≤ 1024 * length sigs
few_used [] a = omega arith
few_used (s ∷ sigs) a =
    omega (arith, length-append (flat_map names_of_stack s.stacks) (names_used sigs), few_of_stacks s.stacks a.0.stacks, a.0.few, few_used sigs a.1)

few_names : (h : History) → h.names ≡ table_of (names_used (value_of h)) → IsHistory (value_of h) → length h.names ≤ 4194304
few_names h e k =
    let same : length h.names ≡ length (table_of (names_used (value_of h))) = ap length e in
    omega (arith, same, length-table_of (names_used (value_of h)), few_used (value_of h) k.signatures, k.few)

pub is_read : (h : History) → h.names ≡ table_of (names_used (value_of h)) → IsHistory (value_of h) → AreNear h.catalogue.sigs → IsRead h
is_read h e k n = record { names = e; few = few_names h e k; near = n }
