-- What the words behind a command's word give, by the way of the parser.
use Rattle.std.proofs.Common.{◌≡◌, ◌≢◌, ◌⊎◌, ◌∙◌, false, List, [], Option, Some, None, option_map, option_and_then, refl, sym, ap, subst, arith, inl, inr}
use Rattle.clap.specs.Words.{Text, fault_of}
use Rattle.dim_words.specs.declared.kind.Kind.{Kind}
use Rattle.dim_words.specs.declared.kind.Setting.TheVariants.{Fuel, Quantum, Depth, Seed, Workers, Attempts}
use Rattle.dim_words.specs.Words.{Parted, asked_by, command_by, history_place, nothing, parted}
use Rattle.dim_words.specs.Kept.{Kept, begun, kept, unmarked}
use Rattle.dim_words.specs.Grammar.{Found, IsFound, found_in, sub_rows, whole}
use Rattle.dim_words.specs.Found.{given_value, names_from, words_taken}
use Rattle.dim_words.proofs.Items.{Item, are_of, items, keep_items, kept_items, part_items, parted_items, some_is, some≢none}
use Rattle.dim_words.proofs.Walks.{names_of, rows_of, then_is, wanted_few}
use Rattle.dim_words.proofs.Level.{counts, finds, first_name, first_option, meets, passes}
use Rattle.dim_words.proofs.Taken.{Agree, made, merges}
use Rattle.dim_words.proofs.Restored.{restored}
use Rattle.dim_words.proofs.Refused.{bad_names, good_names, no_command, part_names, refused}

agree_start : Agree nothing unmarked
agree_start Fuel = refl
agree_start Quantum = refl
agree_start Depth = refl
agree_start Seed = refl
agree_start Workers = refl
agree_start Attempts = refl

command_is : (kind : Kind) (words : List Text) (is : List Item) → items kind words ≡ Some is → command_by kind words ≡ option_and_then (asked_by kind) (part_items nothing is)
command_is kind words is e = ap (option_and_then (asked_by kind)) (parted_items kind nothing words ∙ ap (option_and_then (part_items nothing)) e)

-- words that aren't kept are no command
pub not_kept : (kind : Kind) (words : List Text) → kept kind words ≡ None → None ≡ command_by kind words
not_kept kind words e = go (items kind words) refl
  where
    judged : (is : List Item) → (good_names (history_place kind) (names_of is) ≡ false) ⊎ (part_items nothing is ≡ None) → (o : Option Parted) → part_items nothing is ≡ o → option_and_then (asked_by kind) o ≡ None
    judged is h None at = refl
    judged is (inl bad) (Some q) at = bad_names kind q (ap (good_names (history_place kind)) (part_names is nothing q at) ∙ bad)
    judged is (inr none) (Some q) at = absurd (some≢none q (sym at ∙ none))

    go : (o : Option (List Item)) → items kind words ≡ o → None ≡ command_by kind words
    go None at = sym (ap (option_and_then (asked_by kind)) (parted_items kind nothing words ∙ ap (option_and_then (part_items nothing)) at))
    go (Some is) at =
        let none : keep_items (begun kind) is ≡ None = sym (kept_items kind (begun kind) words ∙ ap (option_and_then (keep_items (begun kind))) at) ∙ e in
        sym (command_is kind words is at ∙ judged is (refused is (begun kind) nothing none agree_start) (part_items nothing is) refl)

-- the items of words that are kept
kept_as : (kind : Kind) (words : List Text) (e : Kept) → kept kind words ≡ Some e → (is : List Item) × (items kind words ≡ Some is) × (keep_items (begun kind) is ≡ Some e)
kept_as kind words e h = then_is (items kind words) (keep_items (begun kind)) e (sym (kept_items kind (begun kind) words) ∙ h)

-- words that the parser refuses are no command
pub not_found : (kind : Kind) (words : List Text) (e : Kept) → kept kind words ≡ Some e → IsFound e.words None → None ≡ command_by kind words
not_found kind words e h not = let k = kept_as kind words e h in go k.0 k.1 k.2 not
  where
    go : (is : List Item) → items kind words ≡ Some is → keep_items (begun kind) is ≡ Some e → (fault_of whole e.words ≢ []) ⊎ (sub_rows e.words ≡ None) → None ≡ command_by kind words
    go is at all (inl fault) = sym (command_is kind words is at ∙ no_command kind is nothing refl (λ same. fault (passes kind is e all (are_of kind words is at) same)))
    go is at all (inr none) = absurd (meets kind is e all (are_of kind words is at) none)

-- and what it finds is what they give
pub found_gives : (kind : Kind) (words : List Text) (e : Kept) (f : Found) → kept kind words ≡ Some e → IsFound e.words (Some f) → words_taken f ≡ parted kind words
found_gives kind words e f h is_found =
    let k = kept_as kind words e h in
    let is : List Item = k.0 in
    let of = are_of kind words is k.1 in
    let same = counts kind is e k.2 of is_found.0 in
    let f_is : found_in (rows_of 0 is) ≡ f = some_is (found_in (rows_of 0 is)) f (sym (ap (option_map found_in) (finds kind is e k.2 of same)) ∙ is_found.1) in
    let names : names_from (found_in (rows_of 0 is)) ≡ names_of is =
    (λ i. names_in (first_name is 0 (omega arith) i) (first_name is 1 (omega arith) i) (first_name is 2 (omega arith) i) (first_name is 3 (omega arith) i))
    ∙ restored (names_of is) (omega (arith, same, wanted_few kind)) in
    sym (ap words_taken f_is)
    ∙ (λ i. made (λ t. given_value t (first_option is 0 t i)) (names i))
    ∙ sym (merges is nothing (begun kind) e k.2 agree_start)
    ∙ sym (parted_items kind nothing words ∙ ap (option_and_then (part_items nothing)) k.1)
  where
    names_in : Option Text → Option Text → Option Text → Option Text → List Text
    names_in a b c d = names_from (record { first = a; second = b; third = c; fourth = d; fuel = None; quantum = None; depth = None; seed = None; workers = None; attempts = None })

-- the same of the words that were handed on
pub not_found_in : (kind : Kind) (words : List Text) (e : Kept) (given : List Text) (o : Option Found) → kept kind words ≡ Some e → given ≡ e.words → o ≡ None → IsFound given o → None ≡ command_by kind words
not_found_in kind words e given o h same none is = not_found kind words e h (subst (λ ws. IsFound ws None) same (subst (λ x. IsFound given x) none is))

pub found_gives_in : (kind : Kind) (words : List Text) (e : Kept) (given : List Text) (o : Option Found) (f : Found) → kept kind words ≡ Some e → given ≡ e.words → o ≡ Some f → IsFound given o
    → words_taken f ≡ parted kind words
found_gives_in kind words e given o f h same some is = found_gives kind words e f h (subst (λ ws. IsFound ws (Some f)) same (subst (λ x. IsFound given x) some is))
