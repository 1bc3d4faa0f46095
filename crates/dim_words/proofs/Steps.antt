-- What the parser makes of a name, and of an option with its value.
use Rattle.std.proofs.Common.{◌≡◌, ◌∙◌, ◌++◌, ◌+◌, ◌<◌, ◌&&◌, ◌||◌, not, ℕ, zero, suc, Bool, true, false, true≢false, min, List, [], ◌∷◌, Option, Some, None, refl, sym, ap, subst, codes, bytes_eq, arith, if◌then◌else◌, nat_lt}
use Rattle.std.specs.Option.{option_map_or}
use Rattle.std.proofs.lemmas.Slice.Eq.{bytes_eq-Decides}
use Rattle.clap.specs.Words.{Row, Rule, Text, Shape}
use Rattle.clap.specs.Lexer.{long_of, short_of, usize_max}
use Rattle.clap.specs.Simple.{filled, with_index}
use Rattle.clap.specs.Kinds.{or_else}
use Rattle.clap.specs.Walk.{Held, Waiting, Walk, after_flag, after_step, arg_by_id, arg_by_index, arg_by_long, at_row, has_row, idle, is_pending, long_met, long_or_other, more_values, next, option, option_word as option_takes, plain_word, pushed, reading_by, settled, settled_rows, short_or_plain, subcommand_met, subcommand_or_other, to_positional, trailing, used, walked, with_values, without, word_met}
use Rattle.clap.specs.Faults.{flag_word_fault, long_fault, other_fault, positional_fault, settle_fault, step_fault, stray_fault, turn_fault, use_fault, word_fault, bundle_fault}
use Rattle.clap.specs.declared.parser.matches.ValueSource.TheVariants.{CommandLine}
use Rattle.clap.specs.declared.error.kind.ErrorKind.TheVariants.{ArgumentConflict}
use Rattle.dim_words.specs.declared.kind.Setting.{Setting}
use Rattle.dim_words.specs.declared.kind.Setting.TheVariants.{Fuel, Quantum, Depth, Seed, Workers, Attempts}
use Rattle.dim_words.specs.Words.{is_dash}
use Rattle.dim_words.specs.Kept.{is_dashed, is_here, may_stand}
use Rattle.dim_words.specs.Grammar.{name_rule, option_id, option_rule}
use Rattle.dim_words.proofs.Items.{option_word}

-- the ids of the names
abbrev pub name_id : ℕ → Text
name_id zero = codes "first"
name_id (suc zero) = codes "second"
name_id (suc (suc zero)) = codes "third"
name_id (suc (suc (suc n))) = codes "fourth"

-- the rules as they are built
abbrev pub built_option : Text → Rule
built_option id = filled (option_rule id)

abbrev pub built_name : ℕ → Rule
built_name i = with_index (suc i) (filled (name_rule (name_id i)))

abbrev pub held_at : List Row → Option (Text × List Text) → Held
held_at rows p = record { rows = rows; pending = p; skip = 0 }

abbrev pub walk_on : Held → Waiting → ℕ → Walk
walk_on h waiting n = record { held = h; waiting = waiting; position = n; is_trailing = false; stopped = None }

abbrev pub walk_at : List Row → Option (Text × List Text) → ℕ → Walk
walk_at rows p place = walk_on (held_at rows p) idle (suc place)

-- ---- words that begin with no dash

no_dashes : (u : Text) → is_dashed u ≡ false → bytes_eq u (45 ∷ 45 ∷ []) ≡ false
no_dashes [] e = refl
no_dashes (x ∷ xs) e = ap (λ b. b && bytes_eq xs (45 ∷ [])) e

no_long : (u : Text) → is_dashed u ≡ false → long_of u ≡ None
no_long [] e = refl
no_long (x ∷ xs) e = ap (λ b. Rattle.std.specs.Prelude.option_and_then Rattle.clap.specs.Lexer.long_of_rest (Rattle.std.specs.Prelude.option_and_then (Rattle.clap.specs.Lexer.strip_byte 45) (if b then Some xs else None))) e

no_short : (u : Text) → is_dashed u ≡ false → short_of u ≡ None
no_short [] e = refl
no_short (x ∷ xs) e = ap (λ b. Rattle.std.specs.Prelude.option_and_then Rattle.clap.specs.Lexer.short_of_rest (if b then Some xs else None)) e

-- a word that the parser takes as it stands
pub record IsPlain (u : Text) : Type 0 where
  pub dashes : bytes_eq u (45 ∷ 45 ∷ []) ≡ false
  pub long : long_of u ≡ None
  pub short : short_of u ≡ None

pub undashed_plain : (u : Text) → is_dashed u ≡ false → IsPlain u
undashed_plain u e = record { dashes = no_dashes u e; long = no_long u e; short = no_short u e }

dash_plain : IsPlain (codes "-")
dash_plain = record { dashes = refl; long = refl; short = refl }

-- a word that may be a name
pub name_plain : (u : Option ℕ) (w : Text) → may_stand u w ≡ true → IsPlain w
name_plain u w e = go (is_dashed w) (is_dash w) refl refl e
  where
    go : (a b : Bool) → is_dashed w ≡ a → is_dash w ≡ b → (not a || (b && is_here u)) ≡ true → IsPlain w
    go false b dashed dash e = undashed_plain w dashed
    go true true dashed dash e = subst IsPlain (sym ((bytes_eq-Decides w (codes "-")).0 dash)) dash_plain
    go true false dashed dash e = absurd (true≢false (sym e))

none_met : (waiting : Waiting) (u : Text) → subcommand_met [] waiting u ≡ None
none_met idle u = refl
none_met (option id) u = refl
none_met Rattle.clap.specs.Walk.positional u = refl

plain : (c : List Rule) (waiting : Waiting) (n : ℕ) (u : Text) (h : Held) → IsPlain u → word_met c [] false waiting n u h ≡ plain_word c waiting u h
plain c waiting n u h e =
    ap (λ o. subcommand_or_other c o waiting n u h) (none_met waiting u)
    ∙ ap (λ b. if b then (h, trailing n) else long_or_other c waiting u (long_of u) h) e.dashes
    ∙ ap (λ o. long_or_other c waiting u o h) e.long
    ∙ ap (λ o. short_or_plain c waiting u o h) e.short

plain_fault : (s : Shape) (waiting : Waiting) (u : Text) (h : Held) → IsPlain u → word_fault s [] false waiting u h ≡ []
plain_fault s waiting u h e =
    ap (λ o. other_fault s o u h) (none_met waiting u)
    ∙ ap (λ b. if b then [] else flag_word_fault s.rules s.args_override_self (long_of u) u h) e.dashes
    ∙ ap (λ o. flag_word_fault s.rules s.args_override_self o u h) e.long
    ∙ ap (λ o. option_map_or (λ flags. bundle_fault s.rules s.args_override_self flags h) o []) e.short

-- ---- a name

pub and_false : (b : Bool) → (b && false) ≡ false
and_false true = refl
and_false false = refl

next_is : (place : ℕ) → place < 4 → min (suc place + 1) usize_max ≡ suc (suc place)
next_is zero lt = refl
next_is (suc zero) lt = refl
next_is (suc (suc zero)) lt = refl
next_is (suc (suc (suc zero))) lt = refl
next_is (suc (suc (suc (suc n)))) lt = absurd (omega (arith, lt))

pub name_walks : (c : List Rule) (rows : List Row) (p : Option (Text × List Text)) (place : ℕ) (u : Text) → IsPlain u → place < 4 → arg_by_index c (suc place) ≡ Some (built_name place)
    → walked c [] (walk_at rows p place) u ≡ walk_at (settled_rows c p rows) (Some (name_id place, u ∷ [])) (suc place)
unfolding walked
name_walks c rows p place u e lt at =
    let w : Walk = walk_at rows p place in
    let h : Held = held_at rows p in
    let a : Rule = built_name place in
    ap (λ m. after_step c u w m.0 m.1) (plain c idle (suc place) u h e)
    ∙ ap (λ o. to_positional c o u w h) at
    ∙ ap (λ b. walk_on (pushed (name_id place) u (if b then h else settled c h)) idle (min (suc place + 1) usize_max)) (and_false (is_pending a p))
    ∙ ap (λ n. walk_on (held_at (settled_rows c p rows) (Some (name_id place, u ∷ []))) idle n) (next_is place lt)

pub name_turn : (s : Shape) (rows : List Row) (p : Option (Text × List Text)) (place : ℕ) (u : Text) → IsPlain u → arg_by_index s.rules (suc place) ≡ Some (built_name place)
    → settle_fault s.rules s.args_override_self (held_at rows p) ≡ [] → turn_fault s [] (walk_at rows p place) u ≡ []
name_turn s rows p place u e at none =
    let h : Held = held_at rows p in
    let a : Rule = built_name place in
    ap (λ f. or_else f (step_fault s (suc place) (word_met s.rules [] false idle (suc place) u h).0 (word_met s.rules [] false idle (suc place) u h).1)) (plain_fault s idle u h e)
    ∙ ap (λ m. step_fault s (suc place) m.0 m.1) (plain s.rules idle (suc place) u h e)
    ∙ ap (λ o. option_map_or (λ b. positional_fault s.rules s.args_override_self b h) o (stray_fault s)) at
    ∙ ap (λ b. if b then [] else settle_fault s.rules s.args_override_self h) (and_false (is_pending a p))
    ∙ none

pub stray_turn : (s : Shape) (rows : List Row) (p : Option (Text × List Text)) (place : ℕ) (u : Text) → IsPlain u → arg_by_index s.rules (suc place) ≡ None
    → turn_fault s [] (walk_at rows p place) u ≡ stray_fault s
stray_turn s rows p place u e at =
    let h : Held = held_at rows p in
    ap (λ f. or_else f (step_fault s (suc place) (word_met s.rules [] false idle (suc place) u h).0 (word_met s.rules [] false idle (suc place) u h).1)) (plain_fault s idle u h e)
    ∙ ap (λ m. step_fault s (suc place) m.0 m.1) (plain s.rules idle (suc place) u h e)
    ∙ ap (λ o. option_map_or (λ b. positional_fault s.rules s.args_override_self b h) o (stray_fault s)) at

-- ---- an option

no_dashes_option : (t : Setting) → bytes_eq (option_word t) (45 ∷ 45 ∷ []) ≡ false
no_dashes_option Fuel = refl
no_dashes_option Quantum = refl
no_dashes_option Depth = refl
no_dashes_option Seed = refl
no_dashes_option Workers = refl
no_dashes_option Attempts = refl

long_is : (t : Setting) → long_of (option_word t) ≡ Some (option_id t, None)
long_is Fuel = refl
long_is Quantum = refl
long_is Depth = refl
long_is Seed = refl
long_is Workers = refl
long_is Attempts = refl

same_id : (t : Setting) → bytes_eq (option_id t) (option_id t) ≡ true
same_id Fuel = refl
same_id Quantum = refl
same_id Depth = refl
same_id Seed = refl
same_id Workers = refl
same_id Attempts = refl

-- the option, before its value
abbrev waits_for : List Rule → List Row → Option (Text × List Text) → ℕ → Text → Walk
waits_for c rows p place id = walk_on (held_at (settled_rows c p rows) (Some (id, []))) (option id) (suc place)

flag_met : (c : List Rule) (rows : List Row) (p : Option (Text × List Text)) (place : ℕ) (t : Setting) → arg_by_long c (option_id t) ≡ Some (built_option (option_id t))
    → word_met c [] false idle (suc place) (option_word t) (held_at rows p) ≡ (held_at (settled_rows c p rows) (Some (option_id t, [])), next (option (option_id t)))
flag_met c rows p place t at =
    let h : Held = held_at rows p in
    let word : Text = option_word t in
    ap (λ b. if b then (h, trailing (suc place)) else long_or_other c idle word (long_of word) h) (no_dashes_option t)
    ∙ ap (λ o. long_or_other c idle word o h) (long_is t)
    ∙ ap (λ o. after_flag c idle word (long_met c o None h).0 (long_met c o None h).1) at

pub option_walks : (c : List Rule) (rows : List Row) (p : Option (Text × List Text)) (place : ℕ) (t : Setting) (v : Text) → is_dashed v ≡ false
    → arg_by_long c (option_id t) ≡ Some (built_option (option_id t)) → arg_by_id c (option_id t) ≡ Some (built_option (option_id t))
    → walked c [] (walked c [] (walk_at rows p place) (option_word t)) v ≡ walk_at (settled_rows c p rows) (Some (option_id t, v ∷ [])) place
unfolding walked
option_walks c rows p place t v e long by =
    let id : Text = option_id t in
    let w : Walk = waits_for c rows p place id in
    let h : Held = held_at (settled_rows c p rows) (Some (id, [])) in
    let after : Held = held_at (settled_rows c p rows) (Some (id, v ∷ [])) in
    ap (λ x. walked c [] x v) (ap (λ m. after_step c (option_word t) (walk_at rows p place) m.0 m.1) (flag_met c rows p place t long))
    ∙ ap (λ m. after_step c v w m.0 m.1) (plain c (option id) (suc place) v h (undashed_plain v e))
    ∙ ap (λ o. after_step c v w (option_takes o id v h).0 (next (option_takes o id v h).1)) by
    ∙ ap (λ b. walk_on after (if nat_lt (if b then 1 else 0) 1 then option id else idle) (suc place)) (same_id t)

pub flag_turn : (s : Shape) (rows : List Row) (p : Option (Text × List Text)) (place : ℕ) (t : Setting) → arg_by_long s.rules (option_id t) ≡ Some (built_option (option_id t))
    → settle_fault s.rules s.args_override_self (held_at rows p) ≡ [] → turn_fault s [] (walk_at rows p place) (option_word t) ≡ []
flag_turn s rows p place t long none =
    let h : Held = held_at rows p in
    let word : Text = option_word t in
    ap (λ m. or_else (word_fault s [] false idle word h) (step_fault s (suc place) m.0 m.1)) (flag_met s.rules rows p place t long)
    ∙ ap (λ b. or_else (if b then [] else flag_word_fault s.rules s.args_override_self (long_of word) word h) []) (no_dashes_option t)
    ∙ ap (λ o. or_else (flag_word_fault s.rules s.args_override_self o word h) []) (long_is t)
    ∙ ap (λ o. or_else (long_fault s.rules s.args_override_self o None h) []) long
    ∙ ap (λ f. or_else f []) none

pub value_turn : (s : Shape) (rows : List Row) (p : Option (Text × List Text)) (place : ℕ) (t : Setting) (v : Text) → is_dashed v ≡ false
    → arg_by_long s.rules (option_id t) ≡ Some (built_option (option_id t)) → turn_fault s [] (walked s.rules [] (walk_at rows p place) (option_word t)) v ≡ []
unfolding walked
value_turn s rows p place t v e long =
    let c : List Rule = s.rules in
    let id : Text = option_id t in
    let h : Held = held_at (settled_rows c p rows) (Some (id, [])) in
    ap (λ x. turn_fault s [] x v) (ap (λ m. after_step c (option_word t) (walk_at rows p place) m.0 m.1) (flag_met c rows p place t long))
    ∙ ap (λ f. or_else f (step_fault s (suc place) (word_met c [] false (option id) (suc place) v h).0 (word_met c [] false (option id) (suc place) v h).1)) (plain_fault s (option id) v h (undashed_plain v e))
    ∙ ap (λ m. step_fault s (suc place) m.0 m.1) (plain c (option id) (suc place) v h (undashed_plain v e))

-- ---- what is pending is used

abbrev pub row : Text → Text → Row
row id v = record { id = id; values = v ∷ []; count = None; source = Some CommandLine; reading = reading_by (built_option id) }

or_parts : (a b : Bool) → (a || b) ≡ false → (a ≡ false) × (b ≡ false)
or_parts true b e = absurd (Rattle.std.proofs.Common.true≢false e)
or_parts false b e = (refl, e)

at_none : (id : Text) (change : Row → List Row) (missing rows : List Row) → has_row id rows ≡ false → at_row id change missing rows ≡ rows ++ missing
at_none id change missing [] e = refl
at_none id change missing (r ∷ rs) e =
    let parts = or_parts (bytes_eq r.id id) (has_row id rs) e in
    ap (λ b. if b then change r ++ rs else r ∷ at_row id change missing rs) parts.0 ∙ ap (λ x. r ∷ x) (at_none id change missing rs parts.1)

without_none : (id : Text) (rows : List Row) → has_row id rows ≡ false → without id rows ≡ rows
without_none id rows e = at_none id (λ _. []) [] rows e ∙ Rattle.std.proofs.Common.append-nil rows

pub used_row : (id v : Text) (rows : List Row) → has_row id rows ≡ false → used (built_option id) (v ∷ []) rows ≡ rows ++ row id v ∷ []
used_row id v rows e =
    ap (λ x. with_values id (reading_by (built_option id)) CommandLine (v ∷ []) x) (without_none id rows e)
    ∙ at_none id (more_values CommandLine (v ∷ [])) (row id v ∷ []) rows e

pub use_passes : (again : Bool) (id v : Text) (rows : List Row) → again ≡ false → has_row id rows ≡ false → use_fault again (built_option id) (v ∷ []) rows ≡ []
use_passes again id v rows never e =
    ap (λ b. or_else (if b && not again then ArgumentConflict ∷ [] else []) []) e
