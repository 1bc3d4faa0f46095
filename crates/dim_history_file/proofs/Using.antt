-- The names in a text, and those that its history uses.
use Rattle.std.proofs.Common.{◌≡◌, ◌<◌, ◌≤◌, ◌^◌, ℕ, inl, inr, Bool, true, false, ◌||◌, List, [], ◌∷◌, ◌++◌, length, map, Option, Some, None, Ok, Err, arith, rules, refl, sym, ap, ap₂, ◌∙◌, subst, append-nil}
use Rattle.std.specs.Prelude.{◌==◌, codes, get_or, nat_lt, slice_get, All}
use Rattle.std.specs.Option.{IsSome, MatchOption, option_map}
use Rattle.std.specs.Borrow.{Bor}
use Rattle.std.specs.List.{AllByRecursion, flat_map, list_all, list_any}
use Rattle.std.specs.Str.{bytes_eq}
use Rattle.std.specs.Fmt.{decimal}
use Rattle.std.proofs.lemmas.Bool.{cases_Bool, or_cases, or_left, cond-true, cond-false, false≢true, false_from_ne_true, le-ltb}
use Rattle.std.proofs.lemmas.Cmp.{nat_list_eq_equiv}
use Rattle.std.proofs.lemmas.Map.Keys.{any_passes_from_place}
use Rattle.std.proofs.lemmas.Map.Views.{All-from_any}
use Rattle.std.proofs.lemmas.Option.{get_or_from_slice_get, slice_get-get_or, slice_get-map, slice_get_within}
use Rattle.std.proofs.lemmas.List.{length-map}
use Rattle.std.proofs.lemmas.List.Elements.{Contains-append_left, Contains-append_right}
use Rattle.std.proofs.lemmas.List.Concat.{flat_map-append}
use Rattle.std.proofs.lemmas.List.Folds.{list_any_none}
use Rattle.std.proofs.lemmas.List.Splits.{slice_split_none}
use Rattle.std.proofs.lemmas.Slice.Eq.{bytes_eq-Decides}
use Rattle.dim_text.specs.Cuts.{lines_of, words_of, sides_of, two_sides, HasNo}
use Rattle.dim_text.specs.Naming.{is_name, IsName, name_of as name_of_word}
use Rattle.dim_text.specs.Numerals.{number_of as number_in}
use Rattle.dim_text.specs.Words.{has_sides}
use Rattle.dim_text.proofs.Exports.{lines_of-ended, words_of-line_of, sides_of-frame_word, HasNo-decimal, HasNo-name, chosen}
use Rattle.dim_stack.specs.Names.{HasNamesOf, table_of, name_number, name_of, HasNames}
use Rattle.dim_stack.specs.declared.Frame.{Frame}
use Rattle.dim_stack.proofs.Exports.{has-append, has_contains, contains_has, has_own, table-same, missing, found}
use Rattle.dim_history_file.specs.declared.opening.Opening.{Opening}
use Rattle.dim_history_file.specs.declared.version.Version.{Version}
use Rattle.dim_history_file.specs.declared.version.Version.TheVariants.{One, Two}
use Rattle.dim_history_file.specs.declared.fault.FileKind.TheVariants.{Name, Number}
use Rattle.dim_history_file.specs.Judging.{frame_of, frames_of, stack_of}
use Rattle.dim_history_file.specs.Value.{AreNumbersIn, NamedFrame, NamedSig, named_frame, names_of_stack, names_used}
use Rattle.dim_history_file.specs.Naming.{name_in, names_in_word, names_in_words, names_in_line, names_in_lines, names_in}
use Rattle.dim_text.specs.States.{state_word}
use Rattle.dim_history_file.specs.Spelling.{Line, HeadLine, SignatureLine, StackLine, EndLine, spelled_frame, opening_words, spelled, opening_for, sig_lines, history_lines, text_of, text_in}
use Rattle.dim_history_file.specs.Grammar.{IsFrame, IsStack, IsSignature, IsHistory, IsTextOf}
use Rattle.dim_history_file.proofs.Judged.{frames_ok}
use Rattle.dim_history_file.proofs.Spelled.{all_sides, line_has_no, head_has_no, IsOpening, feed_apart, space_apart, is_opening, signature_has_no, end_has_no, stack_has_no, words_of_stack}

-- ---- tables that have names
abbrev has : List ℕ → List (List ℕ) → Bool
has q xs = list_any (bytes_eq q) xs

pub has_left : (table a b : List (List ℕ)) → HasNames table (a ++ b) → HasNames table a
has_left table a b h q there = h q (Contains-append_left a b q there)

pub has_right : (table a b : List (List ℕ)) → HasNames table (a ++ b) → HasNames table b
has_right table a b h q there = h q (Contains-append_right a b q there)

pub has_all : (names : List (List ℕ)) → HasNames (table_of names) names
has_all = has_own

-- a name that stands in the table has a number
pub numbered : (table : List (List ℕ)) (name : List ℕ) → has name table ≡ true → name_number table name ≡ None → ⊥
numbered table name e none =
    let absent : has name table ≡ false = list_any_none (bytes_eq name) table (λ k d h.
    false_from_ne_true (bytes_eq name (get_or table k d)) (λ t. missing table name none k d h (sym ((bytes_eq-Decides name (get_or table k d)).0 t)))) in
    false≢true (sym absent ∙ e)

-- ---- the names in a line
names_in_frame : (f : NamedFrame) → IsFrame f → names_in_word (spelled_frame f) ≡ f.name ∷ []
names_in_frame f is =
    ap name_in (sides_of-frame_word f.name (decimal f.at) (HasNo-name 58 f.name refl is.name) (HasNo-decimal 58 f.at (λ r. omega (arith, r.1)) (omega (arith, is.near))))
    ∙ cond-true (is_name f.name) (f.name ∷ []) [] is.name

names_in_frames : (fs : List NamedFrame) → AllByRecursion IsFrame fs → names_in_words (map spelled_frame fs) ≡ names_of_stack fs
names_in_frames [] h = refl
names_in_frames (f ∷ fs) h = ap₂ (λ a b. a ++ b) (names_in_frame f h.0) (names_in_frames fs h.1)

names_in_stack : (stack : List NamedFrame) → IsStack stack → names_in_line (spelled (StackLine stack)) ≡ names_of_stack stack
names_in_stack stack is = ap names_in_words (words_of_stack stack is) ∙ names_in_frames stack is.frames

names_in_number : (n : ℕ) → n < 2 ^ 64 → names_in_word (decimal n) ≡ []
names_in_number n small = ap (λ parts. name_in (two_sides parts)) (slice_split_none (λ b. b == 58) (decimal n) (HasNo-decimal 58 n (λ r. omega (arith, r.1)) small))

names_in_state : (on : Bool) → names_in_word (state_word on) ≡ []
names_in_state true = refl
names_in_state false = refl

names_in_opening : (version : Version) (o : Opening) → IsOpening o → names_in_words (opening_words version o) ≡ []
names_in_opening One o is = ap₂ (λ a b. a ++ (b ++ [])) (names_in_number o.depth (omega (arith, is.high))) (names_in_number o.count (omega (arith, is.few)))
names_in_opening Two o is =
    ap₂ (λ a b. a ++ (b ++ names_in_words (state_word o.on ∷ decimal o.yields ∷ []))) (names_in_number o.depth (omega (arith, is.high))) (names_in_number o.count (omega (arith, is.few)))
    ∙ ap₂ (λ a b. a ++ (b ++ [])) (names_in_state o.on) (names_in_number o.yields (omega (arith, is.yields)))

names_in_signature : (version : Version) (o : Opening) → IsOpening o → names_in_line (spelled (SignatureLine version o)) ≡ []
names_in_signature version o is =
    ap names_in_words (words_of-line_of (codes "signature") (opening_words version o) (signature_has_no version o is 32 space_apart))
    ∙ ap (λ a. names_in_word (codes "signature") ++ a) (names_in_opening version o is)

names_in_head : (version : Version) → names_in_line (spelled (HeadLine version)) ≡ []
names_in_head One = refl
names_in_head Two = refl

names_in_end : (n : ℕ) → n ≤ 4096 → names_in_line (spelled (EndLine n)) ≡ []
names_in_end n h =
    ap names_in_words (words_of-line_of (codes "end") (decimal n ∷ []) (end_has_no n h 32 (omega arith) refl))
    ∙ ap (λ a. names_in_word (codes "end") ++ (a ++ [])) (names_in_number n (omega (arith, h)))

-- ---- the names in lines
abbrev line_names : Line → List (List ℕ)
line_names x = names_in_line (spelled x)

abbrev IsOneLine : Line → Type 0
IsOneLine x = HasNo 10 (spelled x)

names_in_text : (lines : List Line) → AllByRecursion IsOneLine lines → names_in (text_of lines) ≡ flat_map line_names lines
names_in_text [] h = refl
names_in_text (x ∷ lines) h =
    ap names_in_lines (lines_of-ended (spelled x) (text_of lines) h.0) ∙ ap (λ ns. line_names x ++ ns) (names_in_text lines h.1)

all-append : {X : Type 0} (P : X → Type 0) (xs ys : List X) → AllByRecursion P xs → AllByRecursion P ys → AllByRecursion P (xs ++ ys)
all-append P [] ys h k = k
all-append P (x ∷ xs) ys h k = (h.0, all-append P xs ys h.1 k)

stacks_one : (stacks : List (List NamedFrame)) → AllByRecursion IsStack stacks → AllByRecursion IsOneLine (map (λ stack. StackLine stack) stacks)
stacks_one [] h = tt
stacks_one (s ∷ stacks) h = (stack_has_no s h.0, stacks_one stacks h.1)

sigs_one : (version : Version) (sigs : List NamedSig) → AllByRecursion IsSignature sigs → AllByRecursion IsOneLine (flat_map (sig_lines version) sigs)
sigs_one version [] h = tt
sigs_one version (s ∷ sigs) h =
    let o = opening_for s in
    let words = codes "signature" ∷ opening_words version o in
    all-append IsOneLine (sig_lines version s) (flat_map (sig_lines version) sigs)
    (line_has_no words (signature_has_no version o (is_opening s h.0) 10 feed_apart), stacks_one s.stacks h.0.stacks) (sigs_one version sigs h.1)

stacks_names : (stacks : List (List NamedFrame)) → AllByRecursion IsStack stacks → flat_map line_names (map (λ stack. StackLine stack) stacks) ≡ flat_map names_of_stack stacks
stacks_names [] h = refl
stacks_names (s ∷ stacks) h = ap₂ (λ a b. a ++ b) (names_in_stack s h.0) (stacks_names stacks h.1)

sigs_names : (version : Version) (sigs : List NamedSig) → AllByRecursion IsSignature sigs → flat_map line_names (flat_map (sig_lines version) sigs) ≡ names_used sigs
sigs_names version [] h = refl
sigs_names version (s ∷ sigs) h =
    let rest = flat_map (sig_lines version) sigs in
    flat_map-append line_names (sig_lines version s) rest
    ∙ ap₂ (λ a b. (a ++ b) ++ flat_map line_names rest) (names_in_signature version (opening_for s) (is_opening s h.0)) (stacks_names s.stacks h.0.stacks)
    ∙ ap (λ ns. flat_map names_of_stack s.stacks ++ ns) (sigs_names version sigs h.1)

-- the names in the text of a history are those that it uses
pub names_in_history : (version : Version) (sigs : List NamedSig) → IsHistory sigs → names_in (text_in version sigs) ≡ names_used sigs
names_in_history version sigs h =
    let last = EndLine (length sigs) in
    let body = flat_map (sig_lines version) sigs in
    let ends : IsOneLine last = line_has_no (codes "end" ∷ decimal (length sigs) ∷ []) (end_has_no (length sigs) h.few 10 (omega arith) refl) in
    let front : IsOneLine (HeadLine version) = head_has_no version in
    names_in_text (history_lines version sigs) (front, all-append IsOneLine body (last ∷ []) (sigs_one version sigs h.signatures) (ends, tt))
    ∙ ap₂ (λ a b. a ++ b) (names_in_head version) (flat_map-append line_names body (last ∷ []))
    ∙ ap₂ (λ a b. a ++ (b ++ [])) (sigs_names version sigs h.signatures) (names_in_end (length sigs) h.few)
    ∙ append-nil (names_used sigs)

pub used_table : (bytes : List ℕ) (sigs : List NamedSig) → IsHistory sigs → IsTextOf bytes sigs → table_of (names_in bytes) ≡ table_of (names_used sigs)
used_table bytes sigs h is = ap table_of (ap names_in is.text ∙ names_in_history is.version sigs h)

-- ---- gathering names
abbrev pub Gathers : List (List ℕ) → List (List ℕ) → List (List ℕ) → List (List ℕ) → Type 0
Gathers start all now rest = (q : List ℕ) → (has q now || has q rest) ≡ (has q start || has q all)

or_assoc : (a b c : Bool) → ((a || b) || c) ≡ (a || (b || c))
or_assoc true b c = refl
or_assoc false b c = refl

pub or_false : (a : Bool) → (a || false) ≡ a
or_false true = refl
or_false false = refl

pub gather_step : (start all now a rest new : List (List ℕ)) → Gathers start all now (a ++ rest) → HasNamesOf now a new → Gathers start all new rest
gather_step start all now a rest new h put q =
    ap (λ b. b || has q rest) (put q) ∙ or_assoc (has q now) (has q a) (has q rest) ∙ ap (λ b. has q now || b) (sym (has-append q a rest)) ∙ h q

pub gather_end : (start all now : List (List ℕ)) → Gathers start all now [] → HasNamesOf start all now
gather_end start all now h q = sym (or_false (has q now)) ∙ h q

pub put_none : (old now : List (List ℕ)) → now ≡ [] → HasNamesOf old now old
put_none old now none q = sym (or_false (has q old)) ∙ ap (λ ns. has q old || has q ns) (sym none)

-- the name of a word whose name is there already
put_again : (old : List (List ℕ)) (name : List ℕ) → has name old ≡ true → HasNamesOf old (name ∷ []) old
put_again old name there q =
    elim (cases_Bool (bytes_eq q name)) [
      | inl same ↦
          let h : has q old ≡ true = ap (λ x. has x old) ((bytes_eq-Decides q name).0 same) ∙ there in
          h ∙ sym (ap (λ b. b || (bytes_eq q name || false)) h)
      | inr other ↦ sym (or_false (has q old)) ∙ ap (λ b. has q old || (b || false)) (sym other)
    ]

pub put_known : (old : List (List ℕ)) (word function offset : List ℕ) → sides_of word ≡ Some (function, offset) → has function old ≡ true → HasNamesOf old (names_in_word word) old
put_known old word function offset e there =
    elim (cases_Bool (is_name function)) [
      | inl is ↦ subst (λ ns. HasNamesOf old ns old) (sym (ap name_in e ∙ cond-true (is_name function) (function ∷ []) [] is)) (put_again old function there)
      | inr other ↦ put_none old (names_in_word word) (ap name_in e ∙ cond-false (is_name function) (function ∷ []) [] other)
    ]

-- a name that a text has before a colon
names_are : (word q : List ℕ) → has q (names_in_word word) ≡ true → IsName q
names_are word q e = go (sides_of word) e
  where
    go : (sides : Option (List ℕ × List ℕ)) → has q (name_in sides) ≡ true → IsName q
    go None e = cc
    go (Some (name, offset)) e =
        elim (cases_Bool (is_name name)) [
          | inl is ↦
              let here : (bytes_eq q name || false) ≡ true = sym (ap (λ ns. has q ns) (cond-true (is_name name) (name ∷ []) [] is)) ∙ e in
              let same : q ≡ name = (bytes_eq-Decides q name).0 (sym (or_false (bytes_eq q name)) ∙ here) in
              subst IsName (sym same) is
          | inr other ↦ absurd (false≢true (sym (ap (λ ns. has q ns) (cond-false (is_name name) (name ∷ []) [] other)) ∙ e))
        ]

each_is : {X : Type 0} (f : X → List (List ℕ)) → ((x : X) (q : List ℕ) → has q (f x) ≡ true → IsName q) → (xs : List X) (q : List ℕ) → has q (flat_map f xs) ≡ true → IsName q
each_is f h [] q e = cc
each_is f h (x ∷ xs) q e =
    elim (or_cases (has q (f x)) (has q (flat_map f xs)) (sym (has-append q (f x) (flat_map f xs)) ∙ e)) [
      | inl here ↦ h x q here
      | inr there ↦ each_is f h xs q there
    ]

pub gathered_named : (bytes : List ℕ) (table : List (List ℕ)) → HasNamesOf [] (names_in bytes) table → All IsName table
gathered_named bytes table h =
    All-from_any nat_list_eq_equiv IsName table (λ q e. each_is names_in_line (λ line p f. each_is names_in_word names_are (words_of line) p f) (lines_of bytes) q (sym (h q) ∙ e))

pub gathered_table : (bytes : List ℕ) (table : List (List ℕ)) → HasNamesOf [] (names_in bytes) table → table_of table ≡ table_of (names_in bytes)
gathered_table bytes table h = table-same table (names_in bytes) h

-- ---- numbers of names
pub has_itself : (q : List ℕ) (names : List (List ℕ)) → has q (q ∷ names) ≡ true
has_itself q names = or_left (bytes_eq q q) (has q names) ((bytes_eq-Decides q q).1 refl)

pub has_place : (names : List (List ℕ)) (n : ℕ) (name : List ℕ) → slice_get names n ≡ Some name → has name names ≡ true
has_place names n name e = any_passes_from_place (bytes_eq name) names n name e ((bytes_eq-Decides name name).1 refl)

pub some_number : (table : List (List ℕ)) (name : List ℕ) (r : Option ℕ) → r ≡ name_number table name → has name table ≡ true → IsSome r
some_number table name None e h = absurd (numbered table name h (sym e))
some_number table name (Some n) e h = search rules

pub found_name : (table : List (List ℕ)) (name : List ℕ) (n : ℕ) → name_number table name ≡ Some n → name_of table n ≡ name
found_name table name n e = get_or_from_slice_get table n name [] (found table name n e)

pub found_within : (table : List (List ℕ)) (name : List ℕ) (n : ℕ) → name_number table name ≡ Some n → n < length table
found_within table name n e = slice_get_within table n name (found table name n e)

pub renamed : (to from : List (List ℕ)) (f : Frame) (n : ℕ) (name : List ℕ) → name_number to name ≡ Some n → slice_get from f.func ≡ Some name
    → named_frame to (record { func = n; at = f.at }) ≡ named_frame from f
renamed to from f n name e is =
    ap (λ x. let g : NamedFrame = record { name = x; at = f.at } in g) (found_name to name n e ∙ sym (get_or_from_slice_get from f.func name [] is))

-- the numbers of a table's names in another
pub numbers_length : (to from : List (List ℕ)) (numbers : List ℕ) → AreNumbersIn to from numbers → length numbers ≡ length from
numbers_length to from numbers h = sym (length-map numbers (λ n. Some n)) ∙ ap length h ∙ length-map from (name_number to)

number_read : (to from : List (List ℕ)) (numbers : List ℕ) → AreNumbersIn to from numbers → (n m : ℕ) → n < length from → slice_get numbers n ≡ Some m → name_number to (name_of from n) ≡ Some m
number_read to from numbers h n m within is =
    let e : Some (Some m) ≡ Some (name_number to (name_of from n)) =
    ap (option_map (λ k. Some k)) (sym is)
    ∙ sym (slice_get-map (λ k. Some k) numbers n)
    ∙ ap (λ ks. slice_get ks n) h
    ∙ slice_get-map (name_number to) from n
    ∙ ap (option_map (name_number to)) (slice_get-get_or from n [] within) in
    cc

pub frame_renamed : (to from : List (List ℕ)) (numbers : List ℕ) → AreNumbersIn to from numbers → (f : Frame) (n : ℕ) → f.func < length from → slice_get numbers f.func ≡ Some n
    → (named_frame to (record { func = n; at = f.at }) ≡ named_frame from f) × (n < length to)
frame_renamed to from numbers h f n within is =
    let at = number_read to from numbers h f.func n within is in
    (renamed to from f n (name_of from f.func) at (slice_get-get_or from f.func [] within), found_within to (name_of from f.func) n at)

-- the frame that a word spells
pub frame_read : (word function offset name : List ℕ) (at : ℕ) → sides_of word ≡ Some (function, offset) → name_of_word function ≡ Some name → number_in 65535 offset ≡ Some at → frame_of word ≡ Ok (record { name = name; at = at })
unfolding frame_of
frame_read word function offset name at e f g = rw (e, f, g) refl

pub name_there : (word function offset : List ℕ) → sides_of word ≡ Some (function, offset) → IsName function → has function (names_in_word word) ≡ true
name_there word function offset e is =
    ap (λ sides. has function (name_in sides)) e ∙ ap (λ ns. has function ns) (cond-true (is_name function) (function ∷ []) [] is) ∙ has_itself function []

-- the name whose number was asked for
pub number_named : (table : List (List ℕ)) → All IsName table → (name : List ℕ) (n : ℕ) → name_number table name ≡ Some n → IsName name
number_named table h name n e =
    let at = found table name n e in
    subst IsName (get_or_from_slice_get table n name [] at) (h n [] (slice_get_within table n name at))

named_itself : (name : List ℕ) → IsName name → name_of_word name ≡ Some name
unfolding name_of_word
named_itself name is = cond-true (is_name name) (Some name) None is

no_name : (table : List (List ℕ)) (word function offset : List ℕ) → HasNames table (names_in_word word) → sides_of word ≡ Some (function, offset) → name_number table function ≡ None → name_of_word function ≡ None
unfolding name_of_word
no_name table word function offset known e none =
    elim (cases_Bool (is_name function)) [
      | inl is ↦ absurd (numbered table function (contains_has function table (known function (has_contains function (names_in_word word) (name_there word function offset e is)))) none)
      | inr other ↦ cond-false (is_name function) (Some function) None other
    ]

pub frame_no_name : (table : List (List ℕ)) (word function offset : List ℕ) → HasNames table (names_in_word word) → sides_of word ≡ Some (function, offset) → name_number table function ≡ None → frame_of word ≡ Err Name
unfolding frame_of
frame_no_name table word function offset known e none = rw (e, no_name table word function offset known e none) refl

pub frame_no_number : (word function offset : List ℕ) → sides_of word ≡ Some (function, offset) → IsName function → number_in 65535 offset ≡ None → frame_of word ≡ Err Number
unfolding frame_of
frame_no_number word function offset e is none = rw (e, named_itself function is, none) refl

pub frame_value : (table : List (List ℕ)) (word function offset : List ℕ) (at n : ℕ) → sides_of word ≡ Some (function, offset) → IsName function → number_in 65535 offset ≡ Some at → name_number table function ≡ Some n
    → frame_of word ≡ Ok (named_frame table (record { func = n; at = at }))
frame_value table word function offset at n e is g h =
    frame_read word function offset function at e (named_itself function is) g
    ∙ ap (λ x. let y : NamedFrame = record { name = x; at = at } in Ok y) (sym (found_name table function n h))

-- the stack that words spell
pub stack_read : (words : List (List ℕ)) (fs : List NamedFrame) → frames_of words ≡ Ok fs → length words ≤ 32 → stack_of words ≡ Ok fs
unfolding stack_of
stack_read words fs e few =
    let p = frames_ok words fs e in
    let sides : list_all has_sides words ≡ true = ap (list_all has_sides) p.0 ∙ all_sides fs p.1 in
    let short : nat_lt 32 (length words) ≡ false = le-ltb 32 (length words) few in
    rw (sides, short, e) refl

pub name_in_word : (word function offset : List ℕ) (r : Option (Bor (List ℕ))) → sides_of word ≡ Some (function, offset) → option_map (λ s. s.now) r ≡ name_of_word function
    → MatchOption r (names_in_word word ≡ []) (λ name. names_in_word word ≡ name.now ∷ [])
unfolding name_of_word
name_in_word word function offset None e f =
    elim (chosen (is_name function) _ _ _ (sym f)) [
      | inl is ↦ cc (is.1)
      | inr other ↦ ap name_in e ∙ cond-false (is_name function) (function ∷ []) [] other.0
    ]
name_in_word word function offset (Some b) e f =
    elim (chosen (is_name function) _ _ _ (sym f)) [
      | inl is ↦ let same : function ≡ b.now = cc (is.1) in ap name_in e ∙ cond-true (is_name function) (function ∷ []) [] is.0 ∙ ap (λ x. x ∷ []) same
      | inr other ↦ cc (other.1)
    ]
