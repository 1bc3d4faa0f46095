-- A text of a history is read as that history.
use Rattle.std.proofs.Common.{◌≡◌, ◌<◌, ◌≤◌, ◌+◌, ◌^◌, ℕ, Bool, true, false, ◌||◌, List, [], ◌∷◌, ◌++◌, length, map, Some, Result, Ok, arith, refl, sym, ap, ap₂, ◌∙◌, subst, append_assoc, append-nil}
use Rattle.std.specs.Prelude.{◌==◌, not, codes}
use Rattle.std.specs.Int.{IsInRange}
use Rattle.std.specs.List.{AllByRecursion, flat_map, list_all}
use Rattle.std.specs.Fmt.{decimal}
use Rattle.std.proofs.lemmas.Fmt.{decimal_nonempty}
use Rattle.std.proofs.lemmas.Bool.{and_parts, not-true, eq-eqb, ne_eqb, le-leb, le-ltb}
use Rattle.std.proofs.lemmas.List.{length-append, length-map, length_push}
use Rattle.std.proofs.lemmas.List.Concat.{flat_map-append}
use Rattle.std.proofs.lemmas.List.Elements.{All-cons, All-append, All-from_recursion}
use Rattle.dim_text.specs.Cuts.{lines_of, words_of, line_of, ended, HasNo}
use Rattle.dim_text.specs.Naming.{name_of, is_name_byte}
use Rattle.dim_text.specs.Reading.{read_from}
use Rattle.dim_text.proofs.Exports.{words_of-line_of, sides_of-frame_word, number_of-decimal, number_of-Some, HasNo-decimal, HasNo-name, read_from-line}
use Rattle.dim_text.specs.Words.{filled, has_sides}
use Rattle.dim_text.specs.Numerals.{number_from, number_of}
use Rattle.dim_history_file.specs.declared.fault.FileKind.{FileKind}
use Rattle.dim_history_file.specs.declared.fault.FileKind.TheVariants as kind
use Rattle.dim_history_file.specs.declared.fault.FileFault.{FileFault}
use Rattle.dim_history_file.specs.declared.opening.Opening.{Opening}
use Rattle.dim_history_file.specs.declared.version.Version.{Version}
use Rattle.dim_history_file.specs.declared.version.Version.TheVariants.{One, Two}
use Rattle.dim_history_file.specs.Faults.{fault}
use Rattle.dim_history_file.specs.Value.{NamedFrame, NamedSig, renewed, migrated, same_stacks, have_stacks}
use Rattle.dim_history_file.specs.Judging.{Form, Begun, Due, Within, Closed, State, frame_of, frames_of, stack_of, signature_with, short_form, long_form, form_of, opening_of, head_line, signature_line, end_line, due_line, is_less_than_last, with_stack, stack_line, step, at_end, start, history_of}
use Rattle.dim_text.specs.States.{state_in, state_word}
use Rattle.dim_history_file.specs.Spelling.{Line, HeadLine, SignatureLine, StackLine, EndLine, spelled_frame, opening_words, spelled, opening_for, sig_lines, text_of, text_in, history_text}
use Rattle.dim_history_file.specs.Grammar.{CanSay, CanSayAll, IsFrame, IsStack, AreInOrder, IsSignature, AreDistinct, IsHistory}
use Rattle.dim_history_file.proofs.Comparing.{distinct-front}

-- ---- bytes that words don't have
frame_has_no : (c : ℕ) (f : NamedFrame) → is_name_byte c ≡ false → ¬ (IsInRange 48 57 c) → (c ≡ 58 → ⊥) → IsFrame f → HasNo c (spelled_frame f)
frame_has_no c f other digit colon is =
    All-append (λ b. (b == c) ≡ false) f.name (58 ∷ decimal f.at)
    (HasNo-name c f.name other is.name)
    (All-cons (λ b. (b == c) ≡ false) 58 (decimal f.at) (ne_eqb 58 c (λ e. colon (sym e))) (HasNo-decimal c f.at digit (omega (arith, is.near))))

frames_have_no : (c : ℕ) (fs : List NamedFrame) → is_name_byte c ≡ false → ¬ (IsInRange 48 57 c) → (c ≡ 58 → ⊥) → AllByRecursion IsFrame fs → AllByRecursion (HasNo c) (map spelled_frame fs)
frames_have_no c [] other digit colon h = tt
frames_have_no c (f ∷ fs) other digit colon h = (frame_has_no c f other digit colon h.0, frames_have_no c fs other digit colon h.1)

pub line_has_no : (words : List (List ℕ)) → AllByRecursion (HasNo 10) words → HasNo 10 (line_of words)
line_has_no [] h = All-from_recursion (λ b. (b == 10) ≡ false) [] tt
line_has_no (word ∷ []) h = h.0
line_has_no (word ∷ next ∷ words) h =
    All-append (λ b. (b == 10) ≡ false) word (32 ∷ line_of (next ∷ words)) h.0 (All-cons (λ b. (b == 10) ≡ false) 32 (line_of (next ∷ words)) refl (line_has_no (next ∷ words) h.1))

not_range : (c : ℕ) → c < 48 → ¬ (IsInRange 48 57 c)
not_range c h r = omega (arith, h, r.0)

number_has_no : (c n : ℕ) → c < 48 → n < 2 ^ 64 → HasNo c (decimal n)
number_has_no c n h small = HasNo-decimal c n (not_range c h) small

word_has_no : (c : ℕ) (word : List ℕ) → list_all (λ b. not (b == c)) word ≡ true → HasNo c word
word_has_no c word e = All-from_recursion (λ b. (b == c) ≡ false) word (go word e)
  where
    go : (bs : List ℕ) → list_all (λ b. not (b == c)) bs ≡ true → AllByRecursion (λ b. (b == c) ≡ false) bs
    go [] e = tt
    go (b ∷ bs) e = let p = and_parts (not (b == c)) (list_all (λ x. not (x == c)) bs) e in (not-true (b == c) p.0, go bs p.1)

-- ---- what a spelled line says
spelled_number : (low high n : ℕ) → high < 2 ^ 64 → low ≤ n → n ≤ high → number_from low high (decimal n) ≡ Some n
spelled_number low high n small l h = rw (number_of-decimal high n small h, le-leb low n l) refl

spelled_one : (f : NamedFrame) → IsFrame f → frame_of (spelled_frame f) ≡ Ok f
unfolding frame_of name_of
spelled_one f is =
    rw (
      sides_of-frame_word f.name (decimal f.at) (HasNo-name 58 f.name refl is.name) (HasNo-decimal 58 f.at (λ r. omega (arith, r.1)) (omega (arith, is.near))),
      is.name,
      number_of-decimal 65535 f.at (omega arith) is.near,
    ) refl

spelled_all : (fs : List NamedFrame) → AllByRecursion IsFrame fs → frames_of (map spelled_frame fs) ≡ Ok fs
spelled_all [] h = refl
spelled_all (f ∷ fs) h = rw (spelled_one f h.0, spelled_all fs h.1) refl

pub all_sides : (fs : List NamedFrame) → AllByRecursion IsFrame fs → list_all has_sides (map spelled_frame fs) ≡ true
all_sides [] h = refl
all_sides (f ∷ fs) h =
    rw (sides_of-frame_word f.name (decimal f.at) (HasNo-name 58 f.name refl h.0.name) (HasNo-decimal 58 f.at (λ r. omega (arith, r.1)) (omega (arith, h.0.near)))) (all_sides fs h.1)

spelled_stack : (stack : List NamedFrame) → IsStack stack → stack_of (map spelled_frame stack) ≡ Ok stack
unfolding stack_of
spelled_stack stack is =
    rw (all_sides stack is.frames, length-map stack spelled_frame, le-ltb 32 (length stack) is.few) (spelled_all stack is.frames)

-- ---- lines that are taken
abbrev Reads : State → ℕ → List ℕ → Result (List NamedSig) FileFault
Reads s n bytes = read_from fault step at_end s n (lines_of bytes)

one_line : (s t : State) (n : ℕ) (x : Line) (rest : List ℕ) → HasNo 10 (spelled x) → step s (spelled x) ≡ Ok t → Reads s n (ended (spelled x) ++ rest) ≡ Reads t (n + 1) rest
one_line s t n x rest none taken = read_from-line fault step at_end s t n (spelled x) rest none taken

pub head_has_no : (version : Version) → HasNo 10 (spelled (HeadLine version))
head_has_no One = word_has_no 10 (spelled (HeadLine One)) refl
head_has_no Two = word_has_no 10 (spelled (HeadLine Two)) refl

head_taken : (version : Version) → step start (spelled (HeadLine version)) ≡ Ok (record { version = version; stage = Due; sigs = [] })
unfolding step head_line
head_taken One = refl
head_taken Two = refl

-- what the line of a signature says is in range
pub record IsOpening (o : Opening) : Type 0 where
  pub low : 1 ≤ o.depth
  pub high : o.depth ≤ 32
  pub some : 2 ≤ o.count
  pub few : o.count ≤ 32
  pub yields : o.yields ≤ 4294967295

-- a byte below the digits that no fixed word has
pub record IsApart (c : ℕ) : Type 0 where
  pub low : c < 48
  pub signature : list_all (λ b. not (b == c)) (codes "signature") ≡ true
  pub on : list_all (λ b. not (b == c)) (codes "on") ≡ true
  pub off : list_all (λ b. not (b == c)) (codes "off") ≡ true

pub feed_apart : IsApart 10
feed_apart = record { low = omega arith; signature = refl; on = refl; off = refl }

pub space_apart : IsApart 32
space_apart = record { low = omega arith; signature = refl; on = refl; off = refl }

state_has_no : (c : ℕ) (on : Bool) → IsApart c → HasNo c (state_word on)
state_has_no c true h = word_has_no c (codes "on") h.on
state_has_no c false h = word_has_no c (codes "off") h.off

pub signature_has_no : (version : Version) (o : Opening) → IsOpening o → (c : ℕ) → IsApart c → AllByRecursion (HasNo c) (codes "signature" ∷ opening_words version o)
signature_has_no One o is c h =
    (word_has_no c (codes "signature") h.signature, (number_has_no c o.depth h.low (omega (arith, is.high)), (number_has_no c o.count h.low (omega (arith, is.few)), tt)))
signature_has_no Two o is c h = (
  word_has_no c (codes "signature") h.signature,
  (number_has_no c o.depth h.low (omega (arith, is.high)), (number_has_no c o.count h.low (omega (arith, is.few)), (state_has_no c o.on h, (number_has_no c o.yields h.low (omega (arith, is.yields)), tt)))),
)

filled_number : (n : ℕ) → n < 2 ^ 64 → ◌≡◌ {A = Result (List ℕ) FileKind} (filled (decimal n) kind.Line) (Ok (decimal n))
filled_number n small = go (decimal n) (decimal_nonempty n small)
  where
    go : (word : List ℕ) → 0 < length word → ◌≡◌ {A = Result (List ℕ) FileKind} (filled word kind.Line) (Ok word)
    go [] h = absurd (omega arith)
    go (c ∷ cs) h = refl

-- the words of a form that is spelled so
abbrev form_for : Opening → Form
form_for o = record { depth = decimal o.depth; count = decimal o.count; on = o.on; yields = decimal o.yields }

abbrev form_with : List ℕ → List ℕ → Bool → List ℕ → Result Form FileKind
form_with depth count on yields = Ok (record { depth = depth; count = count; on = on; yields = yields })

state_read : (on : Bool) → (filled (state_word on) kind.Line ≡ Ok (state_word on)) × (state_in (state_word on) ≡ Some on)
state_read true = (refl, refl)
state_read false = (refl, refl)

-- nought is spelled so
nought : codes "0" ≡ decimal 0
unfolding number_of
nought = (number_of-Some 4294967295 0 (codes "0") (omega arith) refl).1

spelled_form : (version : Version) (o : Opening) → IsOpening o → CanSay version o.on o.yields → form_of version (opening_words version o) ≡ Ok (form_for o)
unfolding short_form long_form
spelled_form One o is says =
    rw (filled_number o.depth (omega (arith, is.high)), filled_number o.count (omega (arith, is.few)))
    (ap (λ on. form_with (decimal o.depth) (decimal o.count) on (codes "0")) (sym says.0)
    ∙ ap (λ word. form_with (decimal o.depth) (decimal o.count) o.on word) nought
    ∙ ap (λ n. form_with (decimal o.depth) (decimal o.count) o.on (decimal n)) (sym says.1))
spelled_form Two o is says =
    rw (
      filled_number o.depth (omega (arith, is.high)),
      filled_number o.count (omega (arith, is.few)),
      (state_read o.on).0,
      filled_number o.yields (omega (arith, is.yields)),
      (state_read o.on).1,
    ) refl

spelled_opening : (o : Opening) → IsOpening o → opening_of (form_for o) ≡ Ok o
unfolding opening_of
spelled_opening o is =
    rw (
      spelled_number 1 32 o.depth (omega arith) is.low is.high,
      spelled_number 2 32 o.count (omega arith) is.some is.few,
      number_of-decimal 4294967295 o.yields (omega arith) is.yields,
    ) refl

abbrev opened : Version → List NamedSig → Opening → State
opened version sigs o = record { version = version; stage = Within (record { opening = o; stacks = [] }); sigs = sigs }

abbrev due : Version → List NamedSig → State
due version sigs = record { version = version; stage = Due; sigs = sigs }

abbrev closed : Version → List NamedSig → State
closed version sigs = record { version = version; stage = Closed; sigs = sigs }

signature_words : (version : Version) (sigs : List NamedSig) (o : Opening) → length sigs < 4096 → IsOpening o → CanSay version o.on o.yields
    → due_line version sigs (codes "signature" ∷ opening_words version o) ≡ Ok (opened version sigs o)
unfolding due_line signature_line
signature_words version sigs o room is says =
    rw (spelled_form version o is says, ne_eqb (length sigs) 4096 (λ e. omega (arith, room, e)), spelled_opening o is) refl

signature_taken : (version : Version) (sigs : List NamedSig) (o : Opening) → length sigs < 4096 → IsOpening o → CanSay version o.on o.yields
    → step (due version sigs) (spelled (SignatureLine version o)) ≡ Ok (opened version sigs o)
unfolding step
signature_taken version sigs o room is says =
    ap (due_line version sigs) (words_of-line_of (codes "signature") (opening_words version o) (signature_has_no version o is 32 space_apart))
    ∙ signature_words version sigs o room is says

pub end_has_no : (n : ℕ) → n ≤ 4096 → (c : ℕ) → c < 48 → list_all (λ b. not (b == c)) (codes "end") ≡ true → AllByRecursion (HasNo c) (codes "end" ∷ decimal n ∷ [])
end_has_no n h c small word = (word_has_no c (codes "end") word, (number_has_no c n small (omega (arith, h)), tt))

end_words : (version : Version) (sigs : List NamedSig) → length sigs ≤ 4096 → due_line version sigs (codes "end" ∷ decimal (length sigs) ∷ []) ≡ Ok (closed version sigs)
unfolding due_line end_line
end_words version sigs h =
    rw (
      filled_number (length sigs) (omega (arith, h)),
      number_of-decimal 4096 (length sigs) (omega arith) h,
      eq-eqb (length sigs) (length sigs) refl,
    ) refl

end_taken : (version : Version) (sigs : List NamedSig) → length sigs ≤ 4096 → step (due version sigs) (spelled (EndLine (length sigs))) ≡ Ok (closed version sigs)
unfolding step
end_taken version sigs h =
    ap (due_line version sigs) (words_of-line_of (codes "end") (decimal (length sigs) ∷ []) (end_has_no (length sigs) h 32 (omega arith) refl)) ∙ end_words version sigs h

pub stack_has_no : (stack : List NamedFrame) → IsStack stack → HasNo 10 (spelled (StackLine stack))
stack_has_no stack is = line_has_no (map spelled_frame stack) (frames_have_no 10 stack refl (not_range 10 (omega arith)) (λ e. omega (arith, e)) is.frames)

pub words_of_stack : (stack : List NamedFrame) → IsStack stack → words_of (spelled (StackLine stack)) ≡ map spelled_frame stack
words_of_stack stack is = go stack is.some (frames_have_no 32 stack refl (not_range 32 (omega arith)) (λ e. omega (arith, e)) is.frames)
  where
    go : (fs : List NamedFrame) → 1 ≤ length fs → AllByRecursion (HasNo 32) (map spelled_frame fs) → words_of (line_of (map spelled_frame fs)) ≡ map spelled_frame fs
    go [] some h = absurd (omega arith)
    go (f ∷ fs) some h = words_of-line_of (spelled_frame f) (map spelled_frame fs) h

stack_taken : (version : Version) (sigs : List NamedSig) (b : Begun) (stack : List NamedFrame) (t : State) → IsStack stack → is_less_than_last stack b.stacks ≡ false → with_stack version sigs b (b.stacks ++ stack ∷ []) ≡ Ok t
    → step (record { version = version; stage = Within b; sigs = sigs }) (spelled (StackLine stack)) ≡ Ok t
unfolding step stack_line
stack_taken version sigs b stack t is after e = rw (words_of_stack stack is, spelled_stack stack is, after) e

-- ---- the stacks of a signature
not_less : (done : List (List NamedFrame)) (x : List NamedFrame) (rest : List (List NamedFrame)) → AreInOrder (done ++ x ∷ rest) → is_less_than_last x done ≡ false
not_less [] x rest h = refl
not_less (a ∷ []) x rest h = h.0
not_less (a ∷ b ∷ done) x rest h = not_less (b ∷ done) x rest h.1

all_at : {X : Type 0} (P : X → Type 0) (front : List X) (x : X) (rest : List X) → AllByRecursion P (front ++ x ∷ rest) → P x
all_at P [] x rest h = h.0
all_at P (y ∷ front) x rest h = all_at P front x rest h.1

abbrev midway : Version → List NamedSig → Opening → List (List NamedFrame) → State
midway version sigs o done = record { version = version; stage = Within (record { opening = o; stacks = done }); sigs = sigs }

abbrev behind : Version → List NamedSig → NamedSig → State
behind version sigs s = due version (sigs ++ s ∷ [])

abbrev stack_lines : List (List NamedFrame) → List ℕ
stack_lines stacks = text_of (map (λ stack. StackLine stack) stacks)

-- the last stack, and one before it
last_with : (version : Version) (sigs : List NamedSig) (b : Begun) (stacks : List (List NamedFrame)) → length stacks ≡ b.opening.count → have_stacks sigs stacks ≡ false
    → with_stack version sigs b stacks ≡ Ok (behind version sigs (signature_with b.opening stacks))
last_with version sigs b stacks size new = rw (eq-eqb (length stacks) b.opening.count size, new) refl

next_with : (version : Version) (sigs : List NamedSig) (b : Begun) (stacks : List (List NamedFrame)) → (length stacks ≡ b.opening.count → ⊥) → with_stack version sigs b stacks ≡ Ok (midway version sigs b.opening stacks)
next_with version sigs b stacks other = rw (ne_eqb (length stacks) b.opening.count other) refl

read_stacks : (version : Version) (sigs : List NamedSig) (o : Opening) (done rest whole : List (List NamedFrame)) (n : ℕ) (tail : List ℕ) → 1 ≤ length rest → done ++ rest ≡ whole → length whole ≡ o.count
    → AllByRecursion IsStack whole → AreInOrder whole → have_stacks sigs whole ≡ false
    → (m : ℕ) × (Reads (midway version sigs o done) n (stack_lines rest ++ tail) ≡ Reads (behind version sigs (signature_with o whole)) m tail)
read_stacks version sigs o done [] whole n tail some e size all sorted new = absurd (omega arith)
read_stacks version sigs o done (x ∷ []) whole n tail some e size all sorted new =
    let b : Begun = record { opening = o; stacks = done } in
    let is = all_at IsStack done x [] (subst (AllByRecursion IsStack) (sym e) all) in
    let after = not_less done x [] (subst AreInOrder (sym e) sorted) in
    let ends = ap (with_stack version sigs b) e ∙ last_with version sigs b whole size new in (
      n + 1,
      ap (λ t. Reads (midway version sigs o done) n (t ++ tail)) (append-nil (ended (spelled (StackLine x))))
          ∙ one_line (midway version sigs o done) (behind version sigs (signature_with o whole)) n (StackLine x) tail (stack_has_no x is)
          (stack_taken version sigs b x (behind version sigs (signature_with o whole)) is after ends),
    )
read_stacks version sigs o done (x ∷ y ∷ rest) whole n tail some e size all sorted new =
    let b : Begun = record { opening = o; stacks = done } in
    let is = all_at IsStack done x (y ∷ rest) (subst (AllByRecursion IsStack) (sym e) all) in
    let after = not_less done x (y ∷ rest) (subst AreInOrder (sym e) sorted) in
    let other : length (done ++ x ∷ []) ≡ o.count → ⊥ = λ f. omega (arith, f, size, ap length (sym e), length-append done (x ∷ y ∷ rest), length_push done x) in
    let goes = next_with version sigs b (done ++ x ∷ []) other in
    let more = read_stacks version sigs o (done ++ x ∷ []) (y ∷ rest) whole (n + 1) tail (omega arith) (append_assoc done (x ∷ []) (y ∷ rest) ∙ e) size all sorted new in (
      more.0,
      ap (Reads (midway version sigs o done) n) (append_assoc (ended (spelled (StackLine x))) (stack_lines (y ∷ rest)) tail)
          ∙ one_line (midway version sigs o done) (midway version sigs o (done ++ x ∷ [])) n (StackLine x) (stack_lines (y ∷ rest) ++ tail) (stack_has_no x is)
          (stack_taken version sigs b x (midway version sigs o (done ++ x ∷ [])) is after goes)
          ∙ more.1,
    )

-- ---- the signatures
abbrev tail_of : Version → List NamedSig → List NamedSig → List ℕ
tail_of version whole rest = text_of (flat_map (sig_lines version) rest) ++ ended (spelled (EndLine (length whole)))

read_end : (version : Version) (sigs : List NamedSig) (n : ℕ) → Reads (closed version sigs) n [] ≡ Ok sigs
unfolding read_from at_end
read_end version sigs n = refl

pub is_opening : (s : NamedSig) → IsSignature s → IsOpening (opening_for s)
is_opening s is = record { low = is.low; high = is.high; some = is.some; few = is.few; yields = is.yields }

read_sigs : (version : Version) (front rest whole : List NamedSig) (n : ℕ) → front ++ rest ≡ whole → IsHistory whole → CanSayAll version whole → Reads (due version front) n (tail_of version whole rest) ≡ Ok whole
read_sigs version front [] whole n e h says =
    let same : front ≡ whole = sym (append-nil front) ∙ e in
    subst (λ sigs. Reads (due version sigs) n (tail_of version whole []) ≡ Ok whole) (sym same) (
    ap (Reads (due version whole) n) (sym (append-nil (ended (spelled (EndLine (length whole))))))
    ∙ one_line (due version whole) (closed version whole) n (EndLine (length whole)) []
    (line_has_no (codes "end" ∷ decimal (length whole) ∷ []) (end_has_no (length whole) h.few 10 (omega arith) refl))
    (end_taken version whole h.few)
    ∙ read_end version whole (n + 1)
    )
read_sigs version front (s ∷ rest) whole n e h says =
    let is = all_at IsSignature front s rest (subst (AllByRecursion IsSignature) (sym e) h.signatures) in
    let said = all_at (λ (x : NamedSig). CanSay version x.on x.yields) front s rest (subst (CanSayAll version) (sym e) says) in
    let new = distinct-front front s rest (subst AreDistinct (sym e) h.distinct) in
    let room : length front < 4096 = omega (arith, h.few, ap length (sym e), length-append front (s ∷ rest)) in
    let o = opening_for s in
    let first = SignatureLine version o in
    let tail = tail_of version whole rest in
    let stacks = read_stacks version front o [] s.stacks s.stacks (n + 1) tail (omega (arith, is.some)) refl refl is.stacks is.sorted new in
    let text : tail_of version whole (s ∷ rest) ≡ ended (spelled first) ++ (stack_lines s.stacks ++ tail) =
    ap (λ t. t ++ ended (spelled (EndLine (length whole)))) (flat_map-append (λ l. ended (spelled l)) (sig_lines version s) (flat_map (sig_lines version) rest))
    ∙ append_assoc (text_of (sig_lines version s)) (text_of (flat_map (sig_lines version) rest)) (ended (spelled (EndLine (length whole))))
    ∙ append_assoc (ended (spelled first)) (stack_lines s.stacks) tail in
    ap (Reads (due version front) n) text
    ∙ one_line (due version front) (midway version front o []) n first (stack_lines s.stacks ++ tail)
    (line_has_no (codes "signature" ∷ opening_words version o) (signature_has_no version o (is_opening s is) 10 feed_apart))
    (signature_taken version front o room (is_opening s is) said)
    ∙ stacks.1
    ∙ read_sigs version (front ++ s ∷ []) rest whole stacks.0 (append_assoc front (s ∷ []) rest ∙ e) h says

pub read_text : (version : Version) (sigs : List NamedSig) → IsHistory sigs → CanSayAll version sigs → history_of (text_in version sigs) ≡ Ok sigs
read_text version sigs h says =
    let last = EndLine (length sigs) ∷ [] in
    let body = flat_map (sig_lines version) sigs in
    let text : text_in version sigs ≡ ended (spelled (HeadLine version)) ++ tail_of version sigs sigs =
    ap (λ t. ended (spelled (HeadLine version)) ++ t) (flat_map-append (λ l. ended (spelled l)) body last ∙ ap (λ t. text_of body ++ t) (append-nil (ended (spelled (EndLine (length sigs)))))) in
    ap (Reads start 1) text
    ∙ one_line start (due version []) 1 (HeadLine version) (tail_of version sigs sigs) (head_has_no version) (head_taken version)
    ∙ read_sigs version [] sigs sigs 2 refl h says

-- ---- both versions
all_said : (sigs : List NamedSig) → CanSayAll Two sigs
all_said [] = tt
all_said (s ∷ sigs) = (tt, all_said sigs)

pub read_again : (sigs : List NamedSig) → IsHistory sigs → history_of (history_text sigs) ≡ Ok sigs
read_again sigs h = read_text Two sigs h (all_said sigs)

-- version 1 says of a history what it says of it with all states on and no yields
plain_said : (sigs : List NamedSig) → CanSayAll One (migrated sigs)
plain_said [] = tt
plain_said (s ∷ sigs) = ((refl, refl), plain_said sigs)

plain_lines : (sigs : List NamedSig) → text_of (flat_map (sig_lines One) (migrated sigs)) ≡ text_of (flat_map (sig_lines One) sigs)
plain_lines [] = refl
plain_lines (s ∷ sigs) =
    flat_map-append (λ l. ended (spelled l)) (sig_lines One (renewed s)) (flat_map (sig_lines One) (migrated sigs))
    ∙ ap (λ t. text_of (sig_lines One s) ++ t) (plain_lines sigs)
    ∙ sym (flat_map-append (λ l. ended (spelled l)) (sig_lines One s) (flat_map (sig_lines One) sigs))

plain_text : (sigs : List NamedSig) → text_in One (migrated sigs) ≡ text_in One sigs
plain_text sigs =
    let whole = λ (ss : List NamedSig). flat_map-append (λ l. ended (spelled l)) (flat_map (sig_lines One) ss) (EndLine (length ss) ∷ []) in
    ap (λ t. ended (spelled (HeadLine One)) ++ t) (
    whole (migrated sigs)
    ∙ ap₂ (λ a n. a ++ text_of (EndLine n ∷ [])) (plain_lines sigs) (length-map sigs renewed)
    ∙ sym (whole sigs)
    )

plain_have : (sigs : List NamedSig) (stacks : List (List NamedFrame)) → have_stacks (migrated sigs) stacks ≡ have_stacks sigs stacks
plain_have [] stacks = refl
plain_have (s ∷ sigs) stacks = ap (λ b. same_stacks s.stacks stacks || b) (plain_have sigs stacks)

plain_distinct : (sigs : List NamedSig) → AreDistinct sigs → AreDistinct (migrated sigs)
plain_distinct [] h = tt
plain_distinct (s ∷ sigs) h = (plain_have sigs s.stacks ∙ h.0, plain_distinct sigs h.1)

plain_signatures : (sigs : List NamedSig) → AllByRecursion IsSignature sigs → AllByRecursion IsSignature (migrated sigs)
plain_signatures [] h = tt
plain_signatures (s ∷ sigs) h = (
  record { low = h.0.low; high = h.0.high; some = h.0.some; few = h.0.few; stacks = h.0.stacks; sorted = h.0.sorted; yields = omega arith },
  plain_signatures sigs h.1,
)

pub plain_history : (sigs : List NamedSig) → IsHistory sigs → IsHistory (migrated sigs)
plain_history sigs h = record {
  few = omega (arith, length-map sigs renewed, h.few);
  signatures = plain_signatures sigs h.signatures;
  distinct = plain_distinct sigs h.distinct;
}

pub read_migrated : (sigs : List NamedSig) → IsHistory sigs → history_of (text_in One sigs) ≡ Ok (migrated sigs)
read_migrated sigs h = ap history_of (sym (plain_text sigs)) ∙ read_text One (migrated sigs) (plain_history sigs h) (plain_said sigs)
