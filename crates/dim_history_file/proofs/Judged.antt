-- What is known of a line that was taken.
use Rattle.std.proofs.Common.{◌≡◌, ◌≤◌, inl, inr, ℕ, Bool, true, false, List, [], ◌∷◌, length, map, Some, Result, Ok, arith, refl, sym, ap, ◌∙◌, subst}
use Rattle.std.specs.Prelude.{◌==◌, ⊤, codes, nat_lt, not}
use Rattle.std.specs.List.{AllByRecursion, list_all}
use Rattle.std.specs.Str.{bytes_eq}
use Rattle.std.specs.Fmt.{decimal}
use Rattle.std.proofs.lemmas.Bool.{eqb-true, eqb-false, ltb-false, not-false}
use Rattle.std.proofs.lemmas.List.{length-map}
use Rattle.std.proofs.lemmas.Slice.Eq.{bytes_eq-Decides}
use Rattle.dim_text.specs.Cuts.{sides_of, frame_word}
use Rattle.dim_text.specs.Numerals.{number_of, number_from}
use Rattle.dim_text.specs.Naming.{name_of, is_name, IsName}
use Rattle.dim_text.specs.Reading.{◌>>=◌, or_else}
use Rattle.dim_text.specs.Words.{unless, filled, one_word, two_words, has_sides}
use Rattle.dim_text.proofs.Exports.{frame_word-sides_of, number_of-Some, bind_ok, or_else_ok, chosen, unless_ok, filled_ok, one_word_ok, two_words_ok, number_from_ok}
use Rattle.dim_history_file.specs.declared.fault.FileKind.{FileKind}
use Rattle.dim_history_file.specs.declared.fault.FileKind.TheVariants.{Line, Name, Number, Count, Limit}
use Rattle.dim_history_file.specs.declared.opening.Opening.{Opening}
use Rattle.dim_history_file.specs.declared.version.Version.{Version}
use Rattle.dim_history_file.specs.declared.version.Version.TheVariants.{One, Two}
use Rattle.dim_history_file.specs.Value.{NamedFrame, NamedSig}
use Rattle.dim_history_file.specs.Judging.{Form, frame_of, frames_of, stack_of, State, Within, Closed, head, version_of, next_word, short_form, long_form, form_of, opening_of, signature_line, end_line}
use Rattle.dim_text.specs.States.{state_in, state_word}
use Rattle.dim_history_file.specs.Spelling.{spelled_frame, opening_words}
use Rattle.dim_history_file.specs.Grammar.{CanSay, IsFrame, IsStack}

pub same_bytes : (a b : List ℕ) → bytes_eq a b ≡ true → a ≡ b
same_bytes a b e = (bytes_eq-Decides a b).0 e

-- ---- words
pub name_ok : (word name : List ℕ) → name_of word ≡ Some name → (word ≡ name) × IsName name
unfolding name_of
name_ok word name e =
    elim (chosen (is_name word) _ _ _ e) [
      | inl is ↦ let same : word ≡ name = cc (is.1) in (same, subst IsName same is.0)
      | inr other ↦ cc (other.1)
    ]

-- ---- frames and stacks
abbrev frame_with : List ℕ → ℕ → Result NamedFrame FileKind
frame_with name at = Ok (record { name = name; at = at })

frame_ok : (word : List ℕ) (f : NamedFrame) → frame_of word ≡ Ok f → (word ≡ spelled_frame f) × IsFrame f
unfolding frame_of
frame_ok word f e =
    let a = bind_ok (or_else (sides_of word) Line) (λ sides. or_else (name_of sides.0) Name >>= λ name. or_else (number_of 65535 sides.1) Number >>= λ at. frame_with name at) f e in
    let b = bind_ok (or_else (name_of a.0.0) Name) (λ name. or_else (number_of 65535 a.0.1) Number >>= λ at. frame_with name at) f a.2 in
    let c = bind_ok (or_else (number_of 65535 a.0.1) Number) (λ at. frame_with b.0 at) f b.2 in
    let name = name_ok a.0.0 b.0 (or_else_ok (name_of a.0.0) Name b.0 b.1) in
    let offset = number_of-Some 65535 c.0 a.0.1 (omega arith) (or_else_ok (number_of 65535 a.0.1) Number c.0 c.1) in
    let g : NamedFrame = record { name = b.0; at = c.0 } in
    let same : g ≡ f = cc (c.2) in
    let sides = frame_word-sides_of word a.0.0 a.0.1 (or_else_ok (sides_of word) Line a.0 a.1) in
    subst (λ (x : NamedFrame). (word ≡ spelled_frame x) × IsFrame x) same (
      sides ∙ ap (λ n. frame_word n a.0.1) name.0 ∙ ap (λ o. frame_word b.0 o) offset.1,
      record { name = name.1; near = offset.0 },
    )

pub frames_ok : (words : List (List ℕ)) (fs : List NamedFrame) → frames_of words ≡ Ok fs → (words ≡ map spelled_frame fs) × AllByRecursion IsFrame fs
frames_ok [] fs e = let same : [] ≡ fs = cc (e) in subst (λ xs. ([] ≡ map spelled_frame xs) × AllByRecursion IsFrame xs) same (refl, tt)
frames_ok (word ∷ words) fs e =
    let a = bind_ok (frame_of word) (λ f. frames_of words >>= λ gs. Ok (f ∷ gs)) fs e in
    let b = bind_ok (frames_of words) (λ gs. Ok (a.0 ∷ gs)) fs a.2 in
    let first = frame_ok word a.0 a.1 in
    let rest = frames_ok words b.0 b.1 in
    let same : a.0 ∷ b.0 ≡ fs = cc (b.2) in
    subst (λ xs. (word ∷ words ≡ map spelled_frame xs) × AllByRecursion IsFrame xs) same (
      ap (λ w. w ∷ words) first.0 ∙ ap (λ ws. spelled_frame a.0 ∷ ws) rest.0,
      (first.1, rest.1),
    )

pub stack_ok : (words : List (List ℕ)) (fs : List NamedFrame) → 1 ≤ length words → stack_of words ≡ Ok fs → (words ≡ map spelled_frame fs) × IsStack fs
unfolding stack_of
stack_ok words fs some e =
    let a = bind_ok (unless (not (list_all has_sides words)) Line) (λ _. unless (nat_lt 32 (length words)) Limit >>= λ _. frames_of words) fs e in
    let b = bind_ok (unless (nat_lt 32 (length words)) Limit) (λ _. frames_of words) fs a.2 in
    let h = frames_ok words fs b.2 in
    let few = ltb-false 32 (length words) (unless_ok (nat_lt 32 (length words)) Limit b.0 b.1) in
    let size = ap length h.0 ∙ length-map fs spelled_frame in
    (h.0, record { some = omega (arith, some, size); few = omega (arith, few, size); frames = h.1 })

-- ---- the first line
pub version_ok : (line : List ℕ) (version : Version) → version_of line ≡ Some version → line ≡ head version
version_ok line version e =
    elim (chosen (bytes_eq line (head One)) _ _ _ e) [
      | inl one ↦ let same : One ≡ version = cc (one.1) in same_bytes line (head One) one.0 ∙ ap head same
      | inr other ↦
          elim (chosen (bytes_eq line (head Two)) _ _ _ other.1) [
            | inl two ↦ let same : Two ≡ version = cc (two.1) in same_bytes line (head Two) two.0 ∙ ap head same
            | inr none ↦ cc (none.1)
          ]
    ]

-- ---- the words of a signature's line
state_ok : (word : List ℕ) (on : Bool) → state_in word ≡ Some on → word ≡ state_word on
state_ok word on e =
    elim (chosen (bytes_eq word (codes "on")) _ _ _ e) [
      | inl one ↦ let same : true ≡ on = cc (one.1) in same_bytes word (codes "on") one.0 ∙ ap state_word same
      | inr other ↦
          elim (chosen (bytes_eq word (codes "off")) _ _ _ other.1) [
            | inl two ↦ let same : false ≡ on = cc (two.1) in same_bytes word (codes "off") two.0 ∙ ap state_word same
            | inr none ↦ cc (none.1)
          ]
    ]

next_word_ok : (words : List (List ℕ)) (p : List ℕ × List (List ℕ)) → next_word words ≡ Ok p → words ≡ p.0 ∷ p.1
next_word_ok [] p e = cc (e)
next_word_ok (first ∷ words) p e =
    let a = bind_ok (filled first Line) (λ w. let q : List ℕ × List (List ℕ) = (w, words) in Ok q) p e in
    let pair : ◌≡◌ {A = List ℕ × List (List ℕ)} (a.0, words) p = cc (a.2) in
    ap (λ w. w ∷ words) (filled_ok first a.0 Line a.1) ∙ ap (λ q. q.0 ∷ q.1) pair

abbrev form_words : Version → Form → List (List ℕ)
form_words One f = f.depth ∷ f.count ∷ []
form_words Two f = f.depth ∷ f.count ∷ state_word f.on ∷ f.yields ∷ []

abbrev IsPlain : Version → Form → Type 0
IsPlain One f = (f.on ≡ true) × (f.yields ≡ codes "0")
IsPlain Two f = ⊤

record Forms (version : Version) (words : List (List ℕ)) (f : Form) : Type 0 where
  pub text : words ≡ form_words version f
  pub plain : IsPlain version f

abbrev form_with : List ℕ → List ℕ → Bool → List ℕ → Result Form FileKind
form_with depth count on yields = Ok (record { depth = depth; count = count; on = on; yields = yields })

short_ok : (words : List (List ℕ)) (f : Form) → short_form words ≡ Ok f → Forms One words f
unfolding short_form
short_ok words f e =
    let a = bind_ok (two_words words Line) (λ pair. form_with pair.0 pair.1 true (codes "0")) f e in
    let g : Form = record { depth = a.0.0; count = a.0.1; on = true; yields = codes "0" } in
    let same : g ≡ f = cc (a.2) in
    subst (Forms One words) same (record { text = two_words_ok words a.0 Line a.1; plain = (refl, refl) })

long_ok : (words : List (List ℕ)) (f : Form) → long_form words ≡ Ok f → Forms Two words f
unfolding long_form
long_ok words f e =
    let a = bind_ok (next_word words) (λ depth. next_word depth.1 >>= λ count. two_words count.1 Line >>= λ pair. or_else (state_in pair.0) Line >>= λ on. form_with depth.0 count.0 on pair.1) f e in
    let b = bind_ok (next_word a.0.1) (λ count. two_words count.1 Line >>= λ pair. or_else (state_in pair.0) Line >>= λ on. form_with a.0.0 count.0 on pair.1) f a.2 in
    let c = bind_ok (two_words b.0.1 Line) (λ pair. or_else (state_in pair.0) Line >>= λ on. form_with a.0.0 b.0.0 on pair.1) f b.2 in
    let d = bind_ok (or_else (state_in c.0.0) Line) (λ on. form_with a.0.0 b.0.0 on c.0.1) f c.2 in
    let g : Form = record { depth = a.0.0; count = b.0.0; on = d.0; yields = c.0.1 } in
    let same : g ≡ f = cc (d.2) in
    let state = state_ok c.0.0 d.0 (or_else_ok (state_in c.0.0) Line d.0 d.1) in
    subst (Forms Two words) same (record {
      text =
          next_word_ok words a.0 a.1
          ∙ ap (λ ws. a.0.0 ∷ ws) (next_word_ok a.0.1 b.0 b.1)
          ∙ ap (λ ws. a.0.0 ∷ b.0.0 ∷ ws) (two_words_ok b.0.1 c.0 Line c.1)
          ∙ ap (λ w. a.0.0 ∷ b.0.0 ∷ w ∷ c.0.1 ∷ []) state;
      plain = tt;
    })

form_ok : (version : Version) (words : List (List ℕ)) (f : Form) → form_of version words ≡ Ok f → Forms version words f
form_ok One words f e = short_ok words f e
form_ok Two words f e = long_ok words f e

-- ---- its numbers
record Numbers (f : Form) (o : Opening) : Type 0 where
  pub depth : f.depth ≡ decimal o.depth
  pub count : f.count ≡ decimal o.count
  pub yields : f.yields ≡ decimal o.yields
  pub number : number_of 4294967295 f.yields ≡ Some o.yields
  pub on : f.on ≡ o.on
  pub low : 1 ≤ o.depth
  pub high : o.depth ≤ 32
  pub some : 2 ≤ o.count
  pub few : o.count ≤ 32
  pub bound : o.yields ≤ 4294967295

abbrev opening_with : Form → ℕ → ℕ → ℕ → Result Opening FileKind
opening_with f depth count yields = Ok (record { depth = depth; count = count; on = f.on; yields = yields })

numbers_ok : (f : Form) (o : Opening) → opening_of f ≡ Ok o → Numbers f o
unfolding opening_of
numbers_ok f o e =
    let a = bind_ok (or_else (number_from 1 32 f.depth) Number) (λ depth. or_else (number_from 2 32 f.count) Number >>= λ count. or_else (number_of 4294967295 f.yields) Number >>= λ yields. opening_with f depth count yields) o e in
    let b = bind_ok (or_else (number_from 2 32 f.count) Number) (λ count. or_else (number_of 4294967295 f.yields) Number >>= λ yields. opening_with f a.0 count yields) o a.2 in
    let c = bind_ok (or_else (number_of 4294967295 f.yields) Number) (λ yields. opening_with f a.0 b.0 yields) o b.2 in
    let g : Opening = record { depth = a.0; count = b.0; on = f.on; yields = c.0 } in
    let same : g ≡ o = cc (c.2) in
    let depth = number_from_ok 1 32 a.0 f.depth (omega arith) (or_else_ok (number_from 1 32 f.depth) Number a.0 a.1) in
    let count = number_from_ok 2 32 b.0 f.count (omega arith) (or_else_ok (number_from 2 32 f.count) Number b.0 b.1) in
    let found = or_else_ok (number_of 4294967295 f.yields) Number c.0 c.1 in
    let yields = number_of-Some 4294967295 c.0 f.yields (omega arith) found in
    subst (Numbers f) same (record {
      depth = depth.2;
      count = count.2;
      yields = yields.1;
      number = found;
      on = refl;
      low = depth.0;
      high = depth.1;
      some = count.0;
      few = count.1;
      bound = yields.0;
    })

-- ---- the lines of a signature and of the end
pub record Says (version : Version) (words : List (List ℕ)) (o : Opening) : Type 0 where
  pub text : words ≡ opening_words version o
  pub says : CanSay version o.on o.yields
  pub low : 1 ≤ o.depth
  pub high : o.depth ≤ 32
  pub some : 2 ≤ o.count
  pub few : o.count ≤ 32
  pub yields : o.yields ≤ 4294967295

says_ok : (version : Version) (words : List (List ℕ)) (f : Form) (o : Opening) → Forms version words f → Numbers f o → Says version words o
unfolding number_of
says_ok One words f o h n =
    let none : Some o.yields ≡ Some 0 = sym n.number ∙ ap (number_of 4294967295) h.plain.1 in
    record {
      text = h.text ∙ ap (λ x. x ∷ f.count ∷ []) n.depth ∙ ap (λ x. decimal o.depth ∷ x ∷ []) n.count;
      says = (sym n.on ∙ h.plain.0, cc (none));
      low = n.low;
      high = n.high;
      some = n.some;
      few = n.few;
      yields = n.bound;
    }
says_ok Two words f o h n = record {
  text =
      h.text
      ∙ ap (λ x. x ∷ f.count ∷ state_word f.on ∷ f.yields ∷ []) n.depth
      ∙ ap (λ x. decimal o.depth ∷ x ∷ state_word f.on ∷ f.yields ∷ []) n.count
      ∙ ap (λ x. decimal o.depth ∷ decimal o.count ∷ state_word x ∷ f.yields ∷ []) n.on
      ∙ ap (λ x. decimal o.depth ∷ decimal o.count ∷ state_word o.on ∷ x ∷ []) n.yields;
  says = tt;
  low = n.low;
  high = n.high;
  some = n.some;
  few = n.few;
  yields = n.bound;
}

pub record Opens (version : Version) (sigs : List NamedSig) (words : List (List ℕ)) (t : State) : Type 0 where
  pub opening : Opening
  pub after : t ≡ record { version = version; stage = Within (record { opening = opening; stacks = [] }); sigs = sigs }
  pub says : Says version words opening
  pub room : length sigs ≡ 4096 → ⊥

abbrev opened : Version → List NamedSig → Opening → Result State FileKind
opened version sigs opening = Ok (record { version = version; stage = Within (record { opening = opening; stacks = [] }); sigs = sigs })

pub signature_ok : (version : Version) (sigs : List NamedSig) (words : List (List ℕ)) (t : State) → signature_line version sigs words ≡ Ok t → Opens version sigs words t
unfolding signature_line
signature_ok version sigs words t e =
    let a = bind_ok (form_of version words) (λ form. unless (length sigs == 4096) Limit >>= λ _. opening_of form >>= λ opening. opened version sigs opening) t e in
    let b = bind_ok (unless (length sigs == 4096) Limit) (λ _. opening_of a.0 >>= λ opening. opened version sigs opening) t a.2 in
    let c = bind_ok (opening_of a.0) (λ opening. opened version sigs opening) t b.2 in
    record {
      opening = c.0;
      after = cc (c.2);
      says = says_ok version words a.0 c.0 (form_ok version words a.0 a.1) (numbers_ok a.0 c.0 c.1);
      room = eqb-false (length sigs) 4096 (unless_ok (length sigs == 4096) Limit b.0 b.1);
    }

abbrev ended : Version → List NamedSig → Result State FileKind
ended version sigs = Ok (record { version = version; stage = Closed; sigs = sigs })

pub end_ok : (version : Version) (sigs : List NamedSig) (words : List (List ℕ)) (t : State) → end_line version sigs words ≡ Ok t → (t ≡ record { version = version; stage = Closed; sigs = sigs }) × (words ≡ decimal (length sigs) ∷ [])
unfolding end_line
end_ok version sigs words t e =
    let a = bind_ok (one_word words Line) (λ word. or_else (number_of 4096 word) Number >>= λ n. unless (not (n == length sigs)) Count >>= λ _. ended version sigs) t e in
    let b = bind_ok (or_else (number_of 4096 a.0) Number) (λ n. unless (not (n == length sigs)) Count >>= λ _. ended version sigs) t a.2 in
    let c = bind_ok (unless (not (b.0 == length sigs)) Count) (λ _. ended version sigs) t b.2 in
    let number = number_of-Some 4096 b.0 a.0 (omega arith) (or_else_ok (number_of 4096 a.0) Number b.0 b.1) in
    let count = eqb-true b.0 (length sigs) (not-false (b.0 == length sigs) (unless_ok (not (b.0 == length sigs)) Count c.0 c.1)) in
    (cc (c.2), one_word_ok words a.0 Line a.1 ∙ ap (λ x. x ∷ []) (number.1 ∙ ap decimal count))
