-- The text of a picture is well-formed.
use Rattle.std.proofs.Common.{◌≡◌, ℕ, zero, suc, ◌+◌, ◌-◌, ◌*◌, ◌<◌, ◌/◌, ◌%◌, refl, ap, sym, ◌∙◌, subst, arith, Bool, true, false, inl, inr, List, [], ◌∷◌, ◌++◌, length, map, take, drop, append_assoc}
use Rattle.std.specs.Prelude.{◌==◌, nat_lt, nat_le, not, if◌then◌else◌, codes, Option, Some, None, slice_get}
use Rattle.std.specs.Fmt.{decimal, digits, digits_onto, digit_glyph}
use Rattle.std.specs.List.{list_all, flat_map, join_with_byte, AllByRecursion}
use Rattle.std.proofs.lemmas.Bool.{cases_Bool, and_from, ne_eqb, lt-ltb}
use Rattle.std.proofs.lemmas.Nat.{mod_below}
use Rattle.std.proofs.lemmas.List.Folds.{list_all-append}
use Rattle.dim_base.specs.declared.Tid.{Tid}
use Rattle.dim_base.specs.declared.Lid.{Lid}
use Rattle.dim_stack.specs.declared.Frame.{Frame}
use Rattle.dim_asm.specs.Code.{Code, thread_count, lock_count, start_of, func_name_of}
use Rattle.dim_rag.specs.declared.entry.Why.{Why}
use Rattle.dim_rag.specs.declared.entry.Why.TheVariants.{Done, Trapped, Spent}
use Rattle.dim_rag.specs.declared.entry.MissWhy.{MissWhy}
use Rattle.dim_rag.specs.declared.entry.MissWhy.TheVariants.{Busy, Avoid}
use Rattle.dim_rag.specs.declared.entry.Entry.{Entry}
use Rattle.dim_rag.specs.declared.entry.Entry.TheVariants as entry
use Rattle.dim_run.specs.declared.playing.Outcome.{Outcome}
use Rattle.dim_run.specs.declared.playing.Outcome.TheVariants.{Finished, Deadlocked, Stalled}
use Rattle.dim_trace.specs.Text.{lock_word, name_at, frame_word, stack_words, births_words, cover_words, miss_word}
use Rattle.dim_trace.specs.Text.{why_words as why_words_of}
use Rattle.dim_picture.specs.declared.style.TheConstants.{STYLE, PATTERNS, KINDS}
use Rattle.dim_picture.specs.declared.mark.Mark.{Mark}
use Rattle.dim_picture.specs.declared.mark.Mark.TheVariants.{Wait, Yield, Hold, Deeper, Inner, Free, Miss, End, Break, Learn}
use Rattle.dim_picture.specs.declared.shape.Shape.{Shape}
use Rattle.dim_picture.specs.Documents.{HavePlainNames, DocumentLaw}
use Rattle.dim_picture.specs.Elements.{rect, opening, words, named, line, circle, sign}
use Rattle.dim_picture.specs.Figures.{pattern_class, pattern, hold, wait, sig_word, yielding, broken, freed, missed, why_words, ended, figure, figure_by, lane_of, laned, middle, link_to, ring_at, link, ring, references_by}
use Rattle.dim_picture.specs.Frames.{x_of, y_of, top_of, width_of, is_shown, frame_of}
use Rattle.dim_picture.specs.Lines.{line_of, line_at}
use Rattle.dim_picture.specs.Page.{opened, style, patterns, kinds, kinds_y, outcome_word, range_words, heading, is_labelled, tick_label, tick, tick_at, ticks, lanes, colour_of, group, shown, mark_by, marks, colour_group, lock_keys, moved, picture_in, picture_text}
use Rattle.dim_picture.specs.Value.{FrameValue}
use Rattle.dim_picture.specs.Xml.{is_plain, IsPlain, IsContent, IsDocument, Attribute, with_attributes, AreAttributes}
use Rattle.dim_picture.specs.Xml.{said, both, element, empty}

pub plain_both : (xs ys : List ℕ) → IsPlain xs → IsPlain ys → IsPlain (xs ++ ys)
plain_both xs ys x y = list_all-append is_plain xs ys ∙ and_from (list_all is_plain xs) (list_all is_plain ys) x y

-- ---- numbers

not_at : (a b : ℕ) → (a ≡ b → ⊥) → not (a == b) ≡ true
not_at a b n = ap not (ne_eqb a b n)

plain_digit : (d : ℕ) → d < 10 → is_plain (48 + d) ≡ true
plain_digit d low =
    and_from (not (48 + d == 34)) _ (not_at (48 + d) 34 (λ e. omega (arith, e)))
    (and_from (not (48 + d == 38)) _ (not_at (48 + d) 38 (λ e. omega (arith, e)))
    (and_from (not (48 + d == 60)) (not (48 + d == 62)) (not_at (48 + d) 60 (λ e. omega (arith, e, low))) (not_at (48 + d) 62 (λ e. omega (arith, e, low)))))

plain_glyph : (n : ℕ) → is_plain (digit_glyph false (n % 10)) ≡ true
plain_glyph n =
    let low = mod_below n 10 (omega arith) in
    rw (lt-ltb (n % 10) 10 low) (plain_digit (n % 10) low)

plain_onto : (k n : ℕ) (acc : List ℕ) → IsPlain acc → IsPlain (digits_onto k 10 false n acc)
plain_onto zero n acc a = a
plain_onto (suc k) n acc a =
    let one : IsPlain (digit_glyph false (n % 10) ∷ acc) = and_from (is_plain (digit_glyph false (n % 10))) (list_all is_plain acc) (plain_glyph n) a in
    elim (cases_Bool (n / 10 == 0)) [
      | inl y ↦ rw y one
      | inr z ↦ rw z (plain_onto k (n / 10) (digit_glyph false (n % 10) ∷ acc) one)
    ]

pub plain_decimal : (n : ℕ) → IsPlain (decimal n)
unfolding digits
plain_decimal n = plain_onto 64 n [] refl

-- ---- elements

-- content by a choice
pub either : (b : Bool) (xs ys : List ℕ) → IsContent xs → IsContent ys → IsContent (if b then xs else ys)
either true xs ys x y = x
either false xs ys x y = y

abbrev at : List ℕ → List ℕ → Attribute
at name value = record { name = name; value = value }

pub rect_content : (class : List ℕ) (x y width height : ℕ) → IsPlain class → IsContent (rect class x y width height)
unfolding rect
rect_content class x y width height p =
    empty (codes "rect") (at (codes "class") class ∷ at (codes "x") (decimal x) ∷ at (codes "y") (decimal y) ∷ at (codes "width") (decimal width) ∷ at (codes "height") (decimal height) ∷ [])
    refl (refl, p, (refl, plain_decimal x, (refl, plain_decimal y, (refl, plain_decimal width, (refl, plain_decimal height, tt)))))

pub line_content : (class : List ℕ) (x from to : ℕ) → IsPlain class → IsContent (line class x from to)
unfolding line
line_content class x from to p =
    subst IsContent (stroke_is class x from to) (
    empty (codes "path") (at (codes "class") class ∷ at (codes "d") (codes "M" ++ (decimal x ++ (codes " " ++ (decimal from ++ (codes "V" ++ decimal to))))) ∷ [])
    refl (refl, p, (refl, plain_both (decimal x) _ (plain_decimal x) (plain_both (decimal from) _ (plain_decimal from) (plain_decimal to)), tt))
    ) where
      stroke_is : (class : List ℕ) (x from to : ℕ)
          → codes "<" ++ (codes "path" ++ with_attributes (at (codes "class") class ∷ at (codes "d") (codes "M" ++ (decimal x ++ (codes " " ++ (decimal from ++ (codes "V" ++ decimal to))))) ∷ []) (codes "/>"))
          ≡ codes "<path class=\"" ++ (class ++ (codes "\" d=\"M" ++ (decimal x ++ (codes " " ++ (decimal from ++ (codes "V" ++ (decimal to ++ codes "\"/>")))))))
      stroke_is class x from to = simp append_assoc refl

pub circle_content : (class : List ℕ) (x y radius : ℕ) → IsPlain class → IsContent (circle class x y radius)
unfolding circle
circle_content class x y radius p =
    empty (codes "circle") (at (codes "class") class ∷ at (codes "cx") (decimal x) ∷ at (codes "cy") (decimal y) ∷ at (codes "r") (decimal radius) ∷ [])
    refl (refl, p, (refl, plain_decimal x, (refl, plain_decimal y, (refl, plain_decimal radius, tt))))

pub sign_content : (class : List ℕ) (x y : ℕ) (strokes : List ℕ) → IsPlain class → IsPlain strokes → IsContent (sign class x y strokes)
unfolding sign
sign_content class x y strokes p q =
    subst IsContent (stroke_is class x y strokes) (
    empty (codes "path") (at (codes "class") class ∷ at (codes "d") (codes "M" ++ (decimal x ++ (codes " " ++ (decimal y ++ strokes)))) ∷ [])
    refl (refl, p, (refl, plain_both (decimal x) _ (plain_decimal x) (plain_both (decimal y) strokes (plain_decimal y) q), tt))
    ) where
      stroke_is : (class : List ℕ) (x y : ℕ) (strokes : List ℕ)
          → codes "<" ++ (codes "path" ++ with_attributes (at (codes "class") class ∷ at (codes "d") (codes "M" ++ (decimal x ++ (codes " " ++ (decimal y ++ strokes)))) ∷ []) (codes "/>"))
          ≡ codes "<path class=\"" ++ (class ++ (codes "\" d=\"M" ++ (decimal x ++ (codes " " ++ (decimal y ++ (strokes ++ codes "\"/>"))))))
      stroke_is class x y strokes = simp append_assoc refl

-- words between an opening and its close
pub text_content : (class : List ℕ) (x y : ℕ) (inside : List ℕ) → IsPlain class → IsPlain inside → IsContent (opening class x y ++ (inside ++ codes "</text>"))
unfolding opening
text_content class x y inside p q =
    subst IsContent (text_is class x y inside) (
    element (codes "text") (at (codes "class") class ∷ at (codes "x") (decimal x) ∷ at (codes "y") (decimal y) ∷ []) inside
    refl (refl, p, (refl, plain_decimal x, (refl, plain_decimal y, tt))) (said inside q)
    ) where
      text_is : (class : List ℕ) (x y : ℕ) (inside : List ℕ)
          → codes "<" ++ (codes "text" ++ with_attributes (at (codes "class") class ∷ at (codes "x") (decimal x) ∷ at (codes "y") (decimal y) ∷ []) (codes ">" ++ (inside ++ (codes "</" ++ (codes "text" ++ codes ">")))))
          ≡ (codes "<text class=\"" ++ (class ++ (codes "\" x=\"" ++ (decimal x ++ (codes "\" y=\"" ++ (decimal y ++ codes "\">")))))) ++ (inside ++ codes "</text>")
      text_is class x y inside = simp append_assoc refl

pub named_content : (class : List ℕ) (x y width : ℕ) (name : List ℕ) → IsPlain class → IsPlain name → IsContent (named class x y width name)
named_content class x y width name p q = either (nat_lt ((width - 9) / 7) (length name)) [] (words class (x + 5) (y + 13) name) (said [] refl) (text_content class (x + 5) (y + 13) name p q)

-- ---- figures

plain_class : (l : Lid) → IsPlain (pattern_class l)
plain_class l = plain_choice ((l.0 / 8) % 4 == 1) (codes "p1") _ refl (plain_choice ((l.0 / 8) % 4 == 2) (codes "p2") _ refl (plain_choice ((l.0 / 8) % 4 == 3) (codes "p3") (codes "p0") refl refl)) where
  plain_choice : (b : Bool) (xs ys : List ℕ) → IsPlain xs → IsPlain ys → IsPlain (if b then xs else ys)
  plain_choice true xs ys x y = x
  plain_choice false xs ys x y = y

pattern_content : (l : Lid) (x y width : ℕ) → IsContent (pattern l x y width)
pattern_content l x y width = either (nat_lt l.0 8) [] (rect (pattern_class l) x y width 18) (said [] refl) (rect_content (pattern_class l) x y width 18 (plain_class l))

module _ (name : List ℕ) (q : IsPlain name) where
  pub hold_content : (l : Lid) (x y width : ℕ) → IsContent (hold name l x y width)
  hold_content l x y width =
      both (rect (codes "hold") x y width 18) _ (rect_content (codes "hold") x y width 18 refl)
      (both (pattern l x y width) _ (pattern_content l x y width) (named_content (codes "in") x y width name refl q))

  pub wait_content : (x y width : ℕ) (lasts : Bool) → IsContent (wait name x y width lasts)
  wait_content x y width lasts =
      both (rect (codes "wait") x y width 18) _ (rect_content (codes "wait") x y width 18 refl)
      (either lasts (named (codes "out") x y width name) [] (named_content (codes "out") x y width name refl q) (said [] refl))

  pub broken_content : (x y width : ℕ) (lasts : Bool) → IsContent (broken name x y width lasts)
  broken_content x y width lasts = both (wait name x y width lasts) _ (wait_content x y width lasts) (sign_content (codes "break") x (y + 1) (codes "l8 8l-8 8l-8 -8z") refl refl)

  pub missed_content : (x y width : ℕ) → IsContent (missed name x y width)
  missed_content x y width =
      both (sign (codes "miss") x (y + 4) (codes "l10 10m0 -10l-10 10")) _ (sign_content (codes "miss") x (y + 4) (codes "l10 10m0 -10l-10 10") refl refl)
      (either (nat_lt ((width - 18) / 7) (length name)) [] (words (codes "miss") (x + 14) (y + 13) name) (said [] refl) (text_content (codes "miss") (x + 14) (y + 13) name refl q))

plain_sig : (width sig : ℕ) → IsPlain (sig_word width ++ decimal sig)
plain_sig width sig = plain_both (sig_word width) (decimal sig) (choose (nat_le 46 width)) (plain_decimal sig) where
  choose : (b : Bool) → IsPlain (if b then codes "sig " else [])
  choose true = refl
  choose false = refl

pub yielding_content : (sig x y width : ℕ) → IsContent (yielding sig x y width)
yielding_content sig x y width =
    both (rect (codes "yield") x y width 18) _ (rect_content (codes "yield") x y width 18 refl)
    (subst IsContent (ap (λ (t : List ℕ). opening (codes "sig") (x + 5) (y + 13) ++ t) (append_assoc (sig_word width) (decimal sig) (codes "</text>"))) (text_content (codes "sig") (x + 5) (y + 13) (sig_word width ++ decimal sig) refl (plain_sig width sig)))

pub freed_content : (x y : ℕ) → IsContent (freed x y)
freed_content x y = rect_content (codes "free") (x - 3) y 3 18 refl

plain_why : (why : Why) → IsPlain (why_words why)
plain_why Done = refl
plain_why (Trapped trap) = plain_decimal trap
plain_why Spent = refl

pub ended_content : (why : Why) (x y : ℕ) → IsContent (ended why x y)
ended_content why x y =
    both (rect (codes "end") x (y + 4) 10 10) _ (rect_content (codes "end") x (y + 4) 10 10 refl)
    (text_content (codes "out") (x + 14) (y + 13) (why_words why) refl (plain_why why))

style_inside : List ℕ
style_inside = take (length STYLE.now - 16) (drop 7 STYLE.now)

style_are : STYLE.now ≡ (codes "<" ++ (codes "style" ++ with_attributes [] (codes ">" ++ (style_inside ++ (codes "</" ++ (codes "style" ++ codes ">")))))) ++ codes "\n"
unfolding style_inside
style_are = refl

pub style_content : IsContent style
unfolding style style_inside
style_content = subst IsContent (sym style_are) (both _ (codes "\n") (element (codes "style") [] style_inside refl tt (said style_inside refl)) (said (codes "\n") refl))

inside_1 : List ℕ
inside_1 = codes "\n" ++ (codes "<" ++ (codes "path" ++ with_attributes (at (codes "d") (codes "M-2 2L2 -2M0 8L8 0M6 10L10 6") ∷ at (codes "stroke") (codes "#ffffff") ∷ at (codes "stroke-width") (codes "2") ∷ []) (codes "/>")))

pattern_1 : List ℕ
pattern_1 = codes "<" ++ (codes "pattern" ++ with_attributes (at (codes "id") (codes "p1") ∷ at (codes "width") (codes "8") ∷ at (codes "height") (codes "8") ∷ at (codes "patternUnits") (codes "userSpaceOnUse") ∷ []) (codes ">" ++ (inside_1 ++ (codes "</" ++ (codes "pattern" ++ codes ">")))))

pattern_1_content : IsContent pattern_1
unfolding pattern_1 inside_1
pattern_1_content = element (codes "pattern") (at (codes "id") (codes "p1") ∷ at (codes "width") (codes "8") ∷ at (codes "height") (codes "8") ∷ at (codes "patternUnits") (codes "userSpaceOnUse") ∷ []) inside_1 refl (refl, refl, (refl, refl, (refl, refl, (refl, refl, tt)))) (both (codes "\n") _ (said (codes "\n") refl) (empty (codes "path") (at (codes "d") (codes "M-2 2L2 -2M0 8L8 0M6 10L10 6") ∷ at (codes "stroke") (codes "#ffffff") ∷ at (codes "stroke-width") (codes "2") ∷ []) refl (refl, refl, (refl, refl, (refl, refl, tt)))))

inside_2 : List ℕ
inside_2 = codes "\n" ++ (codes "<" ++ (codes "circle" ++ with_attributes (at (codes "cx") (codes "4") ∷ at (codes "cy") (codes "4") ∷ at (codes "r") (codes "2") ∷ at (codes "fill") (codes "#ffffff") ∷ []) (codes "/>")))

pattern_2 : List ℕ
pattern_2 = codes "<" ++ (codes "pattern" ++ with_attributes (at (codes "id") (codes "p2") ∷ at (codes "width") (codes "8") ∷ at (codes "height") (codes "8") ∷ at (codes "patternUnits") (codes "userSpaceOnUse") ∷ []) (codes ">" ++ (inside_2 ++ (codes "</" ++ (codes "pattern" ++ codes ">")))))

pattern_2_content : IsContent pattern_2
unfolding pattern_2 inside_2
pattern_2_content = element (codes "pattern") (at (codes "id") (codes "p2") ∷ at (codes "width") (codes "8") ∷ at (codes "height") (codes "8") ∷ at (codes "patternUnits") (codes "userSpaceOnUse") ∷ []) inside_2 refl (refl, refl, (refl, refl, (refl, refl, (refl, refl, tt)))) (both (codes "\n") _ (said (codes "\n") refl) (empty (codes "circle") (at (codes "cx") (codes "4") ∷ at (codes "cy") (codes "4") ∷ at (codes "r") (codes "2") ∷ at (codes "fill") (codes "#ffffff") ∷ []) refl (refl, refl, (refl, refl, (refl, refl, (refl, refl, tt))))))

inside_3 : List ℕ
inside_3 = codes "\n" ++ (codes "<" ++ (codes "rect" ++ with_attributes (at (codes "width") (codes "6") ∷ at (codes "height") (codes "2") ∷ at (codes "fill") (codes "#ffffff") ∷ []) (codes "/>")))

pattern_3 : List ℕ
pattern_3 = codes "<" ++ (codes "pattern" ++ with_attributes (at (codes "id") (codes "p3") ∷ at (codes "width") (codes "6") ∷ at (codes "height") (codes "6") ∷ at (codes "patternUnits") (codes "userSpaceOnUse") ∷ []) (codes ">" ++ (inside_3 ++ (codes "</" ++ (codes "pattern" ++ codes ">")))))

pattern_3_content : IsContent pattern_3
unfolding pattern_3 inside_3
pattern_3_content = element (codes "pattern") (at (codes "id") (codes "p3") ∷ at (codes "width") (codes "6") ∷ at (codes "height") (codes "6") ∷ at (codes "patternUnits") (codes "userSpaceOnUse") ∷ []) inside_3 refl (refl, refl, (refl, refl, (refl, refl, (refl, refl, tt)))) (both (codes "\n") _ (said (codes "\n") refl) (empty (codes "rect") (at (codes "width") (codes "6") ∷ at (codes "height") (codes "2") ∷ at (codes "fill") (codes "#ffffff") ∷ []) refl (refl, refl, (refl, refl, (refl, refl, tt)))))

inside_4 : List ℕ
inside_4 = codes "\n" ++ ((codes "<" ++ (codes "rect" ++ with_attributes (at (codes "width") (codes "8") ∷ at (codes "height") (codes "8") ∷ at (codes "fill") (codes "#ffffff") ∷ []) (codes "/>"))) ++ (codes "\n" ++ (codes "<" ++ (codes "path" ++ with_attributes (at (codes "d") (codes "M-2 2L2 -2M0 8L8 0M6 10L10 6") ∷ at (codes "stroke") (codes "#ee9999") ∷ at (codes "stroke-width") (codes "3") ∷ []) (codes "/>")))))

pattern_4 : List ℕ
pattern_4 = codes "<" ++ (codes "pattern" ++ with_attributes (at (codes "id") (codes "hatch") ∷ at (codes "width") (codes "8") ∷ at (codes "height") (codes "8") ∷ at (codes "patternUnits") (codes "userSpaceOnUse") ∷ []) (codes ">" ++ (inside_4 ++ (codes "</" ++ (codes "pattern" ++ codes ">")))))

pattern_4_content : IsContent pattern_4
unfolding pattern_4 inside_4
pattern_4_content = element (codes "pattern") (at (codes "id") (codes "hatch") ∷ at (codes "width") (codes "8") ∷ at (codes "height") (codes "8") ∷ at (codes "patternUnits") (codes "userSpaceOnUse") ∷ []) inside_4 refl (refl, refl, (refl, refl, (refl, refl, (refl, refl, tt)))) (both (codes "\n") _ (said (codes "\n") refl) (both _ _ (empty (codes "rect") (at (codes "width") (codes "8") ∷ at (codes "height") (codes "8") ∷ at (codes "fill") (codes "#ffffff") ∷ []) refl (refl, refl, (refl, refl, (refl, refl, tt)))) (both (codes "\n") _ (said (codes "\n") refl) (empty (codes "path") (at (codes "d") (codes "M-2 2L2 -2M0 8L8 0M6 10L10 6") ∷ at (codes "stroke") (codes "#ee9999") ∷ at (codes "stroke-width") (codes "3") ∷ []) refl (refl, refl, (refl, refl, (refl, refl, tt)))))))

defs_inside : List ℕ
defs_inside = codes "\n" ++ (pattern_1 ++ (codes "\n" ++ (pattern_2 ++ (codes "\n" ++ (pattern_3 ++ (codes "\n" ++ (pattern_4 ++ (codes "\n"))))))))

patterns_are : PATTERNS.now ≡ (codes "<" ++ (codes "defs" ++ with_attributes [] (codes ">" ++ (defs_inside ++ (codes "</" ++ (codes "defs" ++ codes ">")))))) ++ codes "\n"
unfolding defs_inside pattern_1 pattern_2 pattern_3 pattern_4 inside_1 inside_2 inside_3 inside_4
patterns_are = refl

defs_content : IsContent defs_inside
unfolding defs_inside
defs_content = both (codes "\n") _ (said (codes "\n") refl) (both pattern_1 _ pattern_1_content (both (codes "\n") _ (said (codes "\n") refl) (both pattern_2 _ pattern_2_content (both (codes "\n") _ (said (codes "\n") refl) (both pattern_3 _ pattern_3_content (both (codes "\n") _ (said (codes "\n") refl) (both pattern_4 _ pattern_4_content (said (codes "\n") refl))))))))

pub patterns_content : IsContent patterns
unfolding patterns
patterns_content = subst IsContent (sym patterns_are) (both _ (codes "\n") (element (codes "defs") [] defs_inside refl tt defs_content) (said (codes "\n") refl))

kinds_inside : List ℕ
kinds_inside = codes "\n" ++ (rect (codes "hold") 0 0 28 18 ++ (codes "\n" ++ (words (codes "out") 36 13 (codes "holds a lock") ++ (codes "\n" ++ (rect (codes "hold") 160 0 28 18 ++ (codes "\n" ++ (rect (codes "free") 185 0 3 18 ++ (codes "\n" ++ (words (codes "out") 196 13 (codes "frees it") ++ (codes "\n" ++ (rect (codes "wait") 320 0 28 18 ++ (codes "\n" ++ (words (codes "out") 356 13 (codes "waits for a lock") ++ (codes "\n" ++ (rect (codes "yield") 480 0 28 18 ++ (codes "\n" ++ (words (codes "out") 516 13 (codes "yields") ++ (codes "\n" ++ (line (codes "link") 654 0 12 ++ (codes "\n" ++ (circle (codes "dot") 654 12 4 ++ (codes "\n" ++ (words (codes "out") 676 13 (codes "because of a bar") ++ (codes "\n" ++ (sign (codes "miss") 9 30 (codes "l10 10m0 -10l-10 10") ++ (codes "\n" ++ (words (codes "out") 36 39 (codes "tried in vain") ++ (codes "\n" ++ (line (codes "learn") 174 26 44 ++ (codes "\n" ++ (circle (codes "ring") 174 35 5 ++ (codes "\n" ++ (words (codes "out") 196 39 (codes "learns holds") ++ (codes "\n" ++ (sign (codes "break") 334 27 (codes "l8 8l-8 8l-8 -8z") ++ (codes "\n" ++ (words (codes "out") 356 39 (codes "is let through") ++ (codes "\n" ++ (rect (codes "end") 489 30 10 10 ++ (codes "\n" ++ (words (codes "out") 516 39 (codes "ends") ++ (codes "\n" ++ (words (codes "count") 642 40 (codes "+") ++ (codes "\n" ++ (words (codes "count") 658 40 (codes "-") ++ (codes "\n" ++ (words (codes "out") 676 39 (codes "once more, once less") ++ codes "\n")))))))))))))))))))))))))))))))))))))))))))))))

kinds_are : KINDS.now ≡ (codes "<" ++ (codes "g" ++ with_attributes (at (codes "class") (codes "l7") ∷ []) (codes ">" ++ (kinds_inside ++ (codes "</" ++ (codes "g" ++ codes ">")))))) ++ codes "\n"
unfolding kinds_inside rect opening line circle sign digits
kinds_are = refl

kinds_inside_content : IsContent kinds_inside
unfolding kinds_inside
kinds_inside_content =
    both (codes "\n") _ (said (codes "\n") refl) (both (rect (codes "hold") 0 0 28 18) _ (rect_content (codes "hold") 0 0 28 18 refl) (both (codes "\n") _ (said (codes "\n") refl) (both (words (codes "out") 36 13 (codes "holds a lock")) _ (text_content (codes "out") 36 13 (codes "holds a lock") refl refl) (both (codes "\n") _ (said (codes "\n") refl) (both (rect (codes "hold") 160 0 28 18) _ (rect_content (codes "hold") 160 0 28 18 refl) (both (codes "\n") _ (said (codes "\n") refl) (both (rect (codes "free") 185 0 3 18) _ (rect_content (codes "free") 185 0 3 18 refl) (both (codes "\n") _ (said (codes "\n") refl) (both (words (codes "out") 196 13 (codes "frees it")) _ (text_content (codes "out") 196 13 (codes "frees it") refl refl) (both (codes "\n") _ (said (codes "\n") refl) (both (rect (codes "wait") 320 0 28 18) _ (rect_content (codes "wait") 320 0 28 18 refl) (both (codes "\n") _ (said (codes "\n") refl) (both (words (codes "out") 356 13 (codes "waits for a lock")) _ (text_content (codes "out") 356 13 (codes "waits for a lock") refl refl) (both (codes "\n") _ (said (codes "\n") refl) (both (rect (codes "yield") 480 0 28 18) _ (rect_content (codes "yield") 480 0 28 18 refl) (both (codes "\n") _ (said (codes "\n") refl) (both (words (codes "out") 516 13 (codes "yields")) _ (text_content (codes "out") 516 13 (codes "yields") refl refl) (both (codes "\n") _ (said (codes "\n") refl) (both (line (codes "link") 654 0 12) _ (line_content (codes "link") 654 0 12 refl) (both (codes "\n") _ (said (codes "\n") refl) (both (circle (codes "dot") 654 12 4) _ (circle_content (codes "dot") 654 12 4 refl) (both (codes "\n") _ (said (codes "\n") refl) (both (words (codes "out") 676 13 (codes "because of a bar")) _ (text_content (codes "out") 676 13 (codes "because of a bar") refl refl) (both (codes "\n") _ (said (codes "\n") refl) (both (sign (codes "miss") 9 30 (codes "l10 10m0 -10l-10 10")) _ (sign_content (codes "miss") 9 30 (codes "l10 10m0 -10l-10 10") refl refl) (both (codes "\n") _ (said (codes "\n") refl) (both (words (codes "out") 36 39 (codes "tried in vain")) _ (text_content (codes "out") 36 39 (codes "tried in vain") refl refl) (both (codes "\n") _ (said (codes "\n") refl) (both (line (codes "learn") 174 26 44) _ (line_content (codes "learn") 174 26 44 refl) (both (codes "\n") _ (said (codes "\n") refl) (both (circle (codes "ring") 174 35 5) _ (circle_content (codes "ring") 174 35 5 refl) (both (codes "\n") _ (said (codes "\n") refl) (both (words (codes "out") 196 39 (codes "learns holds")) _ (text_content (codes "out") 196 39 (codes "learns holds") refl refl) (both (codes "\n") _ (said (codes "\n") refl) (both (sign (codes "break") 334 27 (codes "l8 8l-8 8l-8 -8z")) _ (sign_content (codes "break") 334 27 (codes "l8 8l-8 8l-8 -8z") refl refl) (both (codes "\n") _ (said (codes "\n") refl) (both (words (codes "out") 356 39 (codes "is let through")) _ (text_content (codes "out") 356 39 (codes "is let through") refl refl) (both (codes "\n") _ (said (codes "\n") refl) (both (rect (codes "end") 489 30 10 10) _ (rect_content (codes "end") 489 30 10 10 refl) (both (codes "\n") _ (said (codes "\n") refl) (both (words (codes "out") 516 39 (codes "ends")) _ (text_content (codes "out") 516 39 (codes "ends") refl refl) (both (codes "\n") _ (said (codes "\n") refl) (both (words (codes "count") 642 40 (codes "+")) _ (text_content (codes "count") 642 40 (codes "+") refl refl) (both (codes "\n") _ (said (codes "\n") refl) (both (words (codes "count") 658 40 (codes "-")) _ (text_content (codes "count") 658 40 (codes "-") refl refl) (both (codes "\n") _ (said (codes "\n") refl) (both (words (codes "out") 676 39 (codes "once more, once less")) _ (text_content (codes "out") 676 39 (codes "once more, once less") refl refl) (said (codes "\n") refl))))))))))))))))))))))))))))))))))))))))))))))))

pub kinds_content : IsContent kinds
unfolding kinds
kinds_content = subst IsContent (sym kinds_are) (both _ (codes "\n") (element (codes "g") (at (codes "class") (codes "l7") ∷ []) kinds_inside refl (refl, refl, tt) kinds_inside_content) (said (codes "\n") refl))

-- ---- marks

module _ (p : Code) (locks : (l : Lid) → IsPlain (lock_word p l)) where
  laned_content : (x y width : ℕ) (lasts : Bool) (m : Mark) → IsContent (laned p x y width lasts m)
  laned_content x y width lasts (Wait t l) = wait_content (lock_word p l) (locks l) x y width lasts
  laned_content x y width lasts (Yield t l sig) = yielding_content sig x y width
  laned_content x y width lasts (Hold t l) = hold_content (lock_word p l) (locks l) l x y width
  laned_content x y width lasts (Deeper t l birth) = text_content (codes "count") (x + 2) (y + 13) (codes "+") refl refl
  laned_content x y width lasts (Inner t l birth) = text_content (codes "count") (x + 2) (y + 13) (codes "-") refl refl
  laned_content x y width lasts (Free t l birth) = freed_content x y
  laned_content x y width lasts (Miss t l) = missed_content (lock_word p l) (locks l) x y width
  laned_content x y width lasts (End t why) = ended_content why x y
  laned_content x y width lasts (Break t l) = broken_content (lock_word p l) (locks l) x y width lasts
  laned_content x y width lasts Learn = said [] refl

  figure_by_content : (f : FrameValue) (q : ℕ) (s : Shape) (lane : Option Tid) → IsContent (figure_by p f q s lane)
  figure_by_content f q s (Some t) = laned_content (x_of f q) (y_of f t s.row) (x_of f s.end - x_of f q) (nat_lt q (s.end - 1)) s.mark
  figure_by_content f q s None = both (line (codes "learn") (x_of f q) 64 f.bottom) _ (line_content (codes "learn") (x_of f q) 64 f.bottom refl) (text_content (codes "learnt") (x_of f q) (f.bottom + 14) (codes "learn") refl refl)

  figure_content : (f : FrameValue) (q : ℕ) (s : Shape) → IsContent (figure p f q s)
  unfolding figure
  figure_content f q s = figure_by_content f q s (lane_of s.mark)

each_content : (f : ℕ → List ℕ) → ((b : ℕ) → IsContent (f b)) → (bs : List ℕ) → IsContent (flat_map f bs)
each_content f k [] = said [] refl
each_content f k (b ∷ bs) = both (f b) _ (k b) (each_content f k bs)

link_to_content : (x y : ℕ) (z : Option ℕ) → IsContent (link_to x y z)
link_to_content x y None = said [] refl
link_to_content x y (Some z) = both (line (codes "link") x (y + 9) z) _ (line_content (codes "link") x (y + 9) z refl) (circle_content (codes "dot") x z 4 refl)

ring_at_content : (x : ℕ) (z : Option ℕ) → IsContent (ring_at x z)
ring_at_content x None = said [] refl
ring_at_content x (Some z) = circle_content (codes "ring") x z 5 refl

references_content : (f : FrameValue) (shapes : List Shape) (q row : ℕ) (e : Option Entry) → IsContent (references_by f shapes q row e)
references_content f shapes q row None = said [] refl
references_content f shapes q row (Some (entry.Yield t l s sig births)) =
    each_content (link f shapes q (x_of f q) (y_of f t row))
    (λ b. either (b == q) [] (link_to (x_of f q) (y_of f t row) (middle f (slice_get shapes b))) (said [] refl) (link_to_content (x_of f q) (y_of f t row) (middle f (slice_get shapes b)))) births
references_content f shapes q row (Some (entry.Learn births)) = each_content (ring f shapes (x_of f q)) (λ b. ring_at_content (x_of f q) (middle f (slice_get shapes b))) births
references_content f shapes q row (Some (entry.Go t l s)) = said [] refl
references_content f shapes q row (Some (entry.Got t l)) = said [] refl
references_content f shapes q row (Some (entry.Free t l)) = said [] refl
references_content f shapes q row (Some (entry.Took t l s)) = said [] refl
references_content f shapes q row (Some (entry.Miss t l s why)) = said [] refl
references_content f shapes q row (Some (entry.End t why)) = said [] refl
references_content f shapes q row (Some (entry.Break set t)) = said [] refl

-- ---- the lines of entries

key_is : (c : ℕ) (inside : List ℕ) → (codes "<" ++ (codes "g" ++ with_attributes (at (codes "class") (codes "l" ++ decimal c) ∷ []) (codes ">" ++ (inside ++ (codes "</" ++ (codes "g" ++ codes ">")))))) ++ codes "\n" ≡ colour_group c ++ (inside ++ codes "</g>\n")
unfolding colour_group
key_is c inside = simp append_assoc refl

titled : (c : ℕ) (rest : List ℕ) → colour_group c ++ (codes "<title>" ++ rest) ≡ group c ++ rest
unfolding colour_group group
titled c rest = ap (λ (t : List ℕ). codes "<g class=\"l" ++ t) (append_assoc (decimal c) (codes "\">") (codes "<title>" ++ rest) ∙ sym (append_assoc (decimal c) (codes "\"><title>") rest))

grouped : (c : ℕ) (title figure_text refs : List ℕ)
    → (codes "<" ++ (codes "g" ++ with_attributes (at (codes "class") (codes "l" ++ decimal c) ∷ []) (codes ">" ++ (((codes "<" ++ (codes "title" ++ with_attributes [] (codes ">" ++ (title ++ (codes "</" ++ (codes "title" ++ codes ">")))))) ++ (figure_text ++ refs)) ++ (codes "</" ++ (codes "g" ++ codes ">")))))) ++ codes "\n"
    ≡ group c ++ (title ++ (codes "</title>" ++ (figure_text ++ (refs ++ codes "</g>\n"))))
grouped c title figure_text refs =
    let top = codes "<title>" ++ (title ++ codes "</title>") in
    let drawing = figure_text ++ refs in
    let below = figure_text ++ (refs ++ codes "</g>\n") in
    let parts : (top ++ drawing) ++ codes "</g>\n" ≡ codes "<title>" ++ (title ++ (codes "</title>" ++ below)) =
    append_assoc top drawing (codes "</g>\n") ∙ ap (λ (t : List ℕ). top ++ t) (append_assoc figure_text refs (codes "</g>\n")) ∙ ap (λ (t : List ℕ). codes "<title>" ++ t) (append_assoc title (codes "</title>") below) in
    key_is c (top ++ drawing) ∙ ap (λ (t : List ℕ). colour_group c ++ t) parts ∙ titled c (title ++ (codes "</title>" ++ below))

module _ (p : Code) (names : List (List ℕ)) (locks : (l : Lid) → IsPlain (lock_word p l)) (known : (n : ℕ) → IsPlain (name_at names n)) where
  frame_plain : (f : Frame) → IsPlain (frame_word names f)
  frame_plain f = plain_both (name_at names f.func) (58 ∷ decimal f.at) (known f.func) (plain_decimal f.at)

  joined : (words : List (List ℕ)) → AllByRecursion IsPlain words → IsPlain (join_with_byte 32 words)
  joined [] k = refl
  joined (x ∷ []) k = k.0
  joined (x ∷ y ∷ xs) k = plain_both x (32 ∷ join_with_byte 32 (y ∷ xs)) k.0 (joined (y ∷ xs) k.1)

  with_stack : (stack : List Frame) → AllByRecursion IsPlain (stack_words names stack)
  with_stack [] = tt
  with_stack (f ∷ fs) = (frame_plain f, with_stack fs)

  numbers : (ns : List ℕ) (rest : List (List ℕ)) → AllByRecursion IsPlain rest → AllByRecursion IsPlain (map decimal ns ++ rest)
  numbers [] rest k = k
  numbers (n ∷ ns) rest k = (plain_decimal n, numbers ns rest k)

  why_plain : (why : MissWhy) (rest : List (List ℕ)) → AllByRecursion IsPlain rest → AllByRecursion IsPlain (why_words_of why ++ rest)
  why_plain (Busy holder) rest k = (plain_decimal holder.0, k)
  why_plain (Avoid cover) rest k = (plain_decimal cover.sig, (plain_decimal (length cover.births), numbers cover.births rest k))

  miss_plain : (why : MissWhy) → IsPlain (miss_word why)
  miss_plain (Busy holder) = refl
  miss_plain (Avoid cover) = refl

  nothing_more : (ns : List ℕ) → AllByRecursion IsPlain (map decimal ns)
  nothing_more [] = tt
  nothing_more (n ∷ ns) = (plain_decimal n, nothing_more ns)

  line_plain : (e : Entry) → IsPlain (line_of p names e)
  line_plain (entry.Go t l s) = joined (codes "go" ∷ decimal t.0 ∷ lock_word p l ∷ stack_words names s) (refl, (plain_decimal t.0, (locks l, with_stack s)))
  line_plain (entry.Yield t l s sig births) =
      joined (codes "yield" ∷ decimal t.0 ∷ lock_word p l ∷ (cover_words sig births ++ stack_words names s))
      (refl, (plain_decimal t.0, (locks l, (plain_decimal sig, (plain_decimal (length births), numbers births (stack_words names s) (with_stack s))))))
  line_plain (entry.Got t l) = joined (codes "got" ∷ decimal t.0 ∷ lock_word p l ∷ []) (refl, (plain_decimal t.0, (locks l, tt)))
  line_plain (entry.Free t l) = joined (codes "free" ∷ decimal t.0 ∷ lock_word p l ∷ []) (refl, (plain_decimal t.0, (locks l, tt)))
  line_plain (entry.Took t l s) = joined (codes "took" ∷ decimal t.0 ∷ lock_word p l ∷ stack_words names s) (refl, (plain_decimal t.0, (locks l, with_stack s)))
  line_plain (entry.Miss t l s why) =
      joined (miss_word why ∷ decimal t.0 ∷ lock_word p l ∷ (why_words_of why ++ stack_words names s)) (miss_plain why, (plain_decimal t.0, (locks l, why_plain why (stack_words names s) (with_stack s))))
  line_plain (entry.End t Done) = joined (codes "done" ∷ decimal t.0 ∷ []) (refl, (plain_decimal t.0, tt))
  line_plain (entry.End t (Trapped trap)) = joined (codes "trap" ∷ decimal t.0 ∷ decimal trap ∷ []) (refl, (plain_decimal t.0, (plain_decimal trap, tt)))
  line_plain (entry.End t Spent) = joined (codes "spent" ∷ decimal t.0 ∷ []) (refl, (plain_decimal t.0, tt))
  line_plain (entry.Break set t) = joined (codes "break" ∷ decimal set ∷ decimal t.0 ∷ []) (refl, (plain_decimal set, (plain_decimal t.0, tt)))
  line_plain (entry.Learn births) = joined (codes "learn" ∷ births_words births) (refl, (plain_decimal (length births), nothing_more births))

  title_plain : (e : Option Entry) → IsPlain (line_at p names e)
  title_plain None = refl
  title_plain (Some e) = line_plain e

  shown_content : (f : FrameValue) (shapes : List Shape) (q : ℕ) (s : Shape) (e : Option Entry) → IsContent (shown p names f shapes q s e)
  shown_content f shapes q s e =
      let title = line_at p names e in
      let figure_text = figure p f q s in
      let refs = references_by f shapes q s.row e in
      subst IsContent (grouped (colour_of s.mark) title figure_text refs) (
      both _ (codes "\n") (
      element (codes "g") (at (codes "class") (codes "l" ++ decimal (colour_of s.mark)) ∷ []) _ refl (refl, plain_decimal (colour_of s.mark), tt)
      (both _ _ (element (codes "title") [] title refl tt (said title (title_plain e))) (both figure_text refs (figure_content p locks f q s) (references_content f shapes q s.row e)))
      ) (said (codes "\n") refl)
      )

-- ---- the page

marks_content : (p : Code) (names : List (List ℕ)) (entries : List Entry) (f : FrameValue) (shapes : List Shape) → ((l : Lid) → IsPlain (lock_word p l)) → ((n : ℕ) → IsPlain (name_at names n)) → (n : ℕ) → IsContent (marks p names entries f shapes n)
marks_content p names entries f shapes locks known zero = said [] refl
marks_content p names entries f shapes locks known (suc q) = both (marks p names entries f shapes q) _ (marks_content p names entries f shapes locks known q) (one (slice_get shapes q)) where
  one : (s : Option Shape) → IsContent (mark_by p names f shapes q s (slice_get entries q))
  one None = said [] refl
  one (Some s) = either (is_shown f q s) (shown p names f shapes q s (slice_get entries q)) [] (shown_content p names locks known f shapes q s (slice_get entries q)) (said [] refl)

tick_content : (f : FrameValue) (p : ℕ) → IsContent (tick f p)
tick_content f p = both (line (codes "grid") (x_of f p) 64 f.bottom) _ (line_content (codes "grid") (x_of f p) 64 f.bottom refl) (either (is_labelled f p) (tick_label f p) [] (text_content (codes "tick") (x_of f p) 60 (decimal p) refl (plain_decimal p)) (said [] refl))

ticks_content : (f : FrameValue) (n : ℕ) → IsContent (ticks f n)
ticks_content f zero = said [] refl
ticks_content f (suc p) = both (ticks f p) (tick_at f p) (ticks_content f p) (either (nat_le f.from p) (tick f p) [] (tick_content f p) (said [] refl))

-- words, and a line feed
ended_line : (class : List ℕ) (x y : ℕ) (inside : List ℕ) → IsPlain class → IsPlain inside → IsContent (opening class x y ++ (inside ++ codes "</text>\n"))
ended_line class x y inside p q =
    subst IsContent (append_assoc (opening class x y) (inside ++ codes "</text>") (codes "\n") ∙ ap (λ (t : List ℕ). opening class x y ++ t) (append_assoc inside (codes "</text>") (codes "\n")))
    (both (opening class x y ++ (inside ++ codes "</text>")) (codes "\n") (text_content class x y inside p q) (said (codes "\n") refl))

lanes_content : (p : Code) (f : FrameValue) → ((t : ℕ) → IsPlain (func_name_of p (start_of p t).func)) → (n : ℕ) → IsContent (lanes p f n)
lanes_content p f funcs zero = said [] refl
lanes_content p f funcs (suc t) =
    let top = top_of f (record { 0 = t }) in
    let name = func_name_of p (start_of p t).func in
    let line_is : opening (codes "lane") 20 (top + 16) ++ ((decimal t ++ (codes " " ++ name)) ++ codes "</text>\n") ≡ opening (codes "lane") 20 (top + 16) ++ (decimal t ++ (codes " " ++ (name ++ codes "</text>\n"))) = ap (λ (x : List ℕ). opening (codes "lane") 20 (top + 16) ++ x) (append_assoc (decimal t) (codes " " ++ name) (codes "</text>\n")) in
    both (lanes p f t) _ (lanes_content p f funcs t)
    (both (rect (codes "rule") 0 top (width_of f) 1) _ (rect_content (codes "rule") 0 top (width_of f) 1 refl)
    (subst IsContent line_is (ended_line (codes "lane") 20 (top + 16) (decimal t ++ (codes " " ++ name)) refl (plain_both (decimal t) (codes " " ++ name) (plain_decimal t) (funcs t)))))

keys_content : (p : Code) (f : FrameValue) → ((l : Lid) → IsPlain (lock_word p l)) → (n : ℕ) → IsContent (lock_keys p f n)
keys_content p f locks zero = said [] refl
keys_content p f locks (suc l) =
    let x = 20 + 200 * (l % 4) in
    let y = f.bottom + 34 + 24 * (l / 4) in
    let bar = hold [] (record { 0 = l }) x y 28 in
    let name = words (codes "out") (x + 36) (y + 13) (lock_word p (record { 0 = l })) in
    both (lock_keys p f l) _ (keys_content p f locks l)
    (subst IsContent (key_is (l % 8) (bar ++ name) ∙ ap (λ (t : List ℕ). colour_group (l % 8) ++ t) (append_assoc bar name (codes "</g>\n")))
    (both _ (codes "\n") (element (codes "g") (at (codes "class") (codes "l" ++ decimal (l % 8)) ∷ []) (bar ++ name) refl (refl, plain_decimal (l % 8), tt)
    (both bar name (hold_content [] refl (record { 0 = l }) x y 28) (text_content (codes "out") (x + 36) (y + 13) (lock_word p (record { 0 = l })) refl (locks (record { 0 = l })))))
    (said (codes "\n") refl)))

-- ---- the whole

moved_is : (y : ℕ) (inside : List ℕ)
    → (codes "<" ++ (codes "g" ++ with_attributes (at (codes "transform") (codes "translate(20 " ++ (decimal y ++ codes ")")) ∷ []) (codes ">" ++ (inside ++ (codes "</" ++ (codes "g" ++ codes ">")))))) ++ codes "\n"
    ≡ moved y ++ (inside ++ codes "</g>\n")
unfolding moved
moved_is y inside = simp append_assoc refl

legend_content : (y : ℕ) → IsContent (moved y ++ (kinds ++ codes "</g>\n"))
legend_content y =
    subst IsContent (moved_is y kinds) (both _ (codes "\n") (
    element (codes "g") (at (codes "transform") (codes "translate(20 " ++ (decimal y ++ codes ")")) ∷ []) kinds refl (refl, plain_both (decimal y) (codes ")") (plain_decimal y) refl, tt) kinds_content
    ) (said (codes "\n") refl))

root : ℕ → ℕ → List Attribute
root width height = at (codes "xmlns") (codes "http://www.w3.org/2000/svg") ∷ at (codes "viewBox") (codes "0 0 " ++ (decimal width ++ (codes " " ++ decimal height))) ∷ at (codes "width") (decimal width) ∷ at (codes "height") (decimal height)
    ∷ at (codes "font-family") (codes "system-ui, sans-serif") ∷ at (codes "font-size") (codes "12") ∷ []

whole : (width height : ℕ) (st pa pg he ti la ma ke mo ki : List ℕ)
    → ((opened width height ++ (st ++ (pa ++ pg))) ++ (he ++ (ti ++ la))) ++ (ma ++ (ke ++ (mo ++ (ki ++ codes "</g>\n</svg>\n"))))
    ≡ codes "<" ++ (codes "svg" ++ with_attributes (root width height) (codes ">" ++ ((st ++ (pa ++ (pg ++ (he ++ (ti ++ (la ++ (ma ++ (ke ++ (mo ++ (ki ++ codes "</g>\n")))))))))) ++ (codes "</" ++ (codes "svg" ++ codes ">\n")))))
unfolding opened root
whole width height st pa pg he ti la ma ke mo ki = simp append_assoc refl

root_plain : (width height : ℕ) → AreAttributes (root width height)
unfolding root
root_plain width height =
    (refl, refl, (refl, plain_both (decimal width) (codes " " ++ decimal height) (plain_decimal width) (plain_decimal height), (refl, plain_decimal width, (refl, plain_decimal height, (refl, refl, (refl, refl, tt))))))

plain_range : (f : FrameValue) (n fuel depth : ℕ) → IsPlain (range_words f n fuel depth)
unfolding range_words
plain_range f n fuel depth =
    plain_both (decimal f.from) _ (plain_decimal f.from) (plain_both (decimal (f.to - 1)) _ (plain_decimal (f.to - 1)) (plain_both (decimal n) _ (plain_decimal n) (plain_both (decimal fuel) (codes ", depth " ++ decimal depth) (plain_decimal fuel) (plain_decimal depth))))

plain_outcome : (o : Outcome) → IsPlain (outcome_word o)
plain_outcome Finished = refl
plain_outcome Deadlocked = refl
plain_outcome Stalled = refl

heading_content : (f : FrameValue) (o : Outcome) (n fuel depth : ℕ) → IsContent (heading f o n fuel depth)
heading_content f o n fuel depth =
    both (words (codes "head") 20 26 (outcome_word o)) _ (text_content (codes "head") 20 26 (outcome_word o) refl (plain_outcome o)) (ended_line (codes "note") 20 44 (range_words f n fuel depth) refl (plain_range f n fuel depth))

in_frame : (p : Code) (names : List (List ℕ)) (fuel depth : ℕ) (entries : List Entry) (o : Outcome) (shapes : List Shape) (f : FrameValue) → HavePlainNames p names → IsDocument (picture_in p names fuel depth entries o shapes f)
in_frame p names fuel depth entries o shapes f k =
    let width = width_of f in
    let height = kinds_y f (lock_count p) + 60 in
    let page = rect (codes "page") 0 0 width height in
    let he = heading f o (length entries) fuel depth in
    let la = lanes p f (thread_count p) in
    let ma = marks p names entries f shapes f.to in
    let ke = lock_keys p f (lock_count p) in
    let y = kinds_y f (lock_count p) in
    record {
      name = codes "svg";
      attributes = root width height;
      inside = style ++ (patterns ++ (page ++ (he ++ (ticks f f.to ++ (la ++ (ma ++ (ke ++ (moved y ++ (kinds ++ codes "</g>\n")))))))));
      tag = refl;
      plain = root_plain width height;
      content =
          both style _ style_content (both patterns _ patterns_content (both page _ (rect_content (codes "page") 0 0 width height refl) (both he _ (heading_content f o (length entries) fuel depth) (both (ticks f f.to) _ (ticks_content f f.to)
          (both la _ (lanes_content p f k.funcs (thread_count p)) (both ma _ (marks_content p names entries f shapes k.locks k.table f.to) (both ke _ (keys_content p f k.locks (lock_count p)) (legend_content y))))))));
      text_is = whole width height style patterns page he (ticks f f.to) la ma ke (moved y) kinds;
    }

pub document_law : DocumentLaw
unfolding picture_text
document_law p names fuel depth entries o shapes from to k = in_frame p names fuel depth entries o shapes (frame_of from to shapes (thread_count p)) k
