-- A stack has one text.
use Rattle.std.proofs.Common.{◌≡◌, ℕ, List, [], ◌∷◌, ◌++◌, length, map, Result, Ok, refl, sym, ap, ap₂, ◌∙◌, arith}
use Rattle.std.specs.Prelude.{nat_eq}
use Rattle.std.specs.Bool.{Decides}
use Rattle.std.specs.Str.{bytes_eq}
use Rattle.std.specs.Fmt.{decimal}
use Rattle.std.proofs.lemmas.Bool.Decides.{Decides-and, Decides-eqb, Decides-like, same_from_decides}
use Rattle.std.proofs.lemmas.Slice.Eq.{bytes_eq-Decides, slice_eq-Decides}
use Rattle.std.proofs.lemmas.List.{length-map}
use Rattle.dim_text.specs.Cuts.{words_of, line_of}
use Rattle.dim_text.specs.Numerals.{number_of}
use Rattle.dim_text.specs.Reading.{◌>>=◌, or_else}
use Rattle.dim_text.specs.Words.{filled}
use Rattle.dim_text.proofs.Exports.{bind_ok, filled_ok, or_else_ok, number_of-Some, line_of-words_of}
use Rattle.dim_log.specs.declared.log.LogFaultKind.{LogFaultKind}
use Rattle.dim_log.specs.declared.log.LogFaultKind.TheVariants as kind
use Rattle.dim_log.specs.Value.{SaidFrame}
use Rattle.dim_log.specs.Tables.{same_frame, same_stack}
use Rattle.dim_log.specs.Saying.{a_frame, last_sides, frame_of, frames_of}
use Rattle.dim_log.proofs.Colons.{sides_ok}

-- the word of a frame
abbrev pub spelled : SaidFrame → List ℕ
spelled f = f.function ++ 58 ∷ decimal f.line

pub frame_ok : (word : List ℕ) (f : SaidFrame) → frame_of word ≡ Ok f → word ≡ spelled f
unfolding frame_of
frame_ok word f e =
    let a = bind_ok (filled word kind.Short) (λ w. or_else (last_sides w) kind.Frame >>= λ sides. filled sides.0 kind.Frame >>= λ function. or_else (number_of 4294967295 sides.1) kind.Frame >>= λ line. Ok (a_frame function line)) f e in
    let b = bind_ok (or_else (last_sides a.0) kind.Frame) (λ sides. filled sides.0 kind.Frame >>= λ function. or_else (number_of 4294967295 sides.1) kind.Frame >>= λ line. Ok (a_frame function line)) f a.2 in
    let c = bind_ok (filled b.0.0 kind.Frame) (λ function. or_else (number_of 4294967295 b.0.1) kind.Frame >>= λ line. Ok (a_frame function line)) f b.2 in
    let d = bind_ok (or_else (number_of 4294967295 b.0.1) kind.Frame) (λ line. Ok (a_frame c.0 line)) f c.2 in
    let function = filled_ok b.0.0 c.0 kind.Frame c.1 in
    let line = (number_of-Some 4294967295 d.0 b.0.1 (omega arith) (or_else_ok (number_of 4294967295 b.0.1) kind.Frame d.0 d.1)).1 in
    let same : a_frame c.0 d.0 ≡ f = cc (d.2) in
    let sides = sides_ok a.0 b.0 (or_else_ok (last_sides a.0) kind.Frame b.0 b.1) in
    filled_ok word a.0 kind.Short a.1 ∙ sides ∙ ap₂ (λ x y. x ++ 58 ∷ y) function line ∙ ap spelled same

pub frames_ok : (words : List (List ℕ)) (fs : List SaidFrame) → frames_of words ≡ Ok fs → words ≡ map spelled fs
frames_ok [] fs e = let same : [] ≡ fs = cc (e) in ap (map spelled) same
frames_ok (word ∷ words) fs e =
    let a = bind_ok (frame_of word) (λ f. frames_of words >>= λ gs. Ok (f ∷ gs)) fs e in
    let b = bind_ok (frames_of words) (λ gs. Ok (a.0 ∷ gs)) fs a.2 in
    let same : a.0 ∷ b.0 ≡ fs = cc (b.2) in
    ap₂ (λ x xs. x ∷ xs) (frame_ok word a.0 a.1) (frames_ok words b.0 b.1) ∙ ap (map spelled) same

pub frames_length : (words : List (List ℕ)) (fs : List SaidFrame) → frames_of words ≡ Ok fs → length fs ≡ length words
frames_length words fs e = sym (ap length (frames_ok words fs e) ∙ length-map fs spelled)

-- the text of a stack
pub text_ok : (text : List ℕ) (stack : List SaidFrame) → frames_of (words_of text) ≡ Ok stack → text ≡ line_of (map spelled stack)
text_ok text stack e = sym (line_of-words_of text) ∙ ap line_of (frames_ok (words_of text) stack e)

frame_decides : (a b : SaidFrame) → Decides (same_frame a b) (a ≡ b)
frame_decides a b =
    Decides-like (same_frame a b) (λ h. ap₂ a_frame h.0 h.1) (λ h. (ap (λ (f : SaidFrame). f.function) h, ap (λ (f : SaidFrame). f.line) h))
    (Decides-and (bytes_eq a.function b.function) (nat_eq a.line b.line) (bytes_eq-Decides a.function b.function) (Decides-eqb a.line b.line))

pub stack_decides : (a b : List SaidFrame) → Decides (same_stack a b) (a ≡ b)
stack_decides a b = slice_eq-Decides frame_decides a b (same_stack a b) refl

-- texts are equal where their stacks are
pub same_texts : (a b : List ℕ) (s t : List SaidFrame) → frames_of (words_of a) ≡ Ok s → frames_of (words_of b) ≡ Ok t → bytes_eq a b ≡ same_stack s t
same_texts a b s t e h =
    same_from_decides (bytes_eq a b) (same_stack s t) (bytes_eq-Decides a b)
    (Decides-like (same_stack s t) (λ is. text_ok a s e ∙ ap (λ x. line_of (map spelled x)) is ∙ sym (text_ok b t h)) (λ is. let same : ◌≡◌ {A = Result (List SaidFrame) LogFaultKind} (Ok s) (Ok t) = sym e ∙ ap (λ x. frames_of (words_of x)) is ∙ h in cc (same)) (stack_decides s t))
