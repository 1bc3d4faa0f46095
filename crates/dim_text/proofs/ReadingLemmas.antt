-- Reading line by line, over any steps.
use Rattle.std.proofs.Common.{◌≡◌, ◌≢◌, ◌+◌, ℕ, List, [], ◌∷◌, ◌++◌, Option, Some, None, Result, Ok, Err, refl, sym, ap, ◌∙◌, append_assoc}
use Rattle.std.specs.Prelude.{◌==◌}
use Rattle.std.specs.List.{join_with_byte}
use Rattle.dim_text.specs.Cuts.{lines_of, ended, HasNo}
use Rattle.dim_text.specs.Reading.{◌>>=◌, or_else, in_line, read_from, Fails}
use Rattle.dim_text.proofs.Cutting.{lines_of-ended, text_of-lines_of}
use Rattle.dim_text.proofs.Splitting.{some_part}

pub bind_ok : {A B E : Type 0} (r : Result A E) (f : A → Result B E) (y : B) → (r >>= f) ≡ Ok y → (x : A) × (r ≡ Ok x) × (f x ≡ Ok y)
bind_ok (Ok x) f y e = (x, refl, e)
bind_ok (Err e) f y h = cc

pub or_else_ok : {A E : Type 0} (o : Option A) (e : E) (x : A) → or_else o e ≡ Ok x → o ≡ Some x
or_else_ok (Some y) e x h = cc
or_else_ok None e x h = cc

pub in_line_ok : {A K F : Type 0} (fault : ℕ → K → F) (n : ℕ) (r : Result A K) (x : A) → in_line fault n r ≡ Ok x → r ≡ Ok x
in_line_ok fault n (Ok y) x e = cc
in_line_ok fault n (Err k) x e = cc

pub Fails-bind : {A B F : Type 0} (o : Option F) (r : Result A F) (f : A → Result B F) → Fails o r → Fails o (r >>= f)
Fails-bind None r f h = tt
Fails-bind (Some fault) (Ok x) f h = cc
Fails-bind (Some fault) (Err e) f h = cc

-- a line with more behind it
pub read_from-step : {S A K F : Type 0} (fault : ℕ → K → F) (step : S → List ℕ → Result S K) (at_end : S → List ℕ → Result A K) (s : S) (n : ℕ) (line : List ℕ) (lines : List (List ℕ)) → lines ≢ []
    → read_from fault step at_end s n (line ∷ lines) ≡ (in_line fault n (step s line) >>= λ t. read_from fault step at_end t (n + 1) lines)
unfolding read_from
read_from-step fault step at_end s n line [] h = absurd (h refl)
read_from-step fault step at_end s n line (next ∷ lines) h = refl

-- what stands behind the last line feed
pub read_from-last : {S A K F : Type 0} (fault : ℕ → K → F) (step : S → List ℕ → Result S K) (at_end : S → List ℕ → Result A K) (s : S) (n : ℕ) (last : List ℕ)
    → read_from fault step at_end s n (last ∷ []) ≡ in_line fault n (at_end s last)
unfolding read_from
read_from-last fault step at_end s n last = refl

pub read_from-none : {S A K F : Type 0} (fault : ℕ → K → F) (step : S → List ℕ → Result S K) (at_end : S → List ℕ → Result A K) (s : S) (n : ℕ)
    → read_from fault step at_end s n [] ≡ in_line fault n (at_end s [])
unfolding read_from
read_from-none fault step at_end s n = refl

-- a line that is taken, and the text behind it
pub read_from-line : {S A K F : Type 0} (fault : ℕ → K → F) (step : S → List ℕ → Result S K) (at_end : S → List ℕ → Result A K) (s t : S) (n : ℕ) (line rest : List ℕ) → HasNo 10 line → step s line ≡ Ok t
    → read_from fault step at_end s n (lines_of (ended line ++ rest)) ≡ read_from fault step at_end t (n + 1) (lines_of rest)
read_from-line fault step at_end s t n line rest none stepped =
    ap (read_from fault step at_end s n) (lines_of-ended line rest none)
    ∙ read_from-step fault step at_end s n line (lines_of rest) (some_part (λ b. b == 10) rest)
    ∙ ap (λ r. in_line fault n r >>= λ u. read_from fault step at_end u (n + 1) (lines_of rest)) stepped

-- What each state has read, where it is one that reading can reach, spelled; steps add their line, and the end adds what is left.
pub record Spells {S A K : Type 0} (step : S → List ℕ → Result S K) (at_end : S → List ℕ → Result A K) (Fits : S → Type 0) (front : S → List ℕ) (Sound : A → Type 0) (spelling : A → List ℕ) : Type 0 where
  pub steps : (s : S) (line : List ℕ) (t : S) → Fits s → step s line ≡ Ok t → Fits t × (front t ≡ front s ++ ended line)
  pub ends : (s : S) (last : List ℕ) (a : A) → Fits s → at_end s last ≡ Ok a → Sound a × (spelling a ≡ front s ++ last)

joined_more : (a b : List ℕ) (bs : List (List ℕ)) → join_with_byte 10 (a ∷ b ∷ bs) ≡ ended a ++ join_with_byte 10 (b ∷ bs)
joined_more a b bs = sym (append_assoc a (10 ∷ []) (join_with_byte 10 (b ∷ bs)))

read_parts : {S A K F : Type 0} (fault : ℕ → K → F) (step : S → List ℕ → Result S K) (at_end : S → List ℕ → Result A K) (Fits : S → Type 0) (front : S → List ℕ) (Sound : A → Type 0) (spelling : A → List ℕ)
    → Spells step at_end Fits front Sound spelling → (parts : List (List ℕ)) (s : S) (n : ℕ) (a : A) → Fits s → read_from fault step at_end s n parts ≡ Ok a
    → Sound a × (spelling a ≡ front s ++ join_with_byte 10 parts)
unfolding read_from
read_parts fault step at_end Fits front Sound spelling h [] s n a fits e = h.ends s [] a fits (in_line_ok fault n (at_end s []) a e)
read_parts fault step at_end Fits front Sound spelling h (last ∷ []) s n a fits e = h.ends s last a fits (in_line_ok fault n (at_end s last) a e)
read_parts fault step at_end Fits front Sound spelling h (line ∷ next ∷ parts) s n a fits e =
    let stepped = bind_ok (in_line fault n (step s line)) (λ t. read_from fault step at_end t (n + 1) (next ∷ parts)) a e in
    let t = stepped.0 in
    let one = h.steps s line t fits (in_line_ok fault n (step s line) t stepped.1) in
    let more = read_parts fault step at_end Fits front Sound spelling h (next ∷ parts) t (n + 1) a one.0 stepped.2 in
    let rest = join_with_byte 10 (next ∷ parts) in
    (more.0, more.1 ∙ ap (λ x. x ++ rest) one.1 ∙ append_assoc (front s) (ended line) rest ∙ ap (λ x. front s ++ x) (sym (joined_more line next parts)))

-- what is read from a text is spelled so
pub read_from-spelled : {S A K F : Type 0} (fault : ℕ → K → F) (step : S → List ℕ → Result S K) (at_end : S → List ℕ → Result A K) (Fits : S → Type 0) (front : S → List ℕ) (Sound : A → Type 0) (spelling : A → List ℕ)
    → Spells step at_end Fits front Sound spelling → (bytes : List ℕ) (s : S) (n : ℕ) (a : A) → Fits s → read_from fault step at_end s n (lines_of bytes) ≡ Ok a
    → Sound a × (spelling a ≡ front s ++ bytes)
read_from-spelled fault step at_end Fits front Sound spelling h bytes s n a fits e =
    let read = read_parts fault step at_end Fits front Sound spelling h (lines_of bytes) s n a fits e in
    (read.0, read.1 ∙ ap (λ x. front s ++ x) (text_of-lines_of bytes))
