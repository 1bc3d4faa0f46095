-- Reading the frames of a stack.
use Rattle.std.proofs.Common.{◌≡◌, ◌≤◌, ◌<◌, ◌+◌, ℕ, List, [], ◌∷◌, ◌++◌, length, Result, Ok, Err, refl, sym, ap, ◌∙◌, subst, append_assoc, arith}
use Rattle.std.specs.Str.{bytes_eq}
use Rattle.std.proofs.lemmas.List.{map_push}
use Rattle.std.proofs.lemmas.List.Elements.{All-push}
use Rattle.std.proofs.lemmas.List.Sums.{fold-append}
use Rattle.dim_text.specs.Reading.{◌>>=◌}
use Rattle.dim_text.specs.Words.{filled}
use Rattle.dim_text.proofs.Exports.{bind_ok}
use Rattle.dim_log.specs.declared.log.LogFaultKind.{LogFaultKind}
use Rattle.dim_log.specs.declared.log.LogFaultKind.TheVariants as kind
use Rattle.dim_log.specs.declared.log.Spot.{Spot}
use Rattle.dim_log.specs.Value.{SaidFrame}
use Rattle.dim_log.specs.Tables.{with_new, with_all, functions_of}
use Rattle.dim_log.specs.Saying.{next_word, some_words, frame_of, frames_of}
use Rattle.dim_log.specs.Seen.{said_frame, said_stack, AreSpotsWithin}
use Rattle.dim_log.proofs.Once.{Extends, new_extends}
use Rattle.dim_log.proofs.Growing.{stack_grown, spots_grown}

pub bind_same : {A E : Type 0} (r : Result A E) → r ≡ (r >>= λ x. Ok x)
bind_same (Ok x) = refl
bind_same (Err e) = refl

one_more : (front : List SaidFrame) (f : SaidFrame) (r : Result (List SaidFrame) LogFaultKind) → ((r >>= λ gs. Ok (f ∷ gs)) >>= λ gs. Ok (front ++ gs)) ≡ (r >>= λ gs. Ok ((front ++ f ∷ []) ++ gs))
one_more front f (Ok gs) = ap (λ fs. Ok fs) (sym (append_assoc front (f ∷ []) gs))
one_more front f (Err e) = refl

pub spots_step : (all words rest : List (List ℕ)) (word : List ℕ) (first f g : List (List ℕ)) (spots new : List Spot) (s : Spot)
    → frames_of all ≡ (frames_of words >>= λ gs. Ok (said_stack f spots ++ gs)) → words ≡ word ∷ rest → frame_of word ≡ Ok (said_frame g s) → new ≡ spots ++ s ∷ [] → g ≡ with_new bytes_eq f (said_frame g s).function
    → AreSpotsWithin f spots → s.function < length g → f ≡ with_all bytes_eq first (functions_of (said_stack f spots))
    → (frames_of all ≡ (frames_of rest >>= λ gs. Ok (said_stack g new ++ gs))) × (g ≡ with_all bytes_eq first (functions_of (said_stack g new))) × AreSpotsWithin g new
spots_step all words rest word first f g spots new s same is read more added within low functions =
    let frame = said_frame g s in
    let old = said_stack f spots in
    let grown : Extends f g = subst (Extends f) (sym added) (new_extends bytes_eq f frame.function) in
    let front : said_stack g new ≡ old ++ frame ∷ [] = ap (said_stack g) more ∙ map_push (said_frame g) spots s ∙ ap (λ x. x ++ frame ∷ []) (stack_grown f g spots grown within) in
    let named : functions_of (said_stack g new) ≡ functions_of old ++ frame.function ∷ [] = ap functions_of front ∙ map_push (λ (x : SaidFrame). x.function) old frame in (
      same
          ∙ ap (λ ws. frames_of ws >>= λ gs. Ok (old ++ gs)) is
          ∙ ap (λ r. (r >>= λ x. frames_of rest >>= λ gs. Ok (x ∷ gs)) >>= λ gs. Ok (old ++ gs)) read
          ∙ one_more old frame (frames_of rest)
          ∙ ap (λ m. frames_of rest >>= λ gs. Ok (m ++ gs)) (sym front),
      added ∙ ap (λ x. with_new bytes_eq x frame.function) functions
          ∙ sym (fold-append (with_new bytes_eq) first (functions_of old) (frame.function ∷ []))
          ∙ ap (with_all bytes_eq first) (sym named),
      subst (AreSpotsWithin g) (sym more) (All-push (λ (x : Spot). x.function < length g) spots s (spots_grown f g spots grown within) low),
    )

-- how many words are left
pub next_fewer : (words rest : List (List ℕ)) (w : List ℕ) → next_word words ≡ Ok (w, rest) → length rest + 1 ≤ length words
unfolding next_word
next_fewer [] rest w e = cc (e)
next_fewer (word ∷ words) rest w e =
    let a = bind_ok (filled word kind.Short) (λ x. let pair : List ℕ × List (List ℕ) = (x, words) in Ok pair) (w, rest) e in
    let same : ◌≡◌ {A = List ℕ × List (List ℕ)} (a.0, words) (w, rest) = cc (a.2) in
    omega (arith, ap (λ (p : List ℕ × List (List ℕ)). length p.1) same)

pub text_same : (words text : List (List ℕ)) → some_words words ≡ Ok text → length text ≤ length words
text_same [] text e = cc (e)
text_same (word ∷ words) text e = let same : word ∷ words ≡ text = cc (e) in omega (arith, ap length same)
