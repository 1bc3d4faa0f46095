use Rattle.std.proofs.Common.{◌≡◌, ◌<◌, List, ℕ, [], ◌∷◌, ◌++◌, length, map, Result, Ok, Err, arith, refl, sym, ap, ◌∙◌, subst, append_assoc}
use Rattle.std.proofs.lemmas.List.{map_push, length_push}
use Rattle.std.proofs.lemmas.List.Elements.{All-push}
use Rattle.dim_text.specs.Reading.{◌>>=◌}
use Rattle.dim_stack.specs.declared.Frame.{Frame}
use Rattle.dim_stack.specs.Names.{IsNamedBy, HasNames}
use Rattle.dim_history_file.specs.declared.fault.FileKind.{FileKind}
use Rattle.dim_history_file.specs.Value.{NamedFrame, named_frame}
use Rattle.dim_history_file.specs.Judging.{frame_of, frames_of}
use Rattle.dim_history_file.specs.Naming.{names_in_word, names_in_words}
use Rattle.dim_history_file.proofs.Using.{has_right}
use Rattle.dim_history_file.proofs.frames.put_frames.Goals as goal

one_more : (front : List NamedFrame) (f : NamedFrame) (r : Result (List NamedFrame) FileKind) → ((r >>= λ gs. Ok (f ∷ gs)) >>= λ gs. Ok (front ++ gs)) ≡ (r >>= λ gs. Ok ((front ++ f ∷ []) ++ gs))
one_more front f (Ok gs) = ap (λ fs. Ok fs) (sym (append_assoc front (f ∷ []) gs))
one_more front f (Err e) = refl

frames_step : (names : List (List ℕ)) (all words rest : List (List ℕ)) (word : List ℕ) (fs new : List Frame) (f : Frame)
    → frames_of all ≡ (frames_of words >>= λ gs. Ok (map (named_frame names) fs ++ gs)) → words ≡ word ∷ rest → frame_of word ≡ Ok (named_frame names f) → new ≡ fs ++ f ∷ []
    → frames_of all ≡ (frames_of rest >>= λ gs. Ok (map (named_frame names) new ++ gs))
frames_step names all words rest word fs new f same is read more =
    let front = map (named_frame names) fs in
    same
    ∙ ap (λ ws. frames_of ws >>= λ gs. Ok (front ++ gs)) is
    ∙ ap (λ r. (r >>= λ g. frames_of rest >>= λ gs. Ok (g ∷ gs)) >>= λ gs. Ok (front ++ gs)) read
    ∙ one_more front (named_frame names f) (frames_of rest)
    ∙ ap (λ m. frames_of rest >>= λ gs. Ok (m ++ gs)) (sym (map_push (named_frame names) fs f) ∙ ap (map (named_frame names)) (sym more))

pub loop-word-preserved : goal.loop-word-preserved
loop-word-preserved c =
    let names = c.args.names.now in
    let fs = c.loop-word.frames.items in
    let new = c.push.new.self.items in
    let f = c.in_ok-frame.field-0 in
    let word = c.in-Some.word.now in
    let rest = c.next_part.new.self in
    let more : new ≡ fs ++ f ∷ [] = c.push.ensures.items in
    record {
      same = frames_step names c.args.words c.loop-word.words rest word fs new f c.loop-word.invariant.same c.in-Some.ensures c.in_ok-frame.ensures.value more;
      named = subst (IsNamedBy names) (sym more) (All-push (λ (g : Frame). g.func < length names) fs f c.loop-word.invariant.named c.in_ok-frame.ensures.named);
      size = omega (arith, c.loop-word.invariant.size, ap length c.in-Some.ensures, ap length more, length_push fs f);
      covers = has_right names (names_in_word word) (names_in_words rest) (subst (λ ws. HasNames names (names_in_words ws)) c.in-Some.ensures c.loop-word.invariant.covers);
    }
