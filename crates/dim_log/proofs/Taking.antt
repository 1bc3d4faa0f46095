-- What reading a line adds.
use Rattle.std.proofs.Common.{◌≡◌, ◌≤◌, ◌+◌, ℕ, List, [], ◌∷◌, ◌++◌, length, map, Option, Ok, refl, sym, ap, ◌∙◌, subst, arith}
use Rattle.std.specs.Prelude.{All}
use Rattle.std.specs.Prelude.{◌==◌}
use Rattle.std.proofs.lemmas.List.Splits.{length-slice_split}
use Rattle.std.proofs.lemmas.List.Sums.{count_by-le-length}
use Rattle.std.specs.Str.{bytes_eq}
use Rattle.std.proofs.lemmas.List.{length-append, length-map, map_push}
use Rattle.std.proofs.lemmas.List.Elements.{All-push}
use Rattle.dim_text.specs.Cuts.{words_of}
use Rattle.dim_text.specs.Reading.{◌>>=◌, Fails}
use Rattle.dim_text.proofs.Exports.{bind_ok, Fails-bind}
use Rattle.dim_log.specs.declared.log.Event.{Event}
use Rattle.dim_log.specs.declared.log.LogFaultKind.{LogFaultKind}
use Rattle.dim_log.specs.declared.line.Line.{Line}
use Rattle.dim_log.specs.declared.line.Site.{Site}
use Rattle.dim_log.specs.declared.line.Deed.{Deed}
use Rattle.dim_log.specs.declared.line.Deed.TheVariants as deed
use Rattle.dim_log.specs.declared.reader.Reader.{Reader}
use Rattle.dim_log.specs.Value.{SaidFrame, Said, SaidLock, SaidTry, SaidUnlock, SaidStart, SaidJoin}
use Rattle.dim_log.specs.Tables.{with_all, same_stack, threads_in, locks_in, stacks_in, functions_in, functions_of}
use Rattle.dim_log.specs.Saying.{said_in, step}
use Rattle.dim_log.specs.Line.{stack_at_site, said_deed, said_line, frame_words}
use Rattle.dim_log.specs.Seen.{Tables, said_event, IsWithin, Holds}
use Rattle.dim_log.specs.Reader.{tables, said, weight, AreSound, HasRoom, IsReading, Notes, Takes}
use Rattle.dim_log.proofs.Once.{all_extends, all_length, once_more}
use Rattle.dim_log.proofs.Growing.{Grows, events_grown, within_grown, weaker}
use Rattle.dim_log.proofs.Spelled.{frames_length}

pub grows : (old new : Tables) (s : Said) → Notes old new s → Grows old new
grows old new s n = record {
  threads = subst (λ x. (more : List (List ℕ)) × (x ≡ old.threads ++ more)) (sym n.threads) (all_extends bytes_eq (threads_in s) old.threads);
  locks = subst (λ x. (more : List (List ℕ)) × (x ≡ old.locks ++ more)) (sym n.locks) (all_extends bytes_eq (locks_in s) old.locks);
  stacks = subst (λ x. (more : List (List SaidFrame)) × (x ≡ old.stacks ++ more)) (sym n.stacks) (all_extends same_stack (stacks_in s) old.stacks);
}

-- tables that hold what was said hold what is said now too
pub holds_more : (old new : Tables) (s : Said) (all : List Said) → Notes old new s → Holds old all → Holds new (all ++ s ∷ [])
holds_more old new s all n h = record {
  threads = n.threads ∙ ap (λ x. with_all bytes_eq x (threads_in s)) h.threads ∙ sym (once_more bytes_eq threads_in all s);
  locks = n.locks ∙ ap (λ x. with_all bytes_eq x (locks_in s)) h.locks ∙ sym (once_more bytes_eq locks_in all s);
  functions = n.functions ∙ ap (λ x. with_all bytes_eq x (functions_in s)) h.functions ∙ sym (once_more bytes_eq functions_in all s);
  stacks = n.stacks ∙ ap (λ x. with_all same_stack x (stacks_in s)) h.stacks ∙ sym (once_more same_stack stacks_in all s);
}

-- an event behind the others
pub said_more : (old mid : Reader) (l : Line) (e : Event) (es : List Event) → IsReading old → Takes old mid l e → es ≡ mid.events.items ++ e ∷ []
    → map (said_event (tables mid)) es ≡ said old ++ said_event (tables mid) e ∷ []
said_more old mid l e es h t more =
    let now = said_event (tables mid) in
    ap (map now) (more ∙ ap (λ v. v.items ++ e ∷ []) t.events)
    ∙ map_push now old.events.items e
    ∙ ap (λ ss. ss ++ now e ∷ []) (events_grown (tables old) (tables mid) old.events.items (grows (tables old) (tables mid) (now e) t.notes) h.within)

pub within_more : (old mid : Reader) (l : Line) (e : Event) (es : List Event) → IsReading old → Takes old mid l e → es ≡ mid.events.items ++ e ∷ [] → All (IsWithin (tables mid)) es
within_more old mid l e es h t more =
    let g = grows (tables old) (tables mid) (said_event (tables mid) e) t.notes in
    subst (All (IsWithin (tables mid))) (sym (more ∙ ap (λ v. v.items ++ e ∷ []) t.events))
    (All-push (IsWithin (tables mid)) old.events.items e (weaker (IsWithin (tables old)) (IsWithin (tables mid)) (λ x w. within_grown (tables old) (tables mid) x g w) old.events.items h.within) t.within)

pub reading_more : (old mid new : Reader) (l : Line) (e : Event) → IsReading old → Takes old mid l e → new.events.items ≡ mid.events.items ++ e ∷ [] → tables new ≡ tables mid → new.stacks ≡ mid.stacks → IsReading new
reading_more old mid new l e h t more same stacks =
    let says : said new ≡ said old ++ said_event (tables mid) e ∷ [] = ap (λ u. map (said_event u) new.events.items) same ∙ said_more old mid l e new.events.items h t more in
    record {
      sound = subst AreSound (sym stacks) t.sound;
      within = subst (λ u. All (IsWithin u) new.events.items) (sym same) (within_more old mid l e new.events.items h t more);
      holds = subst (λ u. Holds u (said new)) (sym same) (subst (Holds (tables mid)) (sym says) (holds_more (tables old) (tables mid) (said_event (tables mid) e) (said old) t.notes h.holds));
    }

-- how many functions a line names
few_functions_at : (s : Site) (f : List SaidFrame → Said) (said : Said) → ((stack : List SaidFrame) → functions_in (f stack) ≡ functions_of stack ++ []) → (stack_at_site s >>= λ stack. Ok (f stack)) ≡ Ok said → length (functions_in said) ≤ length (words_of s.frames.now)
few_functions_at s f said is e =
    let a = bind_ok (stack_at_site s) (λ stack. Ok (f stack)) said e in
    let same : f a.0 ≡ said = cc (a.2) in
    omega (arith, ap (λ x. length (functions_in x)) same, ap length (is a.0), length-append (functions_of a.0) [], length-map a.0 (λ x. x.function), frames_length (words_of s.frames.now) a.0 a.1)

pub few_functions : (thread : List ℕ) (d : Deed) (said : Said) → said_deed thread d ≡ Ok said → length (functions_in said) ≤ frame_words d
few_functions thread (deed.Lock s) said e = few_functions_at s (SaidLock thread s.lock.now) said (λ stack. refl) e
few_functions thread (deed.Try s took) said e = few_functions_at s (SaidTry thread s.lock.now took) said (λ stack. refl) e
few_functions thread (deed.Unlock s) said e = few_functions_at s (SaidUnlock thread s.lock.now) said (λ stack. refl) e
few_functions thread (deed.Start other) said e = let same : SaidStart thread other.now ≡ said = cc (e) in subst (λ x. length (functions_in x) ≤ 0) same (omega arith)
few_functions thread (deed.Join other) said e = let same : SaidJoin thread other.now ≡ said = cc (e) in subst (λ x. length (functions_in x) ≤ 0) same (omega arith)

few_threads : (s : Said) → length (threads_in s) ≤ 2
few_threads (SaidLock thread lock stack) = omega arith
few_threads (SaidTry thread lock took stack) = omega arith
few_threads (SaidUnlock thread lock stack) = omega arith
few_threads (SaidStart thread other) = omega arith
few_threads (SaidJoin thread other) = omega arith

few_locks : (s : Said) → length (locks_in s) ≤ 1
few_locks (SaidLock thread lock stack) = omega arith
few_locks (SaidTry thread lock took stack) = omega arith
few_locks (SaidUnlock thread lock stack) = omega arith
few_locks (SaidStart thread other) = omega arith
few_locks (SaidJoin thread other) = omega arith

pub room_left : (old mid new : Reader) (l : Line) (e : Event) (line : List ℕ) → Takes old mid l e → frame_words l.deed ≤ length line + 1 → tables new ≡ tables mid → new.stacks ≡ mid.stacks
    → (n : ℕ) → HasRoom old (weight line + n) → HasRoom new n
room_left old mid new l e line t few same stacks n h =
    let s = said_event (tables mid) e in
    let functions : length new.stacks.functions ≤ length old.stacks.functions + length (functions_in s) = omega (arith, ap (λ k. length k.functions) stacks, ap length t.notes.functions, all_length bytes_eq (functions_in s) old.stacks.functions) in
    let threads : length new.threads ≤ length old.threads + 2 = omega (arith, ap (λ u. length u.threads) same, ap length t.notes.threads, all_length bytes_eq (threads_in s) old.threads, few_threads s) in
    let locks : length new.locks ≤ length old.locks + 1 = omega (arith, ap (λ u. length u.locks) same, ap length t.notes.locks, all_length bytes_eq (locks_in s) old.locks, few_locks s) in
    let texts : length new.stacks.texts ≤ length old.stacks.texts + 1 = omega (arith, ap (λ k. length k.texts) stacks, t.texts) in
    record {
      threads = omega (arith, threads, h.threads);
      locks = omega (arith, locks, h.locks);
      functions = omega (arith, functions, few, few_functions l.thread.now l.deed s t.value, h.functions);
      texts = omega (arith, texts, h.texts);
    }

pub fewer_room : (r : Reader) (m n : ℕ) → m ≤ n → HasRoom r n → HasRoom r m
fewer_room r m n low h = record {
  threads = omega (arith, low, h.threads);
  locks = omega (arith, low, h.locks);
  functions = omega (arith, low, h.functions);
  texts = omega (arith, low, h.texts);
}

pub few_words : (line : List ℕ) → length (words_of line) ≤ length line + 1
few_words line = omega (arith, length-slice_split (λ b. b == 32) line, count_by-le-length (λ b. b == 32) line)

pub step_ok : (old mid : Reader) (l : Line) (e : Event) (es : List Event) (text : List ℕ) → said_in text ≡ said_line l → IsReading old → Takes old mid l e → es ≡ mid.events.items ++ e ∷ []
    → step (said old) text ≡ Ok (map (said_event (tables mid)) es)
unfolding step
step_ok old mid l e es text is h t more =
    ap (λ r. r >>= λ s. Ok (said old ++ s ∷ [])) (is ∙ t.value) ∙ ap (λ ss. Ok ss) (sym (said_more old mid l e es h t more))

pub step_fails : (o : Option LogFaultKind) (all : List Said) (l : Line) (text : List ℕ) → said_in text ≡ said_line l → Fails o (said_line l) → Fails o (step all text)
unfolding step
step_fails o all l text is h = Fails-bind o (said_in text) (λ s. Ok (all ++ s ∷ [])) (subst (Fails o) (sym is) h)
