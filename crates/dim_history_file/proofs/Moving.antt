-- From state to state, and the lines that lead there.
use Rattle.std.proofs.Common.{◌≡◌, ◌<◌, ◌≤◌, ◌+◌, ◌*◌, ◌^◌, ◌≢◌, inl, inr, ℕ, true, false, List, [], ◌∷◌, ◌++◌, length, Result, Ok, arith, refl, sym, ap, ◌∙◌, subst, append_assoc, append-nil}
use Rattle.std.specs.Prelude.{◌==◌, codes, get_or}
use Rattle.std.specs.List.{AllByRecursion, flat_map, join_with_byte}
use Rattle.std.specs.Str.{bytes_eq}
use Rattle.std.specs.Fmt.{decimal}
use Rattle.std.proofs.lemmas.Bool.{eqb-true, eqb-false}
use Rattle.std.proofs.lemmas.List.{length-append, length-map, length_push, map_push}
use Rattle.std.proofs.lemmas.List.Concat.{flat_map-append}
use Rattle.std.proofs.lemmas.List.Splits.{length-slice_split}
use Rattle.dim_text.specs.Cuts.{lines_of, words_of, line_of, ended}
use Rattle.dim_text.specs.Reading.{◌>>=◌, in_line, or_else, read_from}
use Rattle.dim_text.proofs.Exports.{line_of-words_of, text_of-lines_of, some_part, bind_ok, in_line_ok, or_else_ok, chosen, unless_ok}
use Rattle.dim_text.specs.Words.{unless}
use Rattle.dim_history_file.specs.declared.fault.FileKind.{FileKind}
use Rattle.dim_history_file.specs.declared.fault.FileKind.TheVariants.{Head as head_kind, Unsorted}
use Rattle.dim_history_file.specs.declared.opening.Opening.{Opening}
use Rattle.dim_history_file.specs.declared.version.Version.{Version}
use Rattle.dim_history_file.specs.declared.version.Version.TheVariants.{One, Two}
use Rattle.dim_history_file.specs.Faults.{fault}
use Rattle.dim_history_file.specs.Value.{NamedFrame, NamedSig, have_stacks}
use Rattle.dim_history_file.specs.Judging.{Begun, Stage, Head, Due, Within, Closed, State, head, version_of, signature_with, head_line, due_line, stack_of, is_less_than_last, with_signature, with_stack, stack_line, step, at_end, closed, start, history_of}
use Rattle.dim_history_file.specs.Spelling.{Line, HeadLine, SignatureLine, StackLine, EndLine, spelled, open_lines, sig_lines, lines_before_end, history_lines, lines_at, lines_so_far, opening_words, text_of, text_in}
use Rattle.dim_history_file.specs.Grammar.{CanSay, CanSayAll, IsStack, AreInOrder, IsSignature, IsHistory, IsTextOf, HasHead, IsBegun, IsAt, FitsStage}
use Rattle.dim_history_file.proofs.Comparing.{distinct-push}
use Rattle.dim_history_file.proofs.Judged.{same_bytes, version_ok, stack_ok, signature_ok, end_ok}

-- a line that is taken: what it says, and the state behind it
pub record Moves (s t : State) (line : List ℕ) : Type 0 where
  pub said : Line
  pub text : line ≡ spelled said
  pub lines : lines_so_far t ≡ lines_so_far s ++ said ∷ []
  pub fits : FitsStage t

pub all-push : {X : Type 0} (P : X → Type 0) (xs : List X) (y : X) → AllByRecursion P xs → P y → AllByRecursion P (xs ++ y ∷ [])
all-push P [] y h p = (p, tt)
all-push P (x ∷ xs) y h p = (h.0, all-push P xs y h.1 p)

pub in_order-push : (xs : List (List NamedFrame)) (y : List NamedFrame) → AreInOrder xs → is_less_than_last y xs ≡ false → AreInOrder (xs ++ y ∷ [])
in_order-push [] y h e = tt
in_order-push (x ∷ []) y h e = (e, tt)
in_order-push (x ∷ z ∷ xs) y h e = (h.0, in_order-push (z ∷ xs) y h.1 e)

-- ---- each line
no_sigs : IsHistory []
no_sigs = record { few = omega arith; signatures = tt; distinct = tt }

abbrev due_in : List NamedSig → Version → Result State FileKind
due_in sigs version = Ok (record { version = version; stage = Due; sigs = sigs })

head_moves : (before : Version) (sigs : List NamedSig) (line : List ℕ) (t : State) → sigs ≡ [] → head_line sigs line ≡ Ok t → Moves (record { version = before; stage = Head; sigs = sigs }) t line
unfolding head_line
head_moves before sigs line t none e =
    let a = bind_ok (or_else (version_of line) head_kind) (due_in sigs) t e in
    let due : State = record { version = a.0; stage = Due; sigs = sigs } in
    let same : due ≡ t = cc (a.2) in
    subst (λ (u : State). Moves (record { version = before; stage = Head; sigs = sigs }) u line) same (record {
      said = HeadLine a.0;
      text = version_ok line a.0 (or_else_ok (version_of line) head_kind a.0 a.1);
      lines = ap (lines_before_end a.0) none;
      fits = record { history = subst IsHistory (sym none) no_sigs; says = subst (CanSayAll a.0) (sym none) tt; at = tt };
    })

-- a line by its first word
opened_line : (line first word : List ℕ) (words ws : List (List ℕ)) → words_of line ≡ first ∷ words → bytes_eq first word ≡ true → words ≡ ws → line ≡ line_of (word ∷ ws)
opened_line line first word words ws is same e =
    sym (line_of-words_of line) ∙ ap line_of is ∙ ap (λ w. line_of (w ∷ words)) (same_bytes first word same) ∙ ap (λ x. line_of (word ∷ x)) e

below : (n : ℕ) → n ≤ 4096 → (n ≡ 4096 → ⊥) → n < 4096
below n h e = omega (arith, h, e)

due_moves : (version : Version) (sigs : List NamedSig) (line : List ℕ) (words : List (List ℕ)) (t : State) → IsHistory sigs → CanSayAll version sigs → words_of line ≡ words → due_line version sigs words ≡ Ok t
    → Moves (record { version = version; stage = Due; sigs = sigs }) t line
unfolding due_line
due_moves version sigs line [] t h says is e = cc (e)
due_moves version sigs line (first ∷ words) t h says is e =
    elim (chosen (bytes_eq first (codes "signature")) _ _ _ e) [
      | inl opens ↦
          let o = signature_ok version sigs words t opens.1 in
          subst (λ (u : State). Moves (record { version = version; stage = Due; sigs = sigs }) u line) (sym o.after) (record {
            said = SignatureLine version o.opening;
            text = opened_line line first (codes "signature") words (opening_words version o.opening) is opens.0 o.says.text;
            lines = refl;
            fits = record {
              history = h;
              says = says;
              at = record {
                low = o.says.low;
                high = o.says.high;
                some = o.says.some;
                few = o.says.few;
                yields = o.says.yields;
                says = o.says.says;
                due = omega (arith, o.says.some);
                stacks = tt;
                sorted = tt;
                room = below (length sigs) h.few o.room;
              };
            };
          })
      | inr other ↦
          elim (chosen (bytes_eq first (codes "end")) _ _ _ other.1) [
            | inl ends ↦
                let o = end_ok version sigs words t ends.1 in
                subst (λ (u : State). Moves (record { version = version; stage = Due; sigs = sigs }) u line) (sym o.0) (record {
                  said = EndLine (length sigs);
                  text = opened_line line first (codes "end") words (decimal (length sigs) ∷ []) is ends.0 o.1;
                  lines = refl;
                  fits = record { history = h; says = says; at = tt };
                })
            | inr none ↦ cc (none.1)
          ]
    ]

-- the lines of a signature that has its last stack
whole_lines : (version : Version) (sigs : List NamedSig) (o : Opening) (stacks : List (List NamedFrame)) → length stacks ≡ o.count
    → lines_before_end version (sigs ++ signature_with o stacks ∷ []) ≡ lines_before_end version sigs ++ open_lines version o stacks
whole_lines version sigs o stacks e =
    let s : NamedSig = signature_with o stacks in
    ap (λ ls. HeadLine version ∷ ls) (flat_map-append (sig_lines version) sigs (s ∷ []) ∙ ap (λ ls. flat_map (sig_lines version) sigs ++ ls) (append-nil (sig_lines version s)))
    ∙ ap (λ n. let p : Opening = record { depth = o.depth; count = n; on = o.on; yields = o.yields } in lines_before_end version sigs ++ open_lines version p stacks) e

-- the lines of a signature with one stack more
longer_lines : (version : Version) (sigs : List NamedSig) (o : Opening) (stacks : List (List NamedFrame)) (stack : List NamedFrame)
    → lines_before_end version sigs ++ open_lines version o (stacks ++ stack ∷ []) ≡ (lines_before_end version sigs ++ open_lines version o stacks) ++ StackLine stack ∷ []
longer_lines version sigs o stacks stack =
    ap (λ ls. lines_before_end version sigs ++ SignatureLine version o ∷ ls) (map_push (λ s. StackLine s) stacks stack)
    ∙ sym (append_assoc (lines_before_end version sigs) (open_lines version o stacks) (StackLine stack ∷ []))

history_push : (sigs : List NamedSig) (s : NamedSig) → IsHistory sigs → length sigs < 4096 → IsSignature s → have_stacks sigs s.stacks ≡ false → IsHistory (sigs ++ s ∷ [])
history_push sigs s h room is new = record {
  few = omega (arith, room, length_push sigs s);
  signatures = all-push IsSignature sigs s h.signatures is;
  distinct = distinct-push sigs s h.distinct new;
}

-- a stack that was taken
module _ (version : Version) (sigs : List NamedSig) (b : Begun) (stack : List NamedFrame) (h : IsHistory sigs) (says : CanSayAll version sigs) (begun : IsBegun version sigs b) (is : IsStack stack)
    (after : is_less_than_last stack b.stacks ≡ false) where
  abbrev pub stacks : List (List NamedFrame)
  stacks = b.stacks ++ stack ∷ []

  size : length stacks ≡ length b.stacks + 1
  size = length_push b.stacks stack

  abbrev pub whole : NamedSig
  whole = signature_with b.opening stacks

  abbrev pub before : State
  before = record { version = version; stage = Within b; sigs = sigs }

  last_moves : (t : State) → length stacks ≡ b.opening.count → with_signature version sigs whole ≡ Ok t → (lines_so_far t ≡ lines_so_far before ++ StackLine stack ∷ []) × FitsStage t
  last_moves t count e =
      elim (chosen (have_stacks sigs stacks) _ _ _ e) [
        | inl known ↦ cc (known.1)
        | inr new ↦
            let due : State = record { version = version; stage = Due; sigs = sigs ++ whole ∷ [] } in
            let same : due ≡ t = cc (new.1) in
            let sound : IsSignature whole = record {
              low = begun.low;
              high = begun.high;
              some = omega (arith, begun.some, count);
              few = omega (arith, begun.few, count);
              stacks = all-push IsStack b.stacks stack begun.stacks is;
              sorted = in_order-push b.stacks stack begun.sorted after;
              yields = begun.yields;
            } in
            subst (λ (u : State). (lines_so_far u ≡ lines_so_far before ++ StackLine stack ∷ []) × FitsStage u) same (
              whole_lines version sigs b.opening stacks count ∙ longer_lines version sigs b.opening b.stacks stack,
              record {
                history = history_push sigs whole h begun.room sound new.0;
                says = all-push (λ (s : NamedSig). CanSay version s.on s.yields) sigs whole says begun.says;
                at = tt;
              },
            )
      ]

  next_moves : (t : State) → (length stacks ≡ b.opening.count → ⊥) → ◌≡◌ {A = Result State FileKind} (Ok (record { version = version; stage = Within (record b { stacks = stacks }); sigs = sigs })) (Ok t)
      → (lines_so_far t ≡ lines_so_far before ++ StackLine stack ∷ []) × FitsStage t
  next_moves t other e =
      let within : State = record { version = version; stage = Within (record b { stacks = stacks }); sigs = sigs } in
      let same : within ≡ t = cc (e) in
      subst (λ (u : State). (lines_so_far u ≡ lines_so_far before ++ StackLine stack ∷ []) × FitsStage u) same (
        longer_lines version sigs b.opening b.stacks stack,
        record {
          history = h;
          says = says;
          at = record {
            low = begun.low;
            high = begun.high;
            some = begun.some;
            few = begun.few;
            yields = begun.yields;
            says = begun.says;
            due = omega (arith, begun.due, size, other);
            stacks = all-push IsStack b.stacks stack begun.stacks is;
            sorted = in_order-push b.stacks stack begun.sorted after;
            room = begun.room;
          };
        },
      )

  pub with_moves : (t : State) → with_stack version sigs b stacks ≡ Ok t → (lines_so_far t ≡ lines_so_far before ++ StackLine stack ∷ []) × FitsStage t
  with_moves t e =
      elim (chosen (length stacks == b.opening.count) _ _ _ e) [
        | inl last ↦ last_moves t (eqb-true (length stacks) b.opening.count last.0) last.1
        | inr more ↦ next_moves t (eqb-false (length stacks) b.opening.count more.0) more.1
      ]

pub some_words : (line : List ℕ) → 1 ≤ length (words_of line)
some_words line = omega (arith, length-slice_split (λ b. b == 32) line)

stack_moves : (version : Version) (sigs : List NamedSig) (b : Begun) (line : List ℕ) (t : State) → IsHistory sigs → CanSayAll version sigs → IsBegun version sigs b → stack_line version sigs b (words_of line) ≡ Ok t
    → Moves (record { version = version; stage = Within b; sigs = sigs }) t line
unfolding stack_line
stack_moves version sigs b line t h says begun e =
    let a = bind_ok (stack_of (words_of line)) (λ stack. unless (is_less_than_last stack b.stacks) Unsorted >>= λ _. with_stack version sigs b (b.stacks ++ stack ∷ [])) t e in
    let c = bind_ok (unless (is_less_than_last a.0 b.stacks) Unsorted) (λ _. with_stack version sigs b (b.stacks ++ a.0 ∷ [])) t a.2 in
    let stack = stack_ok (words_of line) a.0 (some_words line) a.1 in
    let moved = with_moves version sigs b a.0 h says begun stack.1 (unless_ok (is_less_than_last a.0 b.stacks) Unsorted c.0 c.1) t c.2 in
    record {
      said = StackLine a.0;
      text = sym (line_of-words_of line) ∙ ap line_of stack.0;
      lines = moved.0;
      fits = moved.1;
    }

-- ---- any line, and the end
pub step_moves : (s t : State) (line : List ℕ) → FitsStage s → step s line ≡ Ok t → Moves s t line
unfolding step
step_moves s t line fits e = go s.version s.stage s.sigs fits.history fits.says fits.at e
  where
    go : (version : Version) (stage : Stage) (sigs : List NamedSig) → IsHistory sigs → CanSayAll version sigs → IsAt version stage sigs → step (record { version = version; stage = stage; sigs = sigs }) line ≡ Ok t
        → Moves (record { version = version; stage = stage; sigs = sigs }) t line
    go version Head sigs h says at e = head_moves version sigs line t at e
    go version Due sigs h says at e = due_moves version sigs line (words_of line) t h says refl e
    go version (Within b) sigs h says at e = stack_moves version sigs b line t h says at e
    go version Closed sigs h says at e = cc (e)

closed_is : (stage : Stage) (sigs a : List NamedSig) → closed stage sigs ≡ Ok a → (stage ≡ Closed) × (sigs ≡ a)
closed_is Closed sigs a e = (refl, cc (e))
closed_is Head sigs a e = cc (e)
closed_is Due sigs a e = cc (e)
closed_is (Within b) sigs a e = cc (e)

pub end_closes : (s : State) (last : List ℕ) (a : List NamedSig) → at_end s last ≡ Ok a → (last ≡ []) × (s.stage ≡ Closed) × (s.sigs ≡ a)
unfolding at_end
end_closes s [] a e = let h = closed_is s.stage s.sigs a e in (refl, h.0, h.1)
end_closes s (b ∷ last) a e = cc (e)

pub fits_start : FitsStage start
fits_start = record { history = no_sigs; says = tt; at = refl }

-- ---- what is read is spelled so
abbrev front : State → List ℕ
front s = text_of (lines_so_far s)

pub text-push : (lines : List Line) (x : Line) → text_of (lines ++ x ∷ []) ≡ text_of lines ++ ended (spelled x)
text-push lines x = flat_map-append (λ l. ended (spelled l)) lines (x ∷ []) ∙ ap (λ t. text_of lines ++ t) (append-nil (ended (spelled x)))

step_spells : (s : State) (line : List ℕ) (t : State) → FitsStage s → step s line ≡ Ok t → FitsStage t × (front t ≡ front s ++ ended line)
step_spells s line t fits e =
    let m = step_moves s t line fits e in
    (m.fits, ap text_of m.lines ∙ text-push (lines_so_far s) m.said ∙ ap (λ x. front s ++ ended x) (sym m.text))

-- what a text was read as has that text in a version that can say it
record Told (s : State) (parts : List (List ℕ)) (a : List NamedSig) : Type 0 where
  pub version : Version
  pub history : IsHistory a
  pub says : CanSayAll version a
  pub text : text_in version a ≡ front s ++ join_with_byte 10 parts

end_told : (s : State) (last : List ℕ) (a : List NamedSig) → FitsStage s → at_end s last ≡ Ok a → Told s (last ∷ []) a
end_told s last a fits e =
    let h = end_closes s last a e in
    let lines : lines_so_far s ≡ history_lines s.version a = ap (λ stage. lines_at s.version stage s.sigs) h.1 ∙ ap (history_lines s.version) h.2 in
    record {
      version = s.version;
      history = subst IsHistory h.2 fits.history;
      says = subst (CanSayAll s.version) h.2 fits.says;
      text = sym (ap (λ l. front s ++ l) h.0 ∙ append-nil (front s) ∙ ap text_of lines);
    }

told : (parts : List (List ℕ)) (s : State) (n : ℕ) (a : List NamedSig) → parts ≢ [] → FitsStage s → read_from fault step at_end s n parts ≡ Ok a → Told s parts a
unfolding read_from
told [] s n a some fits e = absurd (some refl)
told (last ∷ []) s n a some fits e = end_told s last a fits (in_line_ok fault n (at_end s last) a e)
told (line ∷ next ∷ parts) s n a some fits e =
    let stepped = bind_ok (in_line fault n (step s line)) (λ t. read_from fault step at_end t (n + 1) (next ∷ parts)) a e in
    let t = stepped.0 in
    let one = step_spells s line t fits (in_line_ok fault n (step s line) t stepped.1) in
    let more = told (next ∷ parts) t (n + 1) a (λ x. cc (x)) one.0 stepped.2 in
    let rest = join_with_byte 10 (next ∷ parts) in
    record {
      version = more.version;
      history = more.history;
      says = more.says;
      text =
          more.text
          ∙ ap (λ x. x ++ rest) one.1
          ∙ append_assoc (front s) (ended line) rest
          ∙ ap (λ x. front s ++ x) (append_assoc line (10 ∷ []) rest);
    }

pub spelled_back : (bytes : List ℕ) (sigs : List NamedSig) → history_of bytes ≡ Ok sigs → IsHistory sigs × IsTextOf bytes sigs
spelled_back bytes sigs e =
    let h = told (lines_of bytes) start 1 sigs (some_part (λ b. b == 10) bytes) fits_start e in
    (h.history, record { version = h.version; says = h.says; text = sym (h.text ∙ text_of-lines_of bytes) })

-- the first line of a text tells its version
head_of : (version : Version) (rest others : List ℕ) (w : Version) → ended (head version) ++ rest ≡ ended (head w) ++ others → w ≡ version
head_of One rest others One e = refl
head_of Two rest others Two e = refl
head_of One rest others Two e = (let n : 49 ≡ 50 = ap (λ bs. get_or bs 12 0) e in absurd (omega (arith, n)))
head_of Two rest others One e = (let n : 50 ≡ 49 = ap (λ bs. get_or bs 12 0) e in absurd (omega (arith, n)))

pub only_text : (bytes : List ℕ) (sigs : List NamedSig) (version : Version) → history_of bytes ≡ Ok sigs → HasHead version bytes → bytes ≡ text_in version sigs
only_text bytes sigs version e h =
    let is = (spelled_back bytes sigs e).1 in
    let same = head_of version h.rest (text_of (flat_map (sig_lines is.version) sigs ++ EndLine (length sigs) ∷ [])) is.version (sym h.begins ∙ is.text) in
    is.text ∙ ap (λ v. text_in v sigs) same

-- ---- the number of lines
sigs_length : (version : Version) (sigs : List NamedSig) → AllByRecursion IsSignature sigs → length (flat_map (sig_lines version) sigs) ≤ 33 * length sigs
sigs_length version [] h = omega arith
sigs_length version (s ∷ sigs) h =
    omega (arith, length-append (sig_lines version s) (flat_map (sig_lines version) sigs), length-map s.stacks (λ x. StackLine x), h.0.few, sigs_length version sigs h.1)

few_lines : (version : Version) (stage : Stage) (sigs : List NamedSig) → IsHistory sigs → IsAt version stage sigs → length (lines_at version stage sigs) < 2 ^ 20
few_lines version Head sigs h at = omega arith
few_lines version Due sigs h at = omega (arith, sigs_length version sigs h.signatures, h.few)
few_lines version (Within b) sigs h at =
    omega (arith, length-append (lines_before_end version sigs) (open_lines version b.opening b.stacks), length-map b.stacks (λ x. StackLine x), sigs_length version sigs h.signatures, h.few, at.due, at.few)
few_lines version Closed sigs h at = omega (arith, length-append (lines_before_end version sigs) (EndLine (length sigs) ∷ []), sigs_length version sigs h.signatures, h.few)

pub line_after : (s t : State) (line : List ℕ) (n : ℕ) → FitsStage s → step s line ≡ Ok t → n ≡ 1 + length (lines_so_far s)
    → FitsStage t × (n + 1 ≡ 1 + length (lines_so_far t)) × (n + 1 < 2 ^ 32)
line_after s t line n fits e at =
    let m = step_moves s t line fits e in
    let longer = ap length m.lines ∙ length_push (lines_so_far s) m.said in
    (m.fits, omega (arith, at, longer), omega (arith, at, few_lines s.version s.stage s.sigs fits.history fits.at))
