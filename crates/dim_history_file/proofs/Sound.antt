-- A history has a text.
use Rattle.std.proofs.Common.{◌≡◌, ◌≢◌, ◌<◌, ◌≤◌, ◌+◌, ℕ, false, List, [], ◌∷◌, ◌++◌, length, map, take, get_or, Some, All, AllPairs, arith, refl, sym, ap, ◌∙◌, append-nil, suc, subst}
use Rattle.std.specs.Prelude.{◌==◌}
use Rattle.std.specs.List.{AllByRecursion, flat_map, slice_get}
use Rattle.std.proofs.lemmas.Bool.{false_from_ne_true, cond-false, ne_eqb}
use Rattle.std.proofs.lemmas.List.{length-map, map_push, take_more, append_assoc, length-take-le}
use Rattle.std.proofs.lemmas.List.Concat.{flat_map-append}
use Rattle.std.proofs.lemmas.List.Elements.{All-nil, All-cons, All-head, All-tail}
use Rattle.std.proofs.lemmas.List.Folds.{list_any_none}
use Rattle.std.proofs.lemmas.Option.{slice_get_within, get_or_from_slice_get}
use Rattle.dim_text.specs.Cuts.{ended, line_of}
use Rattle.dim_stack.specs.declared.Frame.{Frame}
use Rattle.dim_stack.specs.Names.{IsTable, AreAscending, IsNamedBy, table_of}
use Rattle.dim_stack.proofs.Exports.{only_table}
use Rattle.dim_signature.specs.Sig.{Sig, IsSig}
use Rattle.dim_signature.specs.Sorted.{AreSorted}
use Rattle.dim_signature.specs.Catalogue.{IsCatalogue, has_stacks}
use Rattle.dim_signature.proofs.Exports.{has_stacks-Decides}
use Rattle.dim_history_file.specs.declared.opening.Opening.{Opening}
use Rattle.dim_history_file.specs.declared.version.Version.{Version}
use Rattle.dim_history_file.specs.Value.{NamedFrame, NamedSig, named_frame, named_stack, named_sig, named, AreNamed}
use Rattle.dim_history_file.specs.Spelling.{Line, HeadLine, SignatureLine, StackLine, open_lines, spelled_frame, gap, spelled, sig_lines, lines_before_end, text_of}
use Rattle.dim_history_file.specs.Grammar.{IsFrame, IsStack, IsSignature, AreDistinct, IsHistory, AreNear, IsSized, AreSized}
use Rattle.dim_history_file.proofs.Comparing.{in_order_named, have_named}
use Rattle.dim_history_file.proofs.Moving.{text-push}

abbrev IsNear : List Frame → Type 0
IsNear stack = All (λ (f : Frame). f.at ≤ 65535) stack

module _ (names : List (List ℕ)) (table : IsTable names) where
  frames_sound : (fs : List Frame) → IsNamedBy names fs → IsNear fs → AllByRecursion IsFrame (map (named_frame names) fs)
  frames_sound [] h k = tt
  frames_sound (f ∷ fs) h k = (
    record { name = table.named f.func [] (All-head (λ (g : Frame). g.func < length names) f fs h); near = All-head (λ (g : Frame). g.at ≤ 65535) f fs k },
    frames_sound fs (All-tail (λ (g : Frame). g.func < length names) f fs h) (All-tail (λ (g : Frame). g.at ≤ 65535) f fs k),
  )

  stack_sound : (stack : List Frame) → IsNamedBy names stack → IsSized stack → IsNear stack → IsStack (named_stack names stack)
  stack_sound stack h sized near = record {
    some = omega (arith, length-map stack (named_frame names), sized.0);
    few = omega (arith, length-map stack (named_frame names), sized.1);
    frames = frames_sound stack h near;
  }

  stacks_sound : (stacks : List (List Frame)) → All (IsNamedBy names) stacks → All IsSized stacks → All IsNear stacks → AllByRecursion IsStack (map (named_stack names) stacks)
  stacks_sound [] h sized near = tt
  stacks_sound (s ∷ stacks) h sized near = (
    stack_sound s (All-head (IsNamedBy names) s stacks h) (All-head IsSized s stacks sized) (All-head IsNear s stacks near),
    stacks_sound stacks (All-tail (IsNamedBy names) s stacks h) (All-tail IsSized s stacks sized) (All-tail IsNear s stacks near),
  )

  sig_sound : (s : Sig) → IsSig s → AreSorted s.stacks → All (IsNamedBy names) s.stacks → All IsSized s.stacks → All IsNear s.stacks → IsSignature (named_sig names s)
  sig_sound s is sorted h sized near = record {
    low = is.low;
    high = is.high;
    some = omega (arith, length-map s.stacks (named_stack names), is.some);
    few = omega (arith, length-map s.stacks (named_stack names), is.few);
    stacks = stacks_sound s.stacks h sized near;
    sorted = in_order_named names table.ascending s.stacks h sorted;
    yields = is.yields;
  }

  abbrev NamedOne : Sig → Type 0
  NamedOne s = All (IsNamedBy names) s.stacks

  sigs_sound : (sigs : List Sig) → All IsSig sigs → All (λ (s : Sig). AreSorted s.stacks) sigs → AreNamed names sigs → AreSized sigs → AreNear sigs → AllByRecursion IsSignature (named names sigs)
  sigs_sound [] is sorted h sized near = tt
  sigs_sound (s ∷ sigs) is sorted h sized near = (
    sig_sound s (All-head IsSig s sigs is) (All-head (λ (t : Sig). AreSorted t.stacks) s sigs sorted) (All-head NamedOne s sigs h) (All-head (λ (t : Sig). All IsSized t.stacks) s sigs sized) (All-head (λ (t : Sig). All IsNear t.stacks) s sigs near),
    sigs_sound sigs (All-tail IsSig s sigs is) (All-tail (λ (t : Sig). AreSorted t.stacks) s sigs sorted) (All-tail NamedOne s sigs h) (All-tail (λ (t : Sig). All IsSized t.stacks) s sigs sized) (All-tail (λ (t : Sig). All IsNear t.stacks) s sigs near),
  )

  none_has : (s : Sig) (sigs : List Sig) → AllPairs (λ (t u : Sig). t.stacks ≢ u.stacks) (s ∷ sigs) → All (λ (t : Sig). has_stacks s.stacks t ≡ false) sigs
  none_has s sigs pairs k d h =
      false_from_ne_true (has_stacks s.stacks (get_or sigs k d)) (λ t. pairs 0 (suc k) d (omega arith) (omega (arith, h)) (sym ((has_stacks-Decides s.stacks (get_or sigs k d)).0 t)))

  distinct_sound : (sigs : List Sig) → AllPairs (λ (t u : Sig). t.stacks ≢ u.stacks) sigs → AreNamed names sigs → AreDistinct (named names sigs)
  distinct_sound [] pairs h = tt
  distinct_sound (s ∷ sigs) pairs h =
      let rest = All-tail NamedOne s sigs h in (
        sym (have_named names table.ascending sigs s.stacks rest (All-head NamedOne s sigs h)) ∙ list_any_none (has_stacks s.stacks) sigs (none_has s sigs pairs),
        distinct_sound sigs (λ i j d l k. pairs (suc i) (suc j) d (omega (arith, l)) (omega (arith, k))) rest,
      )

  -- the value of a history
  pub sound : (sigs : List Sig) → IsCatalogue sigs → AreNamed names sigs → AreSized sigs → AreNear sigs → IsHistory (named names sigs)
  sound sigs catalogue h sized near = record {
    few = omega (arith, length-map sigs (named_sig names), catalogue.few);
    signatures = sigs_sound sigs catalogue.in_range catalogue.sorted h sized near;
    distinct = distinct_sound sigs catalogue.distinct h;
  }

-- ---- lists that grow by one
pub take_one_more : {X : Type 0} (xs : List X) (i : ℕ) (x : X) → slice_get xs i ≡ Some x → take (i + 1) xs ≡ take i xs ++ x ∷ []
take_one_more xs i x h = take_more xs i x (slice_get_within xs i x h) ∙ ap (λ y. take i xs ++ y ∷ []) (get_or_from_slice_get xs i x x h)

pub map_one_more : {X Y : Type 0} (f : X → Y) (xs : List X) (i : ℕ) (x : X) → slice_get xs i ≡ Some x → map f (take (i + 1) xs) ≡ map f (take i xs) ++ f x ∷ []
map_one_more f xs i x h = ap (map f) (take_one_more xs i x h) ∙ map_push f (take i xs) x

-- the text down to one signature more
pub text_more : (version : Version) (sigs : List NamedSig) (s : NamedSig) → text_of (lines_before_end version (sigs ++ s ∷ [])) ≡ text_of (lines_before_end version sigs) ++ text_of (sig_lines version s)
text_more version sigs s =
    ap (λ ls. text_of (HeadLine version ∷ ls)) (flat_map-append (sig_lines version) sigs (s ∷ []) ∙ ap (λ ls. flat_map (sig_lines version) sigs ++ ls) (append-nil (sig_lines version s)))
    ∙ flat_map-append (λ (l : Line). ended (spelled l)) (lines_before_end version sigs) (sig_lines version s)

-- a table merged with none
pub copied_table : (names none : List (List ℕ)) → AreAscending names → none ≡ [] → table_of (names ++ none) ≡ names
copied_table names none up e = ap (λ n. table_of (names ++ n)) e ∙ ap table_of (append-nil names) ∙ sym (only_table names names up (λ q. refl))

-- depths don't depend on names
pub depths_named : (names : List (List ℕ)) (sigs : List Sig) → map (λ (s : NamedSig). s.depth) (named names sigs) ≡ map (λ (s : Sig). s.depth) sigs
depths_named names [] = refl
depths_named names (s ∷ sigs) = ap (λ ds. s.depth ∷ ds) (depths_named names sigs)

-- ---- a stack's line with one frame more
gap_more : (n : ℕ) → 0 < n → gap n ≡ 32 ∷ []
gap_more n h = cond-false (n == 0) [] (32 ∷ []) (ne_eqb n 0 (λ e. omega (arith, h, e)))

line_more : (ws : List (List ℕ)) (w : List ℕ) → line_of (ws ++ w ∷ []) ≡ line_of ws ++ (gap (length ws) ++ w)
line_more [] w = refl
line_more (v ∷ []) w = refl
line_more (v ∷ u ∷ ws) w =
    ap (λ l. v ++ 32 ∷ l) (line_more (u ∷ ws) w)
    ∙ sym (append_assoc v (32 ∷ line_of (u ∷ ws)) (gap (length (u ∷ ws)) ++ w))
    ∙ ap (λ g. (v ++ 32 ∷ line_of (u ∷ ws)) ++ (g ++ w)) (gap_more (length (u ∷ ws)) (omega arith) ∙ sym (gap_more (length (v ∷ u ∷ ws)) (omega arith)))

pub frames_more : (names : List (List ℕ)) (stack : List Frame) (i : ℕ) (f : Frame) → slice_get stack i ≡ Some f
    → spelled (StackLine (named_stack names (take (i + 1) stack))) ≡ spelled (StackLine (named_stack names (take i stack))) ++ (gap i ++ spelled_frame (named_frame names f))
frames_more names stack i f h =
    let before = named_stack names (take i stack) in
    let words = map spelled_frame before in
    let size : length words ≡ i = length-map before spelled_frame ∙ length-map (take i stack) (named_frame names) ∙ length-take-le i stack (omega (arith, slice_get_within stack i f h)) in
    ap (λ fs. line_of (map spelled_frame fs)) (map_one_more (named_frame names) stack i f h)
    ∙ ap line_of (map_push spelled_frame before (named_frame names f))
    ∙ line_more words (spelled_frame (named_frame names f))
    ∙ ap (λ n. line_of words ++ (gap n ++ spelled_frame (named_frame names f))) size

-- the lines of a signature with one stack more
pub lines_more : (version : Version) (o : Opening) (stacks : List (List NamedFrame)) (s : List NamedFrame) → text_of (open_lines version o (stacks ++ s ∷ [])) ≡ text_of (open_lines version o stacks) ++ ended (spelled (StackLine s))
lines_more version o stacks s =
    ap (λ ls. text_of (SignatureLine version o ∷ ls)) (map_push (λ x. StackLine x) stacks s) ∙ text-push (open_lines version o stacks) (StackLine s)

-- ---- offsets, by numbers and by names
all_to : {X Y : Type 0} (f : X → Y) (P : X → Type 0) (Q : Y → Type 0) → ((x : X) → P x → Q (f x)) → (xs : List X) → All P xs → AllByRecursion Q (map f xs)
all_to f P Q h [] k = tt
all_to f P Q h (x ∷ xs) k = (h x (All-head P x xs k), all_to f P Q h xs (All-tail P x xs k))

all_from : {X Y : Type 0} (f : X → Y) (P : X → Type 0) (Q : Y → Type 0) → ((x : X) → Q (f x) → P x) → (xs : List X) → AllByRecursion Q (map f xs) → All P xs
all_from f P Q h [] k = All-nil P
all_from f P Q h (x ∷ xs) k = All-cons P x xs (h x k.0) (all_from f P Q h xs k.1)

all_weaker : {X : Type 0} (P Q : X → Type 0) → ((x : X) → P x → Q x) → (xs : List X) → AllByRecursion P xs → AllByRecursion Q xs
all_weaker P Q h [] k = tt
all_weaker P Q h (x ∷ xs) k = (h x k.0, all_weaker P Q h xs k.1)

abbrev NearFrame : NamedFrame → Type 0
NearFrame f = f.at ≤ 65535

abbrev NearStack : List NamedFrame → Type 0
NearStack stack = AllByRecursion NearFrame stack

abbrev NearSig : NamedSig → Type 0
NearSig s = AllByRecursion NearStack s.stacks

abbrev NearNumber : Frame → Type 0
NearNumber f = f.at ≤ 65535

abbrev NearNumbers : Sig → Type 0
NearNumbers s = All IsNear s.stacks

near_to : (names : List (List ℕ)) (sigs : List Sig) → AreNear sigs → AllByRecursion NearSig (named names sigs)
near_to names sigs h =
    all_to (named_sig names) NearNumbers NearSig
    (λ s k. all_to (named_stack names) IsNear NearStack (λ stack l. all_to (named_frame names) NearNumber NearFrame (λ f m. m) stack l) s.stacks k)
    sigs h

near_from : (names : List (List ℕ)) (sigs : List Sig) → AllByRecursion NearSig (named names sigs) → AreNear sigs
near_from names sigs h =
    all_from (named_sig names) NearNumbers NearSig
    (λ s k. all_from (named_stack names) IsNear NearStack (λ stack l. all_from (named_frame names) NearNumber NearFrame (λ f m. m) stack l) s.stacks k)
    sigs h

-- what is read, and what has another table, has near offsets
pub near_read : (names : List (List ℕ)) (sigs : List Sig) → IsHistory (named names sigs) → AreNear sigs
near_read names sigs h =
    near_from names sigs (
    all_weaker IsSignature NearSig (λ s is. all_weaker IsStack NearStack (λ stack st. all_weaker IsFrame NearFrame (λ f fr. fr.near) stack st.frames) s.stacks is.stacks) (named names sigs) h.signatures
    )

pub near_renamed : (from to : List (List ℕ)) (old new : List Sig) → named to new ≡ named from old → AreNear old → AreNear new
near_renamed from to old new same h = near_from to new (subst (AllByRecursion NearSig) (sym same) (near_to from old h))
