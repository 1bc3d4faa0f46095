-- Stacks found by their texts.
use Rattle.std.proofs.Common.{◌≡◌, ◌<◌, ℕ, true, false, ◌||◌, List, [], ◌∷◌, ◌++◌, length, map, Result, Ok, refl, sym, ap, ap₂, ◌∙◌, subst, arith}
use Rattle.std.specs.Prelude.{All, get_or}
use Rattle.std.proofs.Common.{Vec}
use Rattle.std.specs.List.{list_any}
use Rattle.std.specs.Str.{bytes_eq}
use Rattle.std.proofs.lemmas.List.{length-map, get_or-map, map_push}
use Rattle.std.proofs.lemmas.List.Elements.{All-push, recursion_from_All}
use Rattle.dim_text.specs.Cuts.{words_of}
use Rattle.dim_log.specs.declared.log.LogFaultKind.{LogFaultKind}
use Rattle.std.specs.declared.alloc.Global.{Global}
use Rattle.dim_log.specs.declared.log.Spot.{Spot}
use Rattle.dim_log.specs.declared.stacks.Stacks.{Stacks}
use Rattle.dim_log.specs.Value.{SaidFrame}
use Rattle.dim_log.specs.Tables.{with_new, with_all, same_stack, functions_of}
use Rattle.dim_log.specs.Saying.{frames_of}
use Rattle.dim_log.specs.Seen.{word_at, said_stack, AreSpotsWithin}
use Rattle.dim_log.specs.Reader.{seen, stack_in, AreSound, Numbered}
use Rattle.dim_log.proofs.Once.{Extends, with_known, with_unknown, all_extends}
use Rattle.dim_log.proofs.Growing.{mapped, weaker, stack_grown, spots_grown, all_known}
use Rattle.dim_log.proofs.Spelled.{same_texts}

abbrev read : List ℕ → Result (List SaidFrame) LogFaultKind
read text = frames_of (words_of text)

abbrev Read : List (List ℕ) → List (List SaidFrame) → Type 0
Read texts stacks = map read texts ≡ map (λ s. Ok s) stacks

-- a text is among the texts where its stack is among the stacks
pub same_place : (texts : List (List ℕ)) (stacks : List (List SaidFrame)) → Read texts stacks → (text : List ℕ) (s : List SaidFrame) → read text ≡ Ok s → list_any (bytes_eq text) texts ≡ list_any (same_stack s) stacks
same_place [] [] h text s e = refl
same_place [] (t ∷ stacks) h text s e = cc (h)
same_place (x ∷ texts) [] h text s e = cc (h)
same_place (x ∷ texts) (t ∷ stacks) h text s e =
    let first : read x ≡ Ok t = cc (h) in
    let rest : Read texts stacks = cc (h) in
    ap₂ (λ a b. a || b) (same_texts text x s t e first) (same_place texts stacks rest text s e)

-- the stack with the number of a text
pub stack_of_text : (texts : List (List ℕ)) (stacks : List (List SaidFrame)) → Read texts stacks → (n : ℕ) (text : List ℕ) → n < length texts → word_at texts n ≡ text → (n < length stacks) × (read text ≡ Ok (get_or stacks n []))
stack_of_text texts stacks h n text low is =
    let size : length texts ≡ length stacks = sym (length-map texts read) ∙ ap length h ∙ length-map stacks (λ s. Ok s) in
    let within : n < length stacks = omega (arith, low, size) in (
      within,
      ap read (sym is) ∙ sym (get_or-map read texts n [] (Ok []) low) ∙ ap (λ rs. get_or rs n (Ok [])) h ∙ get_or-map (λ s. Ok s) stacks n [] (Ok []) within,
    )

ok_same : (s t : List SaidFrame) → ◌≡◌ {A = Result (List SaidFrame) LogFaultKind} (Ok s) (Ok t) → s ≡ t
ok_same s t e = cc (e)

-- the functions of a known stack are known
known_functions : (k : Stacks) (n : ℕ) → n < length k.stacks.items → All (λ (w : Vec Spot Global). AreSpotsWithin k.functions w.items) k.stacks.items → k.functions ≡ with_all bytes_eq k.functions (functions_of (stack_in k n))
known_functions k n low within = go k.stacks.items n low within
  where
    go : (vs : List (Vec Spot Global)) (i : ℕ) → i < length vs → All (λ (w : Vec Spot Global). AreSpotsWithin k.functions w.items) vs → k.functions ≡ with_all bytes_eq k.functions (functions_of (get_or (map (λ w. said_stack k.functions w.items) vs) i []))
    go [] i low all = absurd (omega (arith, low))
    go (v ∷ vs) i low all =
        let w = get_or (v ∷ vs) i v in
        sym (all_known k.functions w.items (all i v low)) ∙ ap (λ s. with_all bytes_eq k.functions (functions_of s)) (sym (get_or-map (λ (x : Vec Spot Global). said_stack k.functions x.items) (v ∷ vs) i v [] low))

-- a text that is known
pub known_text : (old : Stacks) (texts : List (List ℕ)) (text : List ℕ) (n : ℕ) → AreSound old → texts ≡ with_new bytes_eq old.texts text → list_any (bytes_eq text) old.texts ≡ true → word_at texts n ≡ text → n < length texts
    → Numbered old (record old { texts = texts }) text n
known_text old texts text n h is known at low =
    let same : texts ≡ old.texts = is ∙ with_known bytes_eq old.texts text known in
    let reads : Read texts (seen old) = ap (map read) same ∙ h.texts in
    let found = stack_of_text texts (seen old) reads n text low at in
    let s = stack_in old n in
    let there : list_any (same_stack s) (seen old) ≡ true = sym (same_place old.texts (seen old) h.texts text s found.1) ∙ known in
    let inside : n < length old.stacks.items = omega (arith, found.0, length-map old.stacks.items (λ v. said_stack old.functions v.items)) in
    record {
      value = found.1;
      within = found.0;
      stacks = sym (with_known same_stack (seen old) s there);
      functions = known_functions old n inside h.within;
      sound = record { within = h.within; texts = reads };
    }

-- a text that is new
pub new_text : (old new : Stacks) (text : List ℕ) (n : ℕ) (v : Vec Spot Global) → AreSound old → new.texts ≡ with_new bytes_eq old.texts text → list_any (bytes_eq text) old.texts ≡ false → word_at new.texts n ≡ text → n < length new.texts
    → read text ≡ Ok (said_stack new.functions v.items) → new.functions ≡ with_all bytes_eq old.functions (functions_of (said_stack new.functions v.items)) → AreSpotsWithin new.functions v.items → new.stacks.items ≡ old.stacks.items ++ v ∷ []
    → Numbered old new text n
new_text old new text n v h is none at low e functions within pushed =
    let s = said_stack new.functions v.items in
    let grown : Extends old.functions new.functions = subst (Extends old.functions) (sym functions) (all_extends bytes_eq (functions_of s) old.functions) in
    let words : Vec Spot Global → List SaidFrame = λ w. said_stack new.functions w.items in
    let before : map words old.stacks.items ≡ seen old = mapped (λ (w : Vec Spot Global). AreSpotsWithin old.functions w.items) words (λ w. said_stack old.functions w.items) (λ w low. stack_grown old.functions new.functions w.items grown low) old.stacks.items (recursion_from_All (λ (w : Vec Spot Global). AreSpotsWithin old.functions w.items) old.stacks.items h.within) in
    let seen_is : seen new ≡ seen old ++ s ∷ [] = ap (map words) pushed ∙ map_push words old.stacks.items v ∙ ap (λ ss. ss ++ s ∷ []) before in
    let texts_is : new.texts ≡ old.texts ++ text ∷ [] = is ∙ with_unknown bytes_eq old.texts text none in
    let reads : Read new.texts (seen new) =
    ap (map read) texts_is ∙ map_push read old.texts text ∙ ap₂ (λ xs x. xs ++ x ∷ []) h.texts e
    ∙ sym (map_push (λ t. Ok t) (seen old) s) ∙ ap (map (λ t. Ok t)) (sym seen_is) in
    let found = stack_of_text new.texts (seen new) reads n text low at in
    let same : s ≡ stack_in new n = ok_same s (stack_in new n) (sym e ∙ found.1) in
    let absent : list_any (same_stack s) (seen old) ≡ false = sym (same_place old.texts (seen old) h.texts text s e) ∙ none in
    record {
      value = found.1;
      within = found.0;
      stacks = seen_is ∙ sym (with_unknown same_stack (seen old) s absent) ∙ ap (with_new same_stack (seen old)) same;
      functions = functions ∙ ap (λ x. with_all bytes_eq old.functions (functions_of x)) same;
      sound = record {
        within = subst (All (λ (w : Vec Spot Global). AreSpotsWithin new.functions w.items)) (sym pushed)
            (All-push (λ (w : Vec Spot Global). AreSpotsWithin new.functions w.items) old.stacks.items v (weaker (λ (w : Vec Spot Global). AreSpotsWithin old.functions w.items) (λ (w : Vec Spot Global). AreSpotsWithin new.functions w.items) (λ w low. spots_grown old.functions new.functions w.items grown low) old.stacks.items h.within) within);
        texts = reads;
      };
    }
