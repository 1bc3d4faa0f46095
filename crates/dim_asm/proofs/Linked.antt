-- What is linked is a program.
use Rattle.std.proofs.Common.{◌≡◌, ◌<◌, ◌≤◌, ◌+◌, ℕ, false, List, [], ◌∷◌, length, map, Some, Result, Ok, arith, refl, sym, ap, ◌∙◌, subst}
use Rattle.std.specs.Prelude.{All}
use Rattle.std.specs.List.{AllByRecursion}
use Rattle.std.specs.Str.{bytes_eq}
use Rattle.std.proofs.lemmas.Bool.{ltb-false}
use Rattle.std.proofs.lemmas.List.{length-map}
use Rattle.std.proofs.lemmas.List.Elements.{All-from_recursion}
use Rattle.std.proofs.lemmas.List.Quantifiers.{position-Some}
use Rattle.std.proofs.lemmas.List.Sums.{sum_by-cons}
use Rattle.dim_text.specs.Reading.{◌>>=◌, or_else, in_line}
use Rattle.dim_text.proofs.Exports.{bind_ok, or_else_ok, in_line_ok, unless_ok}
use Rattle.dim_text.specs.Words.{unless}
use Rattle.dim_asm.specs.declared.fault.AsmKind.{AsmKind}
use Rattle.dim_asm.specs.declared.fault.AsmKind.TheVariants.{Unknown, Shape}
use Rattle.dim_asm.specs.declared.op.Op.{Op}
use Rattle.dim_asm.specs.declared.op.Op.TheVariants as op
use Rattle.dim_asm.specs.declared.start.Start.{Start}
use Rattle.dim_asm.specs.declared.mnemonic.Naming.{Naming}
use Rattle.dim_asm.specs.declared.mnemonic.Naming.TheVariants as naming
use Rattle.dim_asm.specs.Faults.{fault}
use Rattle.dim_asm.specs.Code.{Code, Function, place_of, op_count, func_names, IsFine, IsWithin, IsFunction, IsProgram}
use Rattle.dim_asm.specs.Source.{Source, Draft, Ready, Refers, DraftFunction, DraftStart, names_of, draft_count}
use Rattle.dim_asm.specs.Grammar.{IsReady, IsDraft, IsOpen, IsStart, AreFilled, IsSource}
use Rattle.dim_asm.specs.Linking.{Tables, leaves, looks_in, referring, link_draft, link_start, each_line, link_function, link_functions, link, tables_of, first_function, first_thread}

pub place_within : (names : List (List ℕ)) (name : List ℕ) (i : ℕ) → place_of names name ≡ Some i → i < length names
place_within names name i e = (position-Some (bytes_eq name) names i [] e).0

ready_fine : (locks funcs : ℕ) (o : Op) → IsReady o → IsFine locks funcs o
ready_fine locks funcs (op.Call f) h = absurd h
ready_fine locks funcs (op.Lock l) h = absurd h
ready_fine locks funcs (op.Unlock l) h = absurd h
ready_fine locks funcs (op.TryLock l) h = absurd h
ready_fine locks funcs _ h = tt

ready_within : (size : ℕ) (o : Op) → IsReady o → leaves size o ≡ false → IsWithin size o
ready_within size (op.Jmp k) h e = ltb-false size k e
ready_within size (op.Jz k) h e = ltb-false size k e
ready_within size (op.GetL i) h e = h
ready_within size (op.PutL i) h e = h
ready_within size _ h e = tt

-- the lock and the function of an instruction are there, and it does not leave its function
abbrev IsSound : Tables → ℕ → Op → Type 0
IsSound t size o = IsFine (length t.locks) (length t.names) o × IsWithin size o

referring_sound : (t : Tables) (size : ℕ) (n : Naming) (i : ℕ) → i < length (looks_in t n) → IsSound t size (referring n i)
referring_sound t size naming.Call i h = (h, tt)
referring_sound t size naming.Lock i h = (h, tt)
referring_sound t size naming.Unlock i h = (h, tt)
referring_sound t size naming.TryLock i h = (h, tt)

draft_sound : (t : Tables) (size : ℕ) (d : Draft) (o : Op) → IsDraft d → link_draft t size d ≡ Ok o → IsSound t size o
unfolding link_draft
draft_sound t size (Ready q) o h e =
    let parts = bind_ok (unless (leaves size q) Shape) (λ _. Ok q) o e in
    let stays = unless_ok (leaves size q) Shape parts.0 parts.1 in
    let same : q ≡ o = cc (parts.2) in
    subst (IsSound t size) same (ready_fine (length t.locks) (length t.names) q h, ready_within size q h stays)
draft_sound t size (Refers n name) o h e =
    let parts = bind_ok (or_else (place_of (looks_in t n) name) Unknown) (λ i. Ok (referring n i)) o e in
    let place = or_else_ok (place_of (looks_in t n) name) Unknown parts.0 parts.1 in
    let same : referring n parts.0 ≡ o = cc (parts.2) in
    subst (IsSound t size) same (referring_sound t size n parts.0 (place_within (looks_in t n) name parts.0 place))

start_sound : (t : Tables) (s : DraftStart) (r : Start) → link_start t s ≡ Ok r → r.func < length t.names
unfolding link_start
start_sound t s r e =
    let made = λ (f : ℕ). let made : Start = record { func = f; argument = s.argument } in made in
    let parts = bind_ok (or_else (place_of t.names s.func) Unknown) (λ f. Ok (made f)) r e in
    let place = or_else_ok (place_of t.names s.func) Unknown parts.0 parts.1 in
    let same : made parts.0 ≡ r = cc (parts.2) in
    subst (λ (q : Start). q.func < length t.names) same (place_within t.names s.func parts.0 place)

-- line by line
lines_sound : {A B : Type 0} (f : A → Result B AsmKind) (P : A → Type 0) (Q : B → Type 0) → ((x : A) (y : B) → P x → f x ≡ Ok y → Q y) → (n : ℕ) (xs : List A) (ys : List B)
    → AllByRecursion P xs → each_line f n xs ≡ Ok ys → AllByRecursion Q ys × (length ys ≡ length xs)
unfolding each_line
lines_sound f P Q step n [] ys h e = let none : [] ≡ ys = cc in subst (λ zs. AllByRecursion Q zs × (length zs ≡ 0)) none (tt, refl)
lines_sound f P Q step n (x ∷ xs) ys h e =
    let first = bind_ok (in_line fault n (f x)) (λ y. each_line f (n + 1) xs >>= λ zs. Ok (y ∷ zs)) ys e in
    let more = bind_ok (each_line f (n + 1) xs) (λ zs. Ok (first.0 ∷ zs)) ys first.2 in
    let rest = lines_sound f P Q step (n + 1) xs more.0 h.1 more.1 in
    let whole : first.0 ∷ more.0 ≡ ys = cc (more.2) in
    subst (λ zs. AllByRecursion Q zs × (length zs ≡ length (x ∷ xs))) whole (
      (step x first.0 h.0 (in_line_ok fault n (f x) first.0 first.1), rest.0),
      omega (arith, rest.1),
    )

-- a function that has an instruction
abbrev IsWhole : DraftFunction → Type 0
IsWhole f = IsOpen f × (1 ≤ length f.drafts)

-- what linking keeps of a function
pub record Keeps (t : Tables) (f : DraftFunction) (g : Function) : Type 0 where
  pub sound : IsFunction (length t.locks) (length t.names) g
  pub name : g.name ≡ f.name
  pub size : length g.ops ≡ length f.drafts

function_sound : (t : Tables) (n : ℕ) (f : DraftFunction) (g : Function) → IsWhole f → link_function t n f ≡ Ok g → Keeps t f g
unfolding link_function
function_sound t n f g h e =
    let made = λ (ops : List Op). let made : Function = record { name = f.name; locals = f.locals; number = 0; ops = ops } in made in
    let parts = bind_ok (each_line (link_draft t (length f.drafts)) (n + 1) f.drafts) (λ ops. Ok (made ops)) g e in
    let ops = lines_sound (link_draft t (length f.drafts)) IsDraft (IsSound t (length f.drafts)) (draft_sound t (length f.drafts)) (n + 1) f.drafts parts.0 h.0.drafts parts.1 in
    let same : made parts.0 ≡ g = cc (parts.2) in
    let each = All-from_recursion (IsSound t (length f.drafts)) parts.0 ops.0 in
    subst (Keeps t f) same (record {
      sound = record {
        some_ops = omega (arith, ops.1, h.1);
        few_locals = h.0.few_locals;
        fine = λ i d k. (each i d k).0;
        within = λ i d k. rw ops.1 (each i d k).1;
      };
      name = refl;
      size = ops.1;
    })

-- the same of all functions
pub record KeepAll (t : Tables) (fs : List DraftFunction) (gs : List Function) : Type 0 where
  pub sound : AllByRecursion (IsFunction (length t.locks) (length t.names)) gs
  pub names : func_names gs ≡ map (λ f. f.name) fs
  pub count : op_count gs ≡ draft_count fs

functions_sound : (t : Tables) (n : ℕ) (fs : List DraftFunction) (gs : List Function) → AllByRecursion IsWhole fs → link_functions t n fs ≡ Ok gs → KeepAll t fs gs
unfolding link_functions
functions_sound t n [] gs h e = let none : [] ≡ gs = cc in subst (KeepAll t []) none (record { sound = tt; names = refl; count = refl })
functions_sound t n (f ∷ fs) gs h e =
    let more = λ (g : Function). link_functions t (n + length f.drafts + 2) fs >>= λ rest. Ok (g ∷ rest) in
    let first = bind_ok (link_function t n f) more gs e in
    let others = bind_ok (link_functions t (n + length f.drafts + 2) fs) (λ rest. Ok (first.0 ∷ rest)) gs first.2 in
    let one = function_sound t n f first.0 h.0 first.1 in
    let rest = functions_sound t (n + length f.drafts + 2) fs others.0 h.1 others.1 in
    let whole : first.0 ∷ others.0 ≡ gs = cc (others.2) in
    subst (KeepAll t (f ∷ fs)) whole (record {
      sound = (one.sound, rest.sound);
      names = rw (one.name, rest.names) refl;
      count = sum_by-cons (λ g. length g.ops) first.0 others.0 ∙ rw (one.size, rest.count) (sym (sum_by-cons (λ g. length g.drafts) f fs));
    })

both : (fs : List DraftFunction) → AllByRecursion IsOpen fs → AreFilled fs → AllByRecursion IsWhole fs
both [] h k = tt
both (f ∷ fs) h k = ((h.0, k.0), both fs h.1 k.1)

sound_program : (s : Source) (gs : List Function) (rs : List Start) → IsSource s → KeepAll (tables_of s) s.funcs gs → AllByRecursion (λ r. r.func < length (names_of s)) rs → length rs ≡ length s.threads
    → IsProgram (record { locks = s.locks; funcs = gs; threads = rs })
sound_program s gs rs h funcs starts same =
    let names : length (names_of s) ≡ length gs = sym (ap length funcs.names) ∙ length-map gs (λ g. g.name) in
    let count : length (names_of s) ≡ length s.funcs = length-map s.funcs (λ f. f.name) in
    record {
      few_locks = h.front.few_locks;
      some_funcs = omega (arith, names, count, h.whole.0);
      few_funcs = omega (arith, names, count, h.front.few_funcs);
      few_ops = omega (arith, funcs.count, h.front.few_drafts);
      some_threads = omega (arith, same, h.whole.2);
      few_threads = omega (arith, same, h.front.few_threads);
      lock_names = h.front.lock_names;
      names = rw funcs.names h.front.names;
      functions = subst (λ n. All (IsFunction (length s.locks) n) gs) names (All-from_recursion (IsFunction (length s.locks) (length (names_of s))) gs funcs.sound);
      starts = subst (λ n. All (λ r. r.func < n) rs) names (All-from_recursion (λ r. r.func < length (names_of s)) rs starts);
    }

-- what is linked, by its parts
pub link_parts : (s : Source) (p : Code) → link s ≡ Ok p
    → (gs : List Function) × (rs : List Start) × (link_functions (tables_of s) (first_function s) s.funcs ≡ Ok gs) × (each_line (link_start (tables_of s)) (first_thread s) s.threads ≡ Ok rs) × (p ≡ record { locks = s.locks; funcs = gs; threads = rs })
unfolding link
link_parts s p e =
    let t = tables_of s in
    let threads = each_line (link_start t) (first_thread s) s.threads in
    let made = λ (funcs : List Function) (starts : List Start). let made : Code = record { locks = s.locks; funcs = funcs; threads = starts } in made in
    let first = bind_ok (link_functions t (first_function s) s.funcs) (λ funcs. threads >>= λ starts. Ok (made funcs starts)) p e in
    let second = bind_ok threads (λ starts. Ok (made first.0 starts)) p first.2 in
    (first.0, second.0, first.1, second.1, cc (second.2))

-- a source that links is a program
pub linked : (s : Source) (p : Code) → IsSource s → link s ≡ Ok p → IsProgram p
linked s p h e = by_parts s p h (link_parts s p e)
  where
    by_parts : (s : Source) (p : Code) → IsSource s
        → (gs : List Function) × (rs : List Start) × (link_functions (tables_of s) (first_function s) s.funcs ≡ Ok gs) × (each_line (link_start (tables_of s)) (first_thread s) s.threads ≡ Ok rs) × (p ≡ record { locks = s.locks; funcs = gs; threads = rs })
        → IsProgram p
    by_parts s p h (gs, rs, f, r, same) =
        let t = tables_of s in
        let funcs = functions_sound t (first_function s) s.funcs gs (both s.funcs h.front.functions h.whole.1) f in
        let starts = lines_sound (link_start t) IsStart (λ r. r.func < length t.names) (λ x y _ k. start_sound t x y k) (first_thread s) s.threads rs h.front.starts r in
        subst IsProgram (sym same) (sound_program s gs rs h funcs starts.0 starts.1)
