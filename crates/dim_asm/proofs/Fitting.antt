-- States that reading comes to, and the lines that lead to them.
use Rattle.std.proofs.Common.{◌≡◌, ◌≢◌, ◌<◌, ◌≤◌, ◌+◌, ◌-◌, ◌*◌, ◌^◌, inl, inr, ℕ, Bool, true, false, ◌||◌, List, [], ◌∷◌, ◌++◌, length, map, Ok, arith, refl, sym, ap, ◌∙◌, subst, append_assoc, append-nil}
use Rattle.std.specs.Prelude.{slice_get, suc, ℤ}
use Rattle.std.specs.List.{AllByRecursion, flat_map}
use Rattle.std.specs.Str.{bytes_eq}
use Rattle.std.proofs.lemmas.Bool.{cases_Bool}
use Rattle.std.proofs.lemmas.List.{length-append, length-map, map_push}
use Rattle.std.proofs.lemmas.List.Sums.{sum_by-append}
use Rattle.std.proofs.lemmas.Slice.Eq.{bytes_eq-Decides}
use Rattle.dim_text.specs.Naming.{IsName}
use Rattle.dim_asm.specs.declared.reader.Stage.{Stage}
use Rattle.dim_asm.specs.declared.reader.Stage.TheVariants as stage
use Rattle.dim_asm.specs.Code.{has_name, AreNames}
use Rattle.dim_asm.specs.Source.{Source, Draft, DraftFunction, DraftStart, Statement, Head, LockLine, FuncLine, OpLine, EndLine, ThreadLine, Close, names_of, draft_count, last_size, size_in, with_draft, with_statement}
use Rattle.dim_asm.specs.Judging.{State, after, stage_after, nothing, judged, step, at_end, closed}
use Rattle.dim_asm.specs.Spelling.{open_function, function_lines, open_functions, down_to_locks, down_to_functions, down_to_threads, lines_so_far}
use Rattle.dim_asm.specs.Grammar.{may_follow, IsDraft, HasPlace, IsOpen, IsStart, AreEnded, AreFilled, IsAt, IsFront, FitsStage, IsSource}
use Rattle.dim_asm.specs.Reader.{HasRoom}
use Rattle.dim_asm.proofs.SourceLemmas.{names-with_draft, draft_count-with_draft, draft_count-cons}
use Rattle.dim_asm.proofs.Judgements.{Placed, judged_placed}
use Rattle.dim_text.proofs.Exports.{bind_ok}

-- ---- names
pub differ : (a b : List ℕ) → bytes_eq a b ≡ false → bytes_eq b a ≡ false
differ a b e =
    elim (cases_Bool (bytes_eq b a)) [
      | inl same ↦
          let back : bytes_eq a b ≡ true = (bytes_eq-Decides a b).1 (sym ((bytes_eq-Decides b a).0 same)) in
          cc
      | inr differs ↦ differs
    ]

pub or_false : (a b : Bool) → (a || b) ≡ false → (a ≡ false) × (b ≡ false)
or_false true b e = cc
or_false false b e = (refl, e)

has_name-push : (names : List (List ℕ)) (name other : List ℕ) → has_name names other ≡ false → bytes_eq other name ≡ false → has_name (names ++ name ∷ []) other ≡ false
has_name-push [] name other h e = rw e refl
has_name-push (n ∷ names) name other h e =
    let p = or_false (bytes_eq other n) (has_name names other) h in
    rw (p.0, has_name-push names name other p.1 e) refl

AreNames-push : (names : List (List ℕ)) (name : List ℕ) → AreNames names → IsName name → has_name names name ≡ false → AreNames (names ++ name ∷ [])
AreNames-push [] name h is new = (is, refl, tt)
AreNames-push (n ∷ names) name h is new =
    let p = or_false (bytes_eq name n) (has_name names name) new in
    (h.0, has_name-push names name n h.1 (differ name n p.0), AreNames-push names name h.2 is p.1)

-- ---- lists
all-push : {X : Type 0} (P : X → Type 0) (xs : List X) (y : X) → AllByRecursion P xs → P y → AllByRecursion P (xs ++ y ∷ [])
all-push P [] y h p = (p, tt)
all-push P (x ∷ xs) y h p = (h.0, all-push P xs y h.1 p)

-- ---- the functions
open-with_draft : (d : Draft) (funcs : List DraftFunction) → IsDraft d → AllByRecursion IsOpen funcs → AllByRecursion IsOpen (with_draft d funcs)
open-with_draft d [] is h = tt
open-with_draft d (f ∷ []) is h = (record { few_locals = h.0.few_locals; drafts = all-push IsDraft f.drafts d h.0.drafts is }, tt)
open-with_draft d (f ∷ g ∷ funcs) is h = (h.0, open-with_draft d (g ∷ funcs) is h.1)

length-with_draft : (d : Draft) (funcs : List DraftFunction) → length (with_draft d funcs) ≡ length funcs
length-with_draft d [] = refl
length-with_draft d (f ∷ []) = refl
length-with_draft d (f ∷ g ∷ funcs) = omega (arith, length-with_draft d (g ∷ funcs))

ended-with_draft : (d : Draft) (funcs : List DraftFunction) → AreEnded funcs → AreEnded (with_draft d funcs)
ended-with_draft d [] h = tt
ended-with_draft d (f ∷ []) h = tt
ended-with_draft d (f ∷ g ∷ []) h = h
ended-with_draft d (f ∷ g ∷ k ∷ funcs) h = (h.0, ended-with_draft d (g ∷ k ∷ funcs) h.1)

ended-push : (funcs : List DraftFunction) (f : DraftFunction) → AreFilled funcs → AreEnded (funcs ++ f ∷ [])
ended-push [] f h = tt
ended-push (g ∷ []) f h = (h.0, tt)
ended-push (g ∷ k ∷ funcs) f h = (h.0, ended-push (k ∷ funcs) f h.1)

pub last_size-more : (f g : DraftFunction) (funcs : List DraftFunction) → last_size (f ∷ g ∷ funcs) ≡ last_size (g ∷ funcs)
last_size-more f g funcs =
    let longer : suc (suc (length funcs)) - 1 ≡ suc (length funcs) = omega arith in
    let shorter : suc (length funcs) - 1 ≡ length funcs = omega arith in
    ap (λ i. size_in (slice_get (f ∷ g ∷ funcs) i)) longer ∙ sym (ap (λ i. size_in (slice_get (g ∷ funcs) i)) shorter)

filled : (funcs : List DraftFunction) → AreEnded funcs → last_size funcs ≢ 0 → AreFilled funcs
filled [] h some = tt
filled (f ∷ []) h some = (omega arith, tt)
filled (f ∷ g ∷ funcs) h some = (h.0, filled (g ∷ funcs) h.1 (λ e. some (last_size-more f g funcs ∙ e)))

some-push : (funcs : List DraftFunction) (f : DraftFunction) → 1 ≤ length (funcs ++ f ∷ [])
some-push funcs f = omega (arith, length-append funcs (f ∷ []))

-- ---- what holds behind a line
func_front : (s : Source) (name : List ℕ) (locals : ℕ) → IsFront s → HasPlace s (FuncLine name locals) → IsFront (with_statement (FuncLine name locals) s)
func_front s name locals h p =
    let f : DraftFunction = record { name = name; locals = locals; drafts = [] } in
    record {
      few_locks = h.few_locks;
      few_funcs = omega (arith, length-append s.funcs (f ∷ []), h.few_funcs, p.2);
      few_drafts = omega (arith, sum_by-append (λ g. length g.drafts) s.funcs (f ∷ []), draft_count-cons f [], h.few_drafts);
      few_threads = h.few_threads;
      lock_names = h.lock_names;
      names = subst AreNames (sym (map_push (λ g. g.name) s.funcs f)) (AreNames-push (names_of s) name h.names p.0 p.3);
      functions = all-push IsOpen s.funcs f h.functions (record { few_locals = p.1; drafts = tt });
      starts = h.starts;
    }

front_after : (s : Source) (x : Statement) → IsFront s → HasPlace s x → HasRoom x s → IsFront (with_statement x s)
front_after s Head h p r = h
front_after s (LockLine name) h p r = record {
  few_locks = omega (arith, length-append s.locks (name ∷ []), r.1);
  few_funcs = h.few_funcs;
  few_drafts = h.few_drafts;
  few_threads = h.few_threads;
  lock_names = AreNames-push s.locks name h.lock_names p.0 p.2;
  names = h.names;
  functions = h.functions;
  starts = h.starts;
}
front_after s (FuncLine name locals) h p r = func_front s name locals h p
front_after s (OpLine d) h p r = record {
  few_locks = h.few_locks;
  few_funcs = omega (arith, length-with_draft d s.funcs, h.few_funcs);
  few_drafts = omega (arith, draft_count-with_draft d s.funcs r.0, r.1);
  few_threads = h.few_threads;
  lock_names = h.lock_names;
  names = subst AreNames (sym (names-with_draft d s.funcs)) h.names;
  functions = open-with_draft d s.funcs p.0 h.functions;
  starts = h.starts;
}
front_after s EndLine h p r = h
front_after s (ThreadLine func argument) h p r =
    let t : DraftStart = record { func = func; argument = argument } in
    record {
      few_locks = h.few_locks;
      few_funcs = h.few_funcs;
      few_drafts = h.few_drafts;
      few_threads = omega (arith, length-append s.threads (t ∷ []), h.few_threads, p.2);
      lock_names = h.lock_names;
      names = h.names;
      functions = h.functions;
      starts = all-push IsStart s.threads t h.starts (record { func = p.0; argument = p.1 });
    }
front_after s Close h p r = h

-- a line that stands at its place may be taken
pub room : (at : Stage) (s : Source) (x : Statement) → IsAt at s → IsFront s → may_follow at x ≡ true → HasPlace s x → HasRoom x s
room at s Head a h f p = tt
room at s (LockLine name) a h f p = (p.2, omega (arith, h.few_locks, p.1))
room at s (FuncLine name locals) a h f p = (p.3, omega (arith, h.few_funcs, p.2))
room stage.Function s (OpLine d) a h f p = (a.0, omega (arith, h.few_drafts, p.1))
room _ s (OpLine d) a h f p = cc
room at s EndLine a h f p = tt
room at s (ThreadLine func argument) a h f p = tt
room at s Close a h f p = tt

some_threads : (threads : List DraftStart) (func : List ℕ) (argument : ℤ) → 1 ≤ length (threads ++ record { func = func; argument = argument } ∷ [])
some_threads threads func argument = omega (arith, length-append threads (record { func = func; argument = argument } ∷ []))

at_after : (at : Stage) (s : Source) (x : Statement) → IsAt at s → may_follow at x ≡ true → HasPlace s x → IsAt (stage_after x) (with_statement x s)
at_after stage.Head s Head a f p = rw a (refl, refl)
at_after stage.Locks s (LockLine name) a f p = a
at_after stage.Locks s (FuncLine name locals) a f p =
    let g : DraftFunction = record { name = name; locals = locals; drafts = [] } in
    (some-push s.funcs g, subst (λ fs. AreEnded (fs ++ g ∷ [])) (sym a.0) tt, a.1)
at_after stage.Function s (OpLine d) a f p = (omega (arith, length-with_draft d s.funcs, a.0), ended-with_draft d s.funcs a.1, a.2)
at_after stage.Function s EndLine a f p = (a.0, filled s.funcs a.1 p, a.2)
at_after stage.Functions s (FuncLine name locals) a f p =
    let g : DraftFunction = record { name = name; locals = locals; drafts = [] } in
    (some-push s.funcs g, ended-push s.funcs g a.1, a.2)
at_after stage.Functions s (ThreadLine func argument) a f p = (a.0, a.1, some_threads s.threads func argument)
at_after stage.Threads s (ThreadLine func argument) a f p = (a.0, a.1, some_threads s.threads func argument)
at_after stage.Threads s Close a f p = a
at_after _ s _ a f p = cc

-- a state that reading comes to, behind a line at its place
pub fits_after : (at : Stage) (s : Source) (line : List ℕ) (x : Statement) → FitsStage (record { stage = at; source = s }) → Placed at s line x → FitsStage (after x (record { stage = at; source = s }))
fits_after at s line x h p = record {
  front = front_after s x h.front p.place (room at s x h.at h.front p.follows p.place);
  at = at_after at s x h.at p.follows p.place;
}

-- ---- the lines that lead there
open-lines : (d : Draft) (funcs : List DraftFunction) → 1 ≤ length funcs → open_functions (with_draft d funcs) ≡ open_functions funcs ++ OpLine d ∷ []
open-lines d [] some = absurd (omega arith)
open-lines d (f ∷ []) some = ap (λ ls. FuncLine f.name f.locals ∷ ls) (map_push (λ e. OpLine e) f.drafts d)
open-lines d (f ∷ g ∷ []) some =
    ap (λ ls. function_lines f ++ ls) (open-lines d (g ∷ []) (omega arith)) ∙ sym (append_assoc (function_lines f) (open_functions (g ∷ [])) (OpLine d ∷ []))
open-lines d (f ∷ g ∷ k ∷ funcs) some =
    ap (λ ls. function_lines f ++ ls) (open-lines d (g ∷ k ∷ funcs) (omega arith)) ∙ sym (append_assoc (function_lines f) (open_functions (g ∷ k ∷ funcs)) (OpLine d ∷ []))

end-lines : (funcs : List DraftFunction) → 1 ≤ length funcs → flat_map function_lines funcs ≡ open_functions funcs ++ EndLine ∷ []
end-lines [] some = absurd (omega arith)
end-lines (f ∷ []) some = append-nil (function_lines f)
end-lines (f ∷ g ∷ funcs) some =
    ap (λ ls. function_lines f ++ ls) (end-lines (g ∷ funcs) (omega arith)) ∙ sym (append_assoc (function_lines f) (open_functions (g ∷ funcs)) (EndLine ∷ []))

func-lines : (funcs : List DraftFunction) (g : DraftFunction) → open_functions (funcs ++ g ∷ []) ≡ flat_map function_lines funcs ++ open_function g
func-lines [] g = refl
func-lines (f ∷ []) g = ap (λ ls. ls ++ open_function g) (sym (append-nil (function_lines f)))
func-lines (f ∷ k ∷ funcs) g =
    ap (λ ls. function_lines f ++ ls) (func-lines (k ∷ funcs) g) ∙ sym (append_assoc (function_lines f) (flat_map function_lines (k ∷ funcs)) (open_function g))

pub lines_after : (at : Stage) (s : Source) (x : Statement) → IsAt at s → may_follow at x ≡ true → lines_so_far (stage_after x) (with_statement x s) ≡ lines_so_far at s ++ x ∷ []
lines_after stage.Head s Head a f = rw a refl
lines_after stage.Locks s (LockLine name) a f = ap (λ ls. Head ∷ ls) (map_push (λ n. LockLine n) s.locks name)
lines_after stage.Locks s (FuncLine name locals) a f =
    let g : DraftFunction = record { name = name; locals = locals; drafts = [] } in
    ap (λ fs. down_to_locks s ++ open_functions (fs ++ g ∷ [])) a.0
lines_after stage.Function s (OpLine d) a f =
    ap (λ ls. down_to_locks s ++ ls) (open-lines d s.funcs a.0) ∙ sym (append_assoc (down_to_locks s) (open_functions s.funcs) (OpLine d ∷ []))
lines_after stage.Function s EndLine a f =
    ap (λ ls. down_to_locks s ++ ls) (end-lines s.funcs a.0) ∙ sym (append_assoc (down_to_locks s) (open_functions s.funcs) (EndLine ∷ []))
lines_after stage.Functions s (FuncLine name locals) a f =
    let g : DraftFunction = record { name = name; locals = locals; drafts = [] } in
    ap (λ ls. down_to_locks s ++ ls) (func-lines s.funcs g) ∙ sym (append_assoc (down_to_locks s) (flat_map function_lines s.funcs) (open_function g))
lines_after stage.Functions s (ThreadLine func argument) a f =
    let t : DraftStart = record { func = func; argument = argument } in
    ap (λ ts. down_to_functions s ++ map (λ u. ThreadLine u.func u.argument) (ts ++ t ∷ [])) a.2
lines_after stage.Threads s (ThreadLine func argument) a f =
    let t : DraftStart = record { func = func; argument = argument } in
    ap (λ ls. down_to_functions s ++ ls) (map_push (λ u. ThreadLine u.func u.argument) s.threads t)
    ∙ sym (append_assoc (down_to_functions s) (map (λ u. ThreadLine u.func u.argument) s.threads) (ThreadLine func argument ∷ []))
lines_after stage.Threads s Close a f = refl
lines_after _ s _ a f = cc

-- ---- their number
function_lines-length : (f : DraftFunction) → length (function_lines f) ≡ length f.drafts + 2
function_lines-length f = omega (arith, length-append (open_function f) (EndLine ∷ []), length-map f.drafts (λ d. OpLine d))

functions-length : (funcs : List DraftFunction) → length (flat_map function_lines funcs) ≡ draft_count funcs + 2 * length funcs
functions-length [] = refl
functions-length (f ∷ funcs) =
    omega (arith, length-append (function_lines f) (flat_map function_lines funcs), function_lines-length f, functions-length funcs, draft_count-cons f funcs)

open-length : (funcs : List DraftFunction) → length (open_functions funcs) ≤ draft_count funcs + 2 * length funcs
open-length [] = omega arith
open-length (f ∷ []) = omega (arith, length-map f.drafts (λ d. OpLine d), draft_count-cons f [])
open-length (f ∷ g ∷ funcs) =
    omega (arith, length-append (function_lines f) (open_functions (g ∷ funcs)), function_lines-length f, open-length (g ∷ funcs), draft_count-cons f (g ∷ funcs))

locks-length : (s : Source) → length (down_to_locks s) ≡ length s.locks + 1
locks-length s = omega (arith, length-map s.locks (λ n. LockLine n))

threads-length : (s : Source) → length (down_to_threads s) ≡ length s.locks + 1 + draft_count s.funcs + 2 * length s.funcs + length s.threads
threads-length s = omega (
  arith,
  length-append (down_to_functions s) (map (λ t. ThreadLine t.func t.argument) s.threads),
  length-append (down_to_locks s) (flat_map function_lines s.funcs),
  length-map s.threads (λ t. ThreadLine t.func t.argument),
  functions-length s.funcs,
  locks-length s,
)

pub few_lines : (at : Stage) (s : Source) → IsFront s → length (lines_so_far at s) < 2 ^ 20
few_lines stage.Head s h = omega arith
few_lines stage.Locks s h = omega (arith, locks-length s, h.few_locks)
few_lines stage.Function s h =
    omega (arith, length-append (down_to_locks s) (open_functions s.funcs), locks-length s, open-length s.funcs, h.few_locks, h.few_drafts, h.few_funcs)
few_lines stage.Functions s h =
    omega (arith, length-append (down_to_locks s) (flat_map function_lines s.funcs), locks-length s, functions-length s.funcs, h.few_locks, h.few_drafts, h.few_funcs)
few_lines stage.Threads s h = omega (arith, threads-length s, h.few_locks, h.few_drafts, h.few_funcs, h.few_threads)
few_lines stage.Closed s h =
    omega (arith, length-append (down_to_threads s) (Close ∷ []), threads-length s, h.few_locks, h.few_drafts, h.few_funcs, h.few_threads)

-- ---- a whole line, and the end
pub record Moves (s t : State) (line : List ℕ) (x : Statement) : Type 0 where
  pub placed : Placed s.stage s.source line x
  pub after : t ≡ after x s
  pub fits : FitsStage t
  pub lines : lines_so_far t.stage t.source ≡ lines_so_far s.stage s.source ++ x ∷ []

pub step_moves : (s t : State) (line : List ℕ) → FitsStage s → step s line ≡ Ok t → (x : Statement) × Moves s t line x
unfolding step
step_moves s t line h e =
    let parts = bind_ok (judged s.stage s.source line) (λ x. Ok (after x s)) t e in
    let placed = judged_placed s.stage s.source line parts.0 parts.1 in
    let same : t ≡ after parts.0 s = cc (parts.2) in (
      parts.0,
      record {
        placed = placed;
        after = same;
        fits = subst FitsStage (sym same) (fits_after s.stage s.source line parts.0 h placed);
        lines = subst (λ (u : State). lines_so_far u.stage u.source ≡ lines_so_far s.stage s.source ++ parts.0 ∷ []) (sym same) (lines_after s.stage s.source parts.0 h.at placed.follows);
      },
    )

pub line_after : (s t : State) (line : List ℕ) (n : ℕ) → FitsStage s → step s line ≡ Ok t → n ≡ 1 + length (lines_so_far s.stage s.source)
    → FitsStage t × (n + 1 ≡ 1 + length (lines_so_far t.stage t.source)) × (n + 1 < 2 ^ 32)
line_after s t line n h e at =
    let moves = step_moves s t line h e in
    let longer = ap length moves.1.lines ∙ length-append (lines_so_far s.stage s.source) (moves.0 ∷ []) in
    (moves.1.fits, omega (arith, at, longer), omega (arith, at, few_lines s.stage s.source h.front))

closed_whole : (at : Stage) (s a : Source) → IsAt at s → closed at s ≡ Ok a → (a ≡ s) × IsAt stage.Closed s
closed_whole stage.Closed s a h e = (cc (e), h)
closed_whole _ s a h e = cc (e)

pub end_whole : (s : State) (last : List ℕ) (a : Source) → FitsStage s → at_end s last ≡ Ok a → (a ≡ s.source) × IsSource a × (last ≡ []) × (closed s.stage s.source ≡ Ok a)
unfolding at_end
end_whole s [] a h e =
    let whole = closed_whole s.stage s.source a h.at e in
    let sound : IsSource s.source = record { front = h.front; whole = whole.1 } in
    (whole.0, subst IsSource (sym whole.0) sound, refl, e)
end_whole s (b ∷ last) a h e = cc (e)

pub fits_start : FitsStage (record { stage = stage.Head; source = nothing })
fits_start = record {
  front = record {
    few_locks = omega arith;
    few_funcs = omega arith;
    few_drafts = omega arith;
    few_threads = omega arith;
    lock_names = tt;
    names = tt;
    functions = tt;
    starts = tt;
  };
  at = refl;
}
