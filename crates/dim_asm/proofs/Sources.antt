-- The text of a source is read as that source, and a text that is read is that of its source.
use Rattle.std.proofs.Common.{◌≡◌, ◌≢◌, ◌≤◌, ◌+◌, ℕ, true, false, List, [], ◌∷◌, ◌++◌, length, map, Result, Ok, arith, refl, sym, ap, ◌∙◌, subst, append_assoc, append-nil}
use Rattle.std.specs.List.{AllByRecursion, flat_map}
use Rattle.std.specs.Str.{bytes_eq}
use Rattle.std.proofs.lemmas.List.{length-append, map-append}
use Rattle.std.proofs.lemmas.List.Sums.{sum_by-append}
use Rattle.dim_text.specs.Cuts.{lines_of, ended}
use Rattle.dim_text.specs.Naming.{IsName}
use Rattle.dim_text.specs.Reading.{◌>>=◌, read_from}
use Rattle.dim_text.proofs.Exports.{read_from-line, Spells, read_from-spelled}
use Rattle.dim_asm.specs.declared.fault.AsmFault.{AsmFault}
use Rattle.dim_asm.specs.declared.reader.Stage.{Stage}
use Rattle.dim_asm.specs.declared.reader.Stage.TheVariants as stage
use Rattle.dim_asm.specs.Faults.{fault}
use Rattle.dim_asm.specs.Code.{has_name, AreNames}
use Rattle.dim_asm.specs.Source.{Source, Draft, DraftFunction, DraftStart, Statement, LockLine, FuncLine, OpLine, EndLine, ThreadLine, Close, draft_count, last_size, with_draft}
use Rattle.dim_asm.specs.Judging.{State, after, step, at_end, closed, start, source_of}
use Rattle.dim_asm.specs.Spelling.{spelled, function_lines, down_to_locks, down_to_functions, down_to_threads, lines_so_far, text_of, source_text}
use Rattle.dim_asm.specs.Grammar.{may_follow, IsDraft, HasPlace, IsOpen, IsStart, AreFilled, FitsStage, IsSource}
use Rattle.dim_asm.proofs.SourceLemmas.{draft_count-cons}
use Rattle.dim_asm.proofs.Fitting.{differ, or_false, last_size-more, step_moves, end_whole, fits_start}
use Rattle.dim_asm.proofs.Judged.{one_line, placed_judged}
use Rattle.dim_asm.proofs.Printed.{text-push}

-- ---- what is read is spelled so
abbrev front : State → List ℕ
front s = text_of (lines_so_far s.stage s.source)

step_spells : (s : State) (line : List ℕ) (t : State) → FitsStage s → step s line ≡ Ok t → FitsStage t × (front t ≡ front s ++ ended line)
step_spells s line t fits e =
    let moves = step_moves s t line fits e in
    let lines = lines_so_far s.stage s.source in
    (moves.1.fits, ap text_of moves.1.lines ∙ text-push lines moves.0 ∙ ap (λ l. front s ++ ended l) (sym moves.1.placed.text))

closed_stage : (at : Stage) (s a : Source) → closed at s ≡ Ok a → at ≡ stage.Closed
closed_stage stage.Closed s a e = refl
closed_stage _ s a e = cc (e)

end_spells : (s : State) (last : List ℕ) (a : Source) → FitsStage s → at_end s last ≡ Ok a → IsSource a × (source_text a ≡ front s ++ last)
end_spells s last a fits e =
    let whole = end_whole s last a fits e in
    let at = closed_stage s.stage s.source a whole.3 in
    (whole.1, ap source_text whole.0 ∙ ap (λ x. text_of (lines_so_far x s.source)) (sym at) ∙ sym (append-nil (front s)) ∙ ap (λ l. front s ++ l) (sym whole.2))

spells : Spells step at_end FitsStage front IsSource source_text
spells = record { steps = step_spells; ends = end_spells }

pub spelled_back : (bytes : List ℕ) (s : Source) → source_of bytes ≡ Ok s → IsSource s × (source_text s ≡ bytes)
spelled_back bytes s e = read_from-spelled fault step at_end FitsStage front IsSource source_text spells bytes start 1 s fits_start e

-- ---- lines that lead from one state to another, each at its place
abbrev Leads : State → List Statement → State → Type 0
Leads s [] t = s ≡ t
Leads s (x ∷ xs) t = (may_follow s.stage x ≡ true) × HasPlace s.source x × Leads (after x s) xs t

leads-append : (s t u : State) (xs ys : List Statement) → Leads s xs t → Leads t ys u → Leads s (xs ++ ys) u
leads-append s t u [] ys h k = subst (λ v. Leads v ys u) (sym h) k
leads-append s t u (x ∷ xs) ys h k = (h.0, h.1, leads-append (after x s) t u xs ys h.2 k)

abbrev Reads : State → ℕ → List ℕ → Result Source AsmFault
Reads s n bytes = read_from fault step at_end s n (lines_of bytes)

one_taken : (s : State) (x : Statement) → may_follow s.stage x ≡ true → HasPlace s.source x → step s (spelled x) ≡ Ok (after x s)
unfolding step
one_taken s x f h = ap (λ r. r >>= λ y. Ok (after y s)) (placed_judged s.stage s.source x f h)

leads_read : (xs : List Statement) (s t : State) (n : ℕ) (rest : List ℕ) → Leads s xs t → (m : ℕ) × (Reads s n (text_of xs ++ rest) ≡ Reads t m rest)
leads_read [] s t n rest h = (n, ap (λ u. Reads u n rest) h)
leads_read (x ∷ xs) s t n rest h =
    let more = leads_read xs (after x s) t (n + 1) rest h.2 in
    let first = read_from-line fault step at_end s (after x s) n (spelled x) (text_of xs ++ rest) (one_line s.source x h.1) (one_taken s x h.0 h.1) in
    (more.0, ap (Reads s n) (append_assoc (ended (spelled x)) (text_of xs) rest) ∙ first ∙ more.1)

-- ---- names that none of the earlier ones is
not_there : (done : List (List ℕ)) (name : List ℕ) (rest : List (List ℕ)) (n : List ℕ) → has_name (done ++ name ∷ rest) n ≡ false → bytes_eq n name ≡ false
not_there [] name rest n h = (or_false (bytes_eq n name) (has_name rest n) h).0
not_there (m ∷ done) name rest n h = not_there done name rest n (or_false (bytes_eq n m) (has_name (done ++ name ∷ rest) n) h).1

new_name : (done : List (List ℕ)) (name : List ℕ) (rest : List (List ℕ)) → AreNames (done ++ name ∷ rest) → IsName name × (has_name done name ≡ false)
new_name [] name rest h = (h.0, refl)
new_name (n ∷ done) name rest h =
    let more = new_name done name rest h.2 in
    (more.0, rw (differ n name (not_there done name rest n h.1), more.1) refl)

-- what holds of each of a list holds of one in its middle
all_at : {X : Type 0} (P : X → Type 0) (done : List X) (x : X) (rest : List X) → AllByRecursion P (done ++ x ∷ rest) → P x
all_at P [] x rest h = h.0
all_at P (y ∷ done) x rest h = all_at P done x rest h.1

fewer : {X : Type 0} (whole done : List X) (x : X) (rest : List X) (most : ℕ) → done ++ x ∷ rest ≡ whole → length whole ≤ most → length done ≢ most
fewer whole done x rest most e few full = omega (arith, full, few, ap length (sym e), length-append done (x ∷ rest))

-- ---- the locks
abbrev in_locks : List (List ℕ) → State
in_locks locks = record { stage = stage.Locks; source = record { locks = locks; funcs = []; threads = [] } }

locks_lead : (whole done rest : List (List ℕ)) → done ++ rest ≡ whole → AreNames whole → length whole ≤ 256 → Leads (in_locks done) (map (λ name. LockLine name) rest) (in_locks whole)
locks_lead whole done [] e h few = ap in_locks (sym (append-nil done) ∙ e)
locks_lead whole done (name ∷ rest) e h few =
    let here = new_name done name rest (subst AreNames (sym e) h) in
    (refl, (here.0, fewer whole done name rest 256 e few, here.1), locks_lead whole (done ++ name ∷ []) rest (append_assoc done (name ∷ []) rest ∙ e) h few)

-- ---- the functions
abbrev in_functions : Stage → List (List ℕ) → List DraftFunction → State
in_functions at locks funcs = record { stage = at; source = record { locks = locks; funcs = funcs; threads = [] } }

with_draft-last : (d : Draft) (fs : List DraftFunction) (f : DraftFunction) → with_draft d (fs ++ f ∷ []) ≡ fs ++ record f { drafts = f.drafts ++ d ∷ [] } ∷ []
with_draft-last d [] f = refl
with_draft-last d (g ∷ []) f = refl
with_draft-last d (g ∷ k ∷ fs) f = ap (λ gs. g ∷ gs) (with_draft-last d (k ∷ fs) f)

draft_count-last : (fs : List DraftFunction) (f : DraftFunction) → draft_count (fs ++ f ∷ []) ≡ draft_count fs + length f.drafts
draft_count-last fs f = omega (arith, sum_by-append (λ g. length g.drafts) fs (f ∷ []), draft_count-cons f [])

last_size-push : (fs : List DraftFunction) (f : DraftFunction) → last_size (fs ++ f ∷ []) ≡ length f.drafts
last_size-push [] f = refl
last_size-push (g ∷ []) f = last_size-more g f []
last_size-push (g ∷ k ∷ fs) f = last_size-more g k (fs ++ f ∷ []) ∙ last_size-push (k ∷ fs) f

drafts_lead : (locks : List (List ℕ)) (fs : List DraftFunction) (f : DraftFunction) (done rest : List Draft) → done ++ rest ≡ f.drafts → AllByRecursion IsDraft f.drafts → draft_count (fs ++ f ∷ []) ≤ 65536
    → Leads (in_functions stage.Function locks (fs ++ record f { drafts = done } ∷ [])) (map (λ d. OpLine d) rest) (in_functions stage.Function locks (fs ++ f ∷ []))
drafts_lead locks fs f done [] e h few = ap (λ ds. in_functions stage.Function locks (fs ++ record f { drafts = ds } ∷ [])) (sym (append-nil done) ∙ e)
drafts_lead locks fs f done (d ∷ rest) e h few =
    let g : DraftFunction = record f { drafts = done } in
    let here = all_at IsDraft done d rest (subst (AllByRecursion IsDraft) (sym e) h) in
    let room : draft_count (fs ++ g ∷ []) ≢ 65536 = λ full. omega (arith, full, few, draft_count-last fs g, draft_count-last fs f, ap length (sym e), length-append done (d ∷ rest)) in
    let more = drafts_lead locks fs f (done ++ d ∷ []) rest (append_assoc done (d ∷ []) rest ∙ e) h few in (
      refl,
      (here, room),
      subst (λ gs. Leads (in_functions stage.Function locks gs) (map (λ x. OpLine x) rest) (in_functions stage.Function locks (fs ++ f ∷ []))) (sym (with_draft-last d fs g)) more,
    )

function_leads : (at : Stage) (locks : List (List ℕ)) (fs : List DraftFunction) (f : DraftFunction) → ((name : List ℕ) (locals : ℕ) → may_follow at (FuncLine name locals) ≡ true)
    → HasPlace (record { locks = locks; funcs = fs; threads = [] }) (FuncLine f.name f.locals) → IsOpen f → 1 ≤ length f.drafts → draft_count (fs ++ f ∷ []) ≤ 65536
    → Leads (in_functions at locks fs) (function_lines f) (in_functions stage.Functions locks (fs ++ f ∷ []))
function_leads at locks fs f opens place is some few =
    let within = in_functions stage.Function locks (fs ++ record f { drafts = [] } ∷ []) in
    let whole = in_functions stage.Function locks (fs ++ f ∷ []) in
    let ends : last_size (fs ++ f ∷ []) ≢ 0 = λ none. omega (arith, none, some, last_size-push fs f) in
    let drafts = drafts_lead locks fs f [] f.drafts refl is.drafts few in (
      opens f.name f.locals,
      place,
      leads-append within whole (in_functions stage.Functions locks (fs ++ f ∷ [])) (map (λ d. OpLine d) f.drafts) (EndLine ∷ []) drafts (refl, ends, refl),
    )

abbrev stage_behind : Stage → List DraftFunction → Stage
stage_behind at [] = at
stage_behind at (f ∷ fs) = stage.Functions

behind_functions : (fs : List DraftFunction) → stage_behind stage.Functions fs ≡ stage.Functions
behind_functions [] = refl
behind_functions (f ∷ fs) = refl

-- what holds of all functions of a source
record AreReadable (funcs : List DraftFunction) : Type 0 where
  pub few : length funcs ≤ 256
  pub few_drafts : draft_count funcs ≤ 65536
  pub names : AreNames (map (λ f. f.name) funcs)
  pub functions : AllByRecursion IsOpen funcs
  pub filled : AreFilled funcs

func_place : (locks : List (List ℕ)) (whole done : List DraftFunction) (f : DraftFunction) (rest : List DraftFunction) → done ++ f ∷ rest ≡ whole → AreReadable whole
    → HasPlace (record { locks = locks; funcs = done; threads = [] }) (FuncLine f.name f.locals)
func_place locks whole done f rest e h =
    let names : AreNames (map (λ g. g.name) done ++ f.name ∷ map (λ g. g.name) rest) = subst AreNames (sym (ap (map (λ g. g.name)) e) ∙ map-append (λ g. g.name) done (f ∷ rest)) h.names in
    let here = new_name (map (λ g. g.name) done) f.name (map (λ g. g.name) rest) names in
    let is = all_at IsOpen done f rest (subst (AllByRecursion IsOpen) (sym e) h.functions) in
    (here.0, is.few_locals, fewer whole done f rest 256 e h.few, here.1)

few_so_far : (whole done : List DraftFunction) (f : DraftFunction) (rest : List DraftFunction) → done ++ f ∷ rest ≡ whole → draft_count whole ≤ 65536 → draft_count (done ++ f ∷ []) ≤ 65536
few_so_far whole done f rest e few =
    omega (arith, few, ap draft_count (sym e), sum_by-append (λ g. length g.drafts) done (f ∷ rest), draft_count-cons f rest, draft_count-last done f)

functions_lead : (at : Stage) (locks : List (List ℕ)) (whole done rest : List DraftFunction) → ((name : List ℕ) (locals : ℕ) → may_follow at (FuncLine name locals) ≡ true) → done ++ rest ≡ whole → AreReadable whole
    → Leads (in_functions at locks done) (flat_map function_lines rest) (in_functions (stage_behind at rest) locks whole)
functions_lead at locks whole done [] opens e h = ap (in_functions at locks) (sym (append-nil done) ∙ e)
functions_lead at locks whole done (f ∷ rest) opens e h =
    let is = all_at IsOpen done f rest (subst (AllByRecursion IsOpen) (sym e) h.functions) in
    let some = all_at (λ g. 1 ≤ length g.drafts) done f rest (subst AreFilled (sym e) h.filled) in
    let first = function_leads at locks done f opens (func_place locks whole done f rest e h) is some (few_so_far whole done f rest e h.few_drafts) in
    let more = functions_lead stage.Functions locks whole (done ++ f ∷ []) rest (λ name locals. refl) (append_assoc done (f ∷ []) rest ∙ e) h in
    let ends = subst (λ x. Leads (in_functions stage.Functions locks (done ++ f ∷ [])) (flat_map function_lines rest) (in_functions x locks whole)) (behind_functions rest) more in
    leads-append (in_functions at locks done) (in_functions stage.Functions locks (done ++ f ∷ [])) (in_functions stage.Functions locks whole) (function_lines f) (flat_map function_lines rest) first ends

-- ---- the threads
abbrev in_threads : Stage → List (List ℕ) → List DraftFunction → List DraftStart → State
in_threads at locks funcs threads = record { stage = at; source = record { locks = locks; funcs = funcs; threads = threads } }

abbrev stage_of_threads : Stage → List DraftStart → Stage
stage_of_threads at [] = at
stage_of_threads at (t ∷ ts) = stage.Threads

behind_threads : (ts : List DraftStart) → stage_of_threads stage.Threads ts ≡ stage.Threads
behind_threads [] = refl
behind_threads (t ∷ ts) = refl

threads_lead : (at : Stage) (locks : List (List ℕ)) (funcs : List DraftFunction) (whole done rest : List DraftStart) → ((t : DraftStart) → may_follow at (ThreadLine t.func t.argument) ≡ true) → done ++ rest ≡ whole
    → length whole ≤ 32 → AllByRecursion IsStart whole → Leads (in_threads at locks funcs done) (map (λ t. ThreadLine t.func t.argument) rest) (in_threads (stage_of_threads at rest) locks funcs whole)
threads_lead at locks funcs whole done [] starts e few h = ap (in_threads at locks funcs) (sym (append-nil done) ∙ e)
threads_lead at locks funcs whole done (t ∷ rest) starts e few h =
    let is = all_at IsStart done t rest (subst (AllByRecursion IsStart) (sym e) h) in
    let more = threads_lead stage.Threads locks funcs whole (done ++ t ∷ []) rest (λ u. refl) (append_assoc done (t ∷ []) rest ∙ e) few h in
    let ends = subst (λ x. Leads (in_threads stage.Threads locks funcs (done ++ t ∷ [])) (map (λ u. ThreadLine u.func u.argument) rest) (in_threads x locks funcs whole)) (behind_threads rest) more in
    (starts t, (is.func, is.argument, fewer whole done t rest 32 e few), ends)

-- ---- the whole text
some_functions : (at : Stage) (fs : List DraftFunction) → 1 ≤ length fs → stage_behind at fs ≡ stage.Functions
some_functions at [] some = absurd (omega arith)
some_functions at (f ∷ fs) some = refl

some_threads : (at : Stage) (ts : List DraftStart) → 1 ≤ length ts → stage_of_threads at ts ≡ stage.Threads
some_threads at [] some = absurd (omega arith)
some_threads at (t ∷ ts) some = refl

down_to_locks_lead : (s : Source) → IsSource s → Leads start (down_to_locks s) (in_locks s.locks)
down_to_locks_lead s h = (refl, tt, locks_lead s.locks [] s.locks refl h.front.lock_names h.front.few_locks)

down_to_functions_lead : (s : Source) → IsSource s → Leads start (down_to_functions s) (in_functions stage.Functions s.locks s.funcs)
down_to_functions_lead s h =
    let readable : AreReadable s.funcs = record {
      few = h.front.few_funcs;
      few_drafts = h.front.few_drafts;
      names = h.front.names;
      functions = h.front.functions;
      filled = h.whole.1;
    } in
    let lines = flat_map function_lines s.funcs in
    let lead = functions_lead stage.Locks s.locks s.funcs [] s.funcs (λ name locals. refl) refl readable in
    let ends = subst (λ x. Leads (in_locks s.locks) lines (in_functions x s.locks s.funcs)) (some_functions stage.Locks s.funcs h.whole.0) lead in
    leads-append start (in_locks s.locks) (in_functions stage.Functions s.locks s.funcs) (down_to_locks s) lines (down_to_locks_lead s h) ends

down_to_threads_lead : (s : Source) → IsSource s → Leads start (down_to_threads s) (record { stage = stage.Threads; source = s })
down_to_threads_lead s h =
    let lines = map (λ t. ThreadLine t.func t.argument) s.threads in
    let before = in_functions stage.Functions s.locks s.funcs in
    let lead = threads_lead stage.Functions s.locks s.funcs s.threads [] s.threads (λ t. refl) refl h.front.few_threads h.front.starts in
    let ends = subst (λ x. Leads before lines (in_threads x s.locks s.funcs s.threads)) (some_threads stage.Functions s.threads h.whole.2) lead in
    leads-append start before (record { stage = stage.Threads; source = s }) (down_to_functions s) lines (down_to_functions_lead s h) ends

read_end : (s : Source) (n : ℕ) → Reads (record { stage = stage.Closed; source = s }) n [] ≡ Ok s
unfolding read_from at_end
read_end s n = refl

-- the text of a source is read as that source
pub read_again : (s : Source) → IsSource s → source_of (source_text s) ≡ Ok s
read_again s h =
    let last : State = record { stage = stage.Closed; source = s } in
    let lines = down_to_threads s ++ Close ∷ [] in
    let leads = leads-append start (record { stage = stage.Threads; source = s }) last (down_to_threads s) (Close ∷ []) (down_to_threads_lead s h) (refl, tt, refl) in
    let reads = leads_read lines start last 1 [] leads in
    ap (Reads start 1) (sym (append-nil (text_of lines))) ∙ reads.1 ∙ read_end s reads.0
