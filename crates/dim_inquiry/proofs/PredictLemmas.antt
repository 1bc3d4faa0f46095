-- How far `predict` came.
use Rattle.std.proofs.Common.{◌≡◌, ◌<◌, ◌≤◌, ℕ, Bool, true, false, cond, ltb, [], length, Option, Some, Result, Ok, Err, refl, sym, ap, ◌∙◌, subst, arith}
use Rattle.std.proofs.lemmas.Bool.{le-ltb, ltb-false}
use Rattle.dim_base.specs.Files.{Named, with_file}
use Rattle.dim_history_file.specs.Judging.{history_of}
use Rattle.dim_history_file.specs.Spelling.{history_text}
use Rattle.dim_predict.specs.Candidates.{different, AreTooMany}
use Rattle.dim_predict.specs.Nestings.{contents}
use Rattle.dim_words.specs.Words.{PredictWords}
use Rattle.dim_inquiry.specs.declared.report.Report.{Report}
use Rattle.dim_inquiry.specs.declared.stop.Place.TheVariants.{NewHistory}
use Rattle.dim_inquiry.specs.declared.stop.Refusal.{Refusal}
use Rattle.dim_inquiry.specs.declared.stop.Refusal.TheVariants as refusals
use Rattle.dim_inquiry.specs.declared.stop.Stop.{Stop}
use Rattle.dim_inquiry.specs.declared.stop.Stop.TheVariants as stops
use Rattle.dim_inquiry.specs.Course.{Course, Stops, Runs, after_calls, go_on, ends, gives, stores, ◌>>=◌}
use Rattle.dim_inquiry.specs.Judging.{Given, judged_course}
use Rattle.dim_inquiry.specs.Predict.{Foretold, foretold_by, foretold_report, foretells, predict_course, ReadsAgain}
use Rattle.dim_inquiry.proofs.CourseLemmas.{Stops-first, Runs-behind}

-- ---- what is foretold

abbrev pub foretelling_by : Bool → Foretold → Course Foretold
foretelling_by b f = cond b (ends (Err refusals.ManyNestings)) (gives f)

not_above : (a b : ℕ) → (a < b → ⊥) → b ≤ a
not_above a b h = omega (arith, h)

abbrev said : Given → ℕ
said g = length (different (contents g.trace.entries))

-- ---- the whole command

abbrev identity : Report → Report
identity r = r

abbrev pub behind_foretelling : PredictWords → Foretold → Course Report
behind_foretelling w f = stores NewHistory w.new_history (history_text f.sigs) >>= λ stored. gives (foretold_report f.candidates f.added)

abbrev pub behind_judging : PredictWords → Given → Course Report
behind_judging w g = foretells w.depth g >>= behind_foretelling w

module _ (files : Named) (w : PredictWords) where
  abbrev judged : Course Given
  judged = judged_course files w.judged

  pub at_judging : (stop : Stop) (after : Option Named) → Stops judged files stop after → Stops (predict_course files w) files stop after
  unfolding predict_course
  at_judging stop after h = Stops-first judged (behind_judging w) files stop after h

  -- behind what was judged
  module _ (g : Given) (so : judged.ending ≡ Ok g) where
    abbrev before : Named
    before = after_calls judged.calls files

    behind : (r : Result Report Stop) (after : Option Named) → Runs identity (behind_judging w g) before r after → Runs identity (predict_course files w) files r after
    unfolding predict_course
    behind r after h = Runs-behind judged (behind_judging w) identity files g r after so h

    pub at_foretelling : (stop : Stop) (after : Option Named) → Stops (foretells w.depth g) before stop after → Stops (predict_course files w) files stop after
    at_foretelling stop after h = behind (Err stop) after (Stops-first (foretells w.depth g) (behind_foretelling w) before stop after h)

    -- behind what is foretold
    module _ (f : Foretold) (is : (foretells w.depth g).ending ≡ Ok f) (kept : after_calls (foretells w.depth g).calls before ≡ before) where
      onwards : (r : Result Report Stop) (after : Option Named) → Runs identity (behind_foretelling w f) before r after → Runs identity (predict_course files w) files r after
      onwards r after h =
          behind r after (Runs-behind (foretells w.depth g) (behind_foretelling w) identity before f r after is (subst (λ m. Runs identity (behind_foretelling w f) m r after) (sym kept) h))

      pub at_building : (after : Option Named) → after ≡ Some before → Stops (predict_course files w) files stops.OutOfMemory after
      at_building after e = onwards (Err stops.OutOfMemory) after (record { made = []; left = (behind_foretelling w f).calls; order = refl; files = e })

      pub at_storing : (stop : Stop) (after : Option Named) → Stops (stores NewHistory w.new_history (history_text f.sigs)) before stop after → Stops (predict_course files w) files stop after
      at_storing stop after h =
          onwards (Err stop) after (Stops-first (stores NewHistory w.new_history (history_text f.sigs)) (λ stored. gives (foretold_report f.candidates f.added)) before stop after h)

      pub at_end : (after : Option Named) → after ≡ Some (with_file before w.new_history (Some (history_text f.sigs))) → Runs (λ (r : Report). r) (predict_course files w) files (Ok (foretold_report f.candidates f.added)) after
      at_end after e = onwards (Ok (foretold_report f.candidates f.added)) after (refl, e)

-- the files after calls that leave them as they were
pub still : (files after : Named) → ◌≡◌ {A = Option Named} (Some files) (Some after) → after ≡ files
still files after e = cc

-- ---- the text

same_given : (a b : Given) → ◌≡◌ {A = Result Given Refusal} (Ok a) (Ok b) → a ≡ b
same_given a b e = cc

told_by : (b : Bool) (f g : Foretold) → (foretelling_by b f).ending ≡ Ok g → f ≡ g
told_by true f g e = absurd (cc)
told_by false f g e = cc

pub reads_again : (files : Named) (w : PredictWords) (g : Given) → (judged_course files w.judged).ending ≡ Ok g → (f : Foretold) → (foretells w.depth g).ending ≡ Ok f
    → history_of (history_text f.sigs) ≡ Ok f.sigs → ReadsAgain w files
reads_again files w g so f is again other judged =
    let same = same_given g other (sym so ∙ judged) in
    let f_is = told_by (ltb 4096 (said g)) (foretold_by w.depth g) f is in
    subst (λ (x : Given). history_of (history_text (foretold_by w.depth x).sigs) ≡ Ok (foretold_by w.depth x).sigs) same
    (subst (λ (x : Foretold). history_of (history_text x.sigs) ≡ Ok x.sigs) (sym f_is) again)

-- ---- what a report of it says

few_at : (w : PredictWords) (b : Bool) (f : Foretold) (report : Report) → (foretelling_by b f >>= behind_foretelling w).ending ≡ Ok report → b ≡ false
few_at w true f report e = cc
few_at w false f report e = refl

ends_behind : (w : PredictWords) (c : Course Given) (g : Given) → c.ending ≡ Ok g → (c >>= behind_judging w).ending ≡ (behind_judging w g).ending
ends_behind w c g so = ap (λ (e : Result Given Refusal). (go_on c.calls e (behind_judging w)).ending) so

-- where a report is given, the nestings say few different things
pub few_so : (files : Named) (w : PredictWords) (g : Given) (report : Report) → (judged_course files w.judged).ending ≡ Ok g → (predict_course files w).ending ≡ Ok report → AreTooMany g.trace.entries → ⊥
unfolding predict_course
few_so files w g report so e many =
    let few = ltb-false 4096 (said g) (few_at w (ltb 4096 (said g)) (foretold_by w.depth g) report (sym (ends_behind w (judged_course files w.judged) g so) ∙ e)) in
    omega (arith, few, many)

gives_it : (b : Bool) (f : Foretold) → b ≡ false → (foretelling_by b f).ending ≡ Ok f
gives_it true f e = cc
gives_it false f e = refl

calls_none : (b : Bool) (f : Foretold) (files : Named) → after_calls (foretelling_by b f).calls files ≡ files
calls_none true f files = refl
calls_none false f files = refl

-- and the command ends so
pub ends_foretold : (files : Named) (w : PredictWords) (g : Given) → (judged_course files w.judged).ending ≡ Ok g → (AreTooMany g.trace.entries → ⊥)
    → Runs (λ (r : Report). r) (predict_course files w) files (Ok (foretold_report (foretold_by w.depth g).candidates (foretold_by w.depth g).added))
    (Some (with_file (after_calls (judged_course files w.judged).calls files) w.new_history (Some (history_text (foretold_by w.depth g).sigs))))
ends_foretold files w g so few =
    let b = ltb 4096 (said g) in
    let f = foretold_by w.depth g in
    at_end files w g so f (gives_it b f (le-ltb 4096 (said g) (not_above 4096 (said g) few))) (calls_none b f _) _ refl
