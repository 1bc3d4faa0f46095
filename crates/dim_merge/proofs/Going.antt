-- How far the program came.
use Rattle.std.proofs.Common.{◌≡◌, ◌≢◌, ◌≤◌, ℕ, inl, List, Option, Some, None, Result, Ok, Err, refl, sym, ap, ◌∙◌, subst, arith}
use Rattle.std.specs.Io.KnownBytes.{append_known}
use Rattle.dim_base.specs.Files.{Named}
use Rattle.dim_text.specs.Reading.{Fails}
use Rattle.dim_merge.specs.declared.merging.MergeFault.{MergeFault}
use Rattle.dim_merge.specs.declared.merging.MergeFault.TheVariants as merges
use Rattle.dim_merge.specs.declared.stop.Refusal.{Refusal}
use Rattle.dim_merge.specs.declared.stop.Refusal.TheVariants.{Words, Absent, Long, Bad, Full}
use Rattle.dim_merge.specs.declared.stop.Stop.{Stop}
use Rattle.dim_merge.specs.declared.stop.Stop.TheVariants as stops
use Rattle.dim_merge.specs.Course.{Made, course, makes_of, texts}
use Rattle.dim_merge.specs.Ending.{SinkAt, Performs, Stopped, Ends}
use Rattle.dim_merge.specs.Files.{StopCause}
use Rattle.dim_merge.specs.Lines.{refusal_status}
use Rattle.dim_merge.specs.Stops.{IsNoFault, refusal_of, stop_of}
use Rattle.dim_merge.specs.Words.{MergeWords, merge_words}

pub no_fault : (e : MergeFault) → IsNoFault (stop_of e)
no_fault (merges.Full signatures bytes) = tt
no_fault merges.OutOfMemory = tt

pub cause_of : (X : Type 0) (before now : ℕ) (stop : Stop) → before ≤ now → IsNoFault stop → StopCause {X = X} before now (Err stop)
cause_of X before now (stops.Refused r) h n = h
cause_of X before now (stops.Fault place) h n = absurd n
cause_of X before now stops.OutOfMemory h n = h

module _ (files : Named) (words : List (List ℕ)) where
  pub course_none : merge_words words ≡ None → course files words ≡ Err Words
  unfolding course
  course_none e = rw e refl

  course_unread : (w : MergeWords) (r : Refusal) → merge_words words ≡ Some w → texts files w ≡ Err r → course files words ≡ Err r
  unfolding course
  course_unread w r e f = rw (e, f) refl

  course_makes : (w : MergeWords) (bytes : List ℕ × List ℕ) → merge_words words ≡ Some w → texts files w ≡ Ok bytes → course files words ≡ makes_of w.new_history bytes
  unfolding course
  course_makes w bytes e f = rw (e, f) refl

  pub at_texts : (w : MergeWords) (stop : Stop) (after : Option Named) → merge_words words ≡ Some w → Fails (refusal_of stop) (texts files w) → after ≡ Some files
      → Performs (course files words) files (Err stop) after
  at_texts w (stops.Refused r) after e f k = (course_unread w r e f, k)
  at_texts w (stops.Fault place) after e f k = inl k
  at_texts w stops.OutOfMemory after e f k = k

  pub at_made : (w : MergeWords) (bytes : List ℕ × List ℕ) (stop : Stop) (after : Option Named) → merge_words words ≡ Some w → texts files w ≡ Ok bytes
      → Fails (refusal_of stop) (makes_of w.new_history bytes) → after ≡ Some files → Performs (course files words) files (Err stop) after
  at_made w bytes (stops.Refused r) after e f m k = (course_makes w bytes e f ∙ m, k)
  at_made w bytes (stops.Fault place) after e f m k = inl k
  at_made w bytes stops.OutOfMemory after e f m k = k

  pub at_stored : (w : MergeWords) (bytes : List ℕ × List ℕ) (made : Made) (r : Result (List ℕ) Stop) (after : Option Named) → merge_words words ≡ Some w → texts files w ≡ Ok bytes
      → makes_of w.new_history bytes ≡ Ok made → Performs (Ok made) files r after → Performs (course files words) files r after
  at_stored w bytes made r after e f m p = subst (λ (x : Result Made Refusal). Performs x files r after) (sym (course_makes w bytes e f ∙ m)) p

-- ---- the status
not_nought : (r : Refusal) → refusal_status r ≢ 0
not_nought Words e = omega (arith, e)
not_nought (Absent place) e = omega (arith, e)
not_nought (Long place) e = omega (arith, e)
not_nought (Bad place fault) e = omega (arith, e)
not_nought (Full signatures bytes) e = omega (arith, e)

not_eight : (r : Refusal) → refusal_status r ≢ 8
not_eight Words e = omega (arith, e)
not_eight (Absent place) e = omega (arith, e)
not_eight (Long place) e = omega (arith, e)
not_eight (Bad place fault) e = omega (arith, e)
not_eight (Full signatures bytes) e = omega (arith, e)

module _ (right : Result Made Refusal) (before : Named) (status : ℕ) (after : Option Named) (old new : SinkAt) where
  pub ends_ok : (report : List ℕ) → Performs right before (Ok report) after → (status ≡ 0 → new.taken ≡ append_known old.taken report) → (status ≢ 0 → status ≡ 8) → Ends right before status after old new
  ends_ok report p d k = record {
    done = λ e. (p.0, d e ∙ ap (append_known old.taken) p.1);
    unreported = λ e. p.0;
    fault = λ e. (let n : status ≢ 0 = λ z. omega (arith, e, z) in absurd (omega (arith, e, k n)));
    kept = λ a b c. absurd (c (k a));
    refused = λ a b c d. absurd (c (k a));
  }

  pub ends_err : (stop : Stop) → Performs right before (Err stop) after → Stopped stop status old new → Ends right before status after old new
  ends_err (stops.Refused r) p s = record {
    done = λ e. (let n : status ≢ 9 = λ z. omega (arith, e, z) in absurd (not_nought r (sym (s n).0 ∙ e)));
    unreported = λ e. (let n : status ≢ 9 = λ z. omega (arith, e, z) in absurd (not_eight r (sym (s n).0 ∙ e)));
    fault = λ e. inl p.1;
    kept = λ a b c. p.1;
    refused = λ a b c d. record { refusal = r; is = p.0; status_is = (s d).0; put = (s d).1 };
  }
  ends_err (stops.Fault place) p s = record {
    done = λ e. absurd (omega (arith, e, s));
    unreported = λ e. absurd (omega (arith, e, s));
    fault = λ e. p;
    kept = λ a b c. absurd (b s);
    refused = λ a b c d. absurd (b s);
  }
  ends_err stops.OutOfMemory p s = record {
    done = λ e. absurd (omega (arith, e, s));
    unreported = λ e. absurd (omega (arith, e, s));
    fault = λ e. inl p;
    kept = λ a b c. p;
    refused = λ a b c d. absurd (d s);
  }
