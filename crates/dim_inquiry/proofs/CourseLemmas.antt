-- One part of a command after another.
use Rattle.std.proofs.Common.{◌≤◌, ℕ, arith, ◌≡◌, List, [], ◌∷◌, ◌++◌, Option, Some, Result, Ok, Err, refl, sym, ap, ◌∙◌, subst, append_assoc}
use Rattle.dim_base.specs.Files.{Named}
use Rattle.dim_inquiry.specs.declared.stop.Refusal.{Refusal}
use Rattle.dim_inquiry.specs.declared.stop.Stop.{Stop}
use Rattle.dim_inquiry.specs.declared.stop.Stop.TheVariants as stops
use Rattle.dim_inquiry.specs.Course.{Call, Course, Stops, Runs, FailedCall, after_calls, after_call, go_on, then_calls, ◌>>=◌, StopCause, IsFaultless}

after_calls-append : (xs ys : List Call) (files : Named) → after_calls (xs ++ ys) files ≡ after_calls ys (after_calls xs files)
after_calls-append [] ys files = refl
after_calls-append (x ∷ xs) ys files = after_calls-append xs ys (after_call x.stored x.name files)

stops-first : {A B : Type 0} (calls : List Call) (ending : Result A Refusal) (f : A → Course B) (before : Named) (stop : Stop) (after : Option Named)
    → Stops (record { calls = calls; ending = ending }) before stop after → Stops (go_on calls ending f) before stop after
stops-first calls (Ok x) f before (stops.Refused r) after h = cc
stops-first calls (Ok x) f before (stops.Fault place) after h =
    record {
      made = h.made;
      failed = h.failed;
      left = h.left ++ (f x).calls;
      order = ap (λ cs. cs ++ (f x).calls) h.order ∙ append_assoc h.made (h.failed ∷ h.left) (f x).calls;
      here = h.here;
      files = h.files;
    }
stops-first calls (Ok x) f before stops.OutOfMemory after h =
    record {
      made = h.made;
      left = h.left ++ (f x).calls;
      order = ap (λ cs. cs ++ (f x).calls) h.order ∙ append_assoc h.made h.left (f x).calls;
      files = h.files;
    }
stops-first calls (Err e) f before (stops.Refused r) after h = (cc, h.1)
stops-first calls (Err e) f before (stops.Fault place) after h = record { made = h.made; failed = h.failed; left = h.left; order = h.order; here = h.here; files = h.files }
stops-first calls (Err e) f before stops.OutOfMemory after h = record { made = h.made; left = h.left; order = h.order; files = h.files }

-- the part behind one that gave a value
stops-behind : {B : Type 0} (calls : List Call) (c : Course B) (before : Named) (stop : Stop) (after : Option Named)
    → Stops c (after_calls calls before) stop after → Stops (then_calls calls c) before stop after
stops-behind calls c before (stops.Refused r) after h = (h.0, h.1 ∙ ap Some (sym (after_calls-append calls c.calls before)))
stops-behind calls c before (stops.Fault place) after h =
    record {
      made = calls ++ h.made;
      failed = h.failed;
      left = h.left;
      order = ap (λ cs. calls ++ cs) h.order ∙ sym (append_assoc calls h.made (h.failed ∷ h.left));
      here = h.here;
      files = subst (λ m. FailedCall h.failed.stored h.failed.name m after) (sym (after_calls-append calls h.made before)) h.files;
    }
stops-behind calls c before stops.OutOfMemory after h =
    record {
      made = calls ++ h.made;
      left = h.left;
      order = ap (λ cs. calls ++ cs) h.order ∙ sym (append_assoc calls h.made h.left);
      files = h.files ∙ ap Some (sym (after_calls-append calls h.made before));
    }

runs-behind : {B Y : Type 0} (calls : List Call) (c : Course B) (view : Y → B) (before : Named) (r : Result Y Stop) (after : Option Named)
    → Runs view c (after_calls calls before) r after → Runs view (then_calls calls c) before r after
runs-behind calls c view before (Ok y) after h = (h.0, h.1 ∙ ap Some (sym (after_calls-append calls c.calls before)))
runs-behind calls c view before (Err stop) after h = stops-behind calls c before stop after h

runs-at : {A B Y : Type 0} (calls : List Call) (ending : Result A Refusal) (f : A → Course B) (view : Y → B) (before : Named) (x : A) (r : Result Y Stop) (after : Option Named)
    → ending ≡ Ok x → Runs view (f x) (after_calls calls before) r after → Runs view (go_on calls ending f) before r after
runs-at calls ending f view before x r after is h =
    subst (λ e. Runs view (go_on calls e f) before r after) (sym is) (runs-behind calls (f x) view before r after h)

-- a part that stops the command
pub Stops-first : {A B : Type 0} (c : Course A) (f : A → Course B) (before : Named) (stop : Stop) (after : Option Named)
    → Stops c before stop after → Stops (c >>= f) before stop after
Stops-first c f before stop after h = stops-first c.calls c.ending f before stop after h

-- a part that gave a value, and what is behind it
pub Runs-behind : {A B Y : Type 0} (c : Course A) (f : A → Course B) (view : Y → B) (before : Named) (x : A) (r : Result Y Stop) (after : Option Named)
    → c.ending ≡ Ok x → Runs view (f x) (after_calls c.calls before) r after → Runs view (c >>= f) before r after
Runs-behind c f view before x r after is h = runs-at c.calls c.ending f view before x r after is h

-- what kept the files as they were, however many calls it made
pub unchanged : (files after : Named) (told : Option Named) → told ≡ Some files → told ≡ Some after → after ≡ files
unchanged files after told was is = cc

-- a fault is told of a part that makes no call by none, and of one behind others as by itself
pub calm : {X : Type 0} (before now : ℕ) (r : Result X Stop) → IsFaultless r → before ≤ now → StopCause before now r
calm before now (Ok x) f le = le
calm before now (Err (stops.Refused r)) f le = le
calm before now (Err (stops.Fault place)) f le = absurd f
calm before now (Err stops.OutOfMemory) f le = le

pub later : {X : Type 0} (before middle now : ℕ) (r : Result X Stop) → before ≤ middle → StopCause middle now r → StopCause before now r
later before middle now (Ok x) le h = omega (arith, le, h)
later before middle now (Err (stops.Refused r)) le h = omega (arith, le, h)
later before middle now (Err (stops.Fault place)) le h = omega (arith, le, h)
later before middle now (Err stops.OutOfMemory) le h = omega (arith, le, h)
