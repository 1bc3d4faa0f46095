-- The callers below the newest, after a write and after a pop.
use Rattle.std.proofs.Common.{◌≡◌, ℕ, ◌-◌, ◌<◌, ◌≤◌, List, [], ◌∷◌, length, take, set, get_or, reverse, ap, sym, subst, ◌∙◌, arith}
use Rattle.std.proofs.lemmas.List.{length-set}
use Rattle.std.specs.List.{AllByRecursion}
use Rattle.dim_vm.specs.declared.frames.CallFrame.{CallFrame}
use Rattle.dim_vm.specs.Frames.{AreFrames, AreCallers, top_frame, entered}
use Rattle.dim_vm.specs.Tops.{rest}
use Rattle.dim_vm.proofs.Tops.{top_is, top_set, length_seen}

abbrev IsShort : CallFrame → Type 0
IsShort f = f.at < 65536

-- the calls below the newest of the first n are short
below_short : (n : ℕ) (frames : List CallFrame) → AreFrames n frames → AllByRecursion IsShort (reverse (take (n - 1) frames))
below_short n frames h = subst AreCallers (top_is frames n h.some (omega (arith, h.few, h.size)) (entered 0)) h.callers

pub frames_set : (n : ℕ) (frames : List CallFrame) (x : CallFrame) → AreFrames n frames → AreFrames n (set frames (n - 1) x)
frames_set n frames x h = record {
  some = h.some;
  few = h.few;
  size = length-set frames (n - 1) x ∙ h.size;
  callers = subst AreCallers (sym (top_set frames n h.some (omega (arith, h.few, h.size)) x)) (below_short n frames h);
}

split : (fs : List CallFrame) → 1 ≤ length fs → AllByRecursion IsShort fs → ((top_frame fs).at < 65536) × AreCallers fs
split [] few h = absurd (omega arith)
split (f ∷ fs) few h = h

pub frames_pop : (n : ℕ) (frames : List CallFrame) → 1 < n → AreFrames n frames → ((top_frame (reverse (take (n - 1) frames))).at < 65536) × AreFrames (n - 1) frames
frames_pop n frames some h =
    let e = top_is frames (n - 1) (omega arith) (omega (arith, h.few, h.size)) (entered 0) in
    let s : ((top_frame (reverse (take (n - 1) frames))).at < 65536) × AreCallers (reverse (take (n - 1) frames)) = split _ (rw e (omega arith)) (below_short n frames h) in
    (s.0, record { some = omega arith; few = omega (arith, h.few); size = h.size; callers = s.1 })

-- there is more than one
pub long : {n : ℕ} {frames : List CallFrame} {fs : List CallFrame} → AreFrames n frames → reverse (take n frames) ≡ fs → 1 < length fs → 1 < n
long {n} {frames} h e some = omega (arith, h.few, h.size, sym (ap length e) ∙ length_seen frames n (omega (arith, h.few, h.size)))

-- the newest changed in its place
pub set_newest : (frames : List CallFrame) (n : ℕ) (fs : List CallFrame) (f : CallFrame → CallFrame) (d : CallFrame) → 1 ≤ n → n ≤ length frames → reverse (take n frames) ≡ fs
    → reverse (take n (set frames (n - 1) (f (get_or frames (n - 1) d)))) ≡ f (top_frame fs) ∷ rest fs
set_newest frames n fs f d some few view =
    top_set frames n some few (f (get_or frames (n - 1) d))
    ∙ ap (λ r. f (top_frame r) ∷ rest r) (sym (top_is frames n some few d) ∙ view)
