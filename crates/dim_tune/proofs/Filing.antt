-- Signatures that are filed by the innermost frames of their stacks, and are raised by them.
use Rattle.std.proofs.Common.{◌≡◌, ℕ, ◌+◌, ◌<◌, ◌⊎◌, true, cond, refl, ap, sym, ◌∙◌, subst, inl, inr, arith, List, [], ◌∷◌, ◌++◌, length, take, get_or}
use Rattle.std.specs.Prelude.{Option, Some, None, Vec, slice_get, Bool, false, ◌&&◌}
use Rattle.std.specs.Bool.{Decides}
use Rattle.std.specs.Option.{unwrap_or}
use Rattle.std.specs.BTreeMap.{get}
use Rattle.std.specs.Ordering.{is_eq, ordering_then}
use Rattle.std.specs.declared.cmp.Ordering.{Ordering}
use Rattle.std.specs.declared.cmp.Ordering.TheVariants.{Less, Equal, Greater}
use Rattle.std.specs.declared.alloc.Global.{Global}
use Rattle.std.proofs.lemmas.Bool.{cases_Bool, cases_lt, cond-true, cond-false}
use Rattle.std.proofs.lemmas.Bool.Decides.{Decides-at}
use Rattle.std.proofs.lemmas.List.{take_more}
use Rattle.dim_stack.specs.declared.Frame.{Frame}
use Rattle.dim_stack.specs.Order.{frame_cmp, frame_eq, stack_eq-cmp}
use Rattle.dim_stack.proofs.Exports.{Decides-frame}
use Rattle.dim_rag.specs.declared.entry.Edge.{Edge}
use Rattle.dim_rag.specs.declared.entry.Entry.{Entry}
use Rattle.dim_rag.specs.Born.{In}
use Rattle.dim_rag.proofs.Exports.{in_left, in_parts, in_right}
use Rattle.dim_signature.specs.Sig.{Sig}
use Rattle.dim_tune.specs.Innermost.{Files, filed, numbers_or_none, AreFiled, Gains, GainsNumber}
use Rattle.dim_tune.specs.Raised.{IsAside, IsRaised}

-- raised to a depth and from there on to another
pub raised_on : (s : Sig) (i : ℕ) (es : List Edge) (e : Entry) (new : Edge) (d m to : ℕ) → IsRaised s i es e new d m → IsRaised s i es e new m to → IsRaised s i es e new d to
raised_on s i es e new d m to a b = record {
  up = omega (arith, a.up, b.up);
  high = b.high;
  keeps = b.keeps;
  passed = λ k low less. elim (cases_lt k m) [ inl below ↦ a.passed k low below | inr above ↦ b.passed k above less ];
}

first_of : (x : List Frame) → slice_get (take 1 x) 0 ≡ slice_get x 0
first_of [] = refl
first_of (f ∷ x) = refl

begins : (x y : List Frame) (f : Frame) → slice_get y 0 ≡ Some f → take 1 x ≡ take 1 y → slice_get x 0 ≡ Some f
begins x y f q e = sym (first_of x) ∙ ap (λ (z : List Frame). slice_get z 0) e ∙ first_of y ∙ q

-- one that isn't filed by the innermost frame of an edge's stack has no stack that begins with it
pub aside_of : (files : Files) (sigs : List Sig) → AreFiled files sigs → (i : ℕ) (s : Sig) → slice_get sigs i ≡ Some s → (new : Edge) (f : Frame) → slice_get new.stack 0 ≡ Some f → (In i (filed files f) → ⊥) → IsAside s new
aside_of files sigs k i s here new f first none on j x at same = none (k.each i s here on j x f at (begins x new.stack f first same))

-- what is among the first numbers and the next
pub in_next : (numbers : List ℕ) (k j d : ℕ) → k < length numbers → In j (take (k + 1) numbers) → In j (take k numbers) ⊎ (get_or numbers k d ≡ j)
in_next numbers k j d low i = elim (in_parts j (take k numbers) (get_or numbers k d ∷ []) (subst (λ (x : List ℕ). In j x) (take_more numbers k d low) i)) [
  | inl before ↦ inl before
  | inr last ↦ elim last [ inl q ↦ inr q | inr none ↦ absurd none ]
]

-- ---- filing

pub gains_same : (files : Files) (n : ℕ) → Gains files files n
gains_same files n f = record { kept = λ k i. i; only = λ k i. inl i }

pub gains_on : (a b c : Files) (n : ℕ) → Gains a b n → Gains b c n → Gains a c n
gains_on a b c n x y f = record {
  kept = λ k i. (y f).kept k ((x f).kept k i);
  only = λ k i. elim ((y f).only k i) [ inl j ↦ (x f).only k j | inr q ↦ inr q ];
}

pub gains_last : (numbers : List ℕ) (n : ℕ) → In n numbers → GainsNumber numbers numbers n
gains_last numbers n i = record { kept = λ k j. j; only = λ k j. inl j }

pub gains_push : (numbers : List ℕ) (n : ℕ) → GainsNumber numbers (numbers ++ n ∷ []) n
gains_push numbers n = record {
  kept = λ k i. in_left k numbers (n ∷ []) i;
  only = λ k i. elim (in_parts k numbers (n ∷ []) i) [
    | inl j ↦ inl j
    | inr j ↦ elim j [ inl q ↦ inr (sym q) | inr none ↦ absurd none ]
  ];
}

pub in_push : (numbers : List ℕ) (n : ℕ) → In n (numbers ++ n ∷ [])
in_push numbers n = in_right n numbers (n ∷ []) (inl refl)

then_equal : (o : Ordering) → is_eq (ordering_then o Equal) ≡ is_eq o
then_equal Less = refl
then_equal Equal = refl
then_equal Greater = refl

and_true : (b : Bool) → (b && true) ≡ b
and_true true = refl
and_true false = refl

cmp_is : (a b : Frame) → frame_eq a b ≡ is_eq (frame_cmp a b)
cmp_is a b = sym (and_true (frame_eq a b)) ∙ stack_eq-cmp (a ∷ []) (b ∷ []) ∙ then_equal (frame_cmp a b)

cmp_Decides : (a b : Frame) → Decides (is_eq (frame_cmp a b)) (a ≡ b)
cmp_Decides a b = Decides-at (is_eq (frame_cmp a b)) _ (sym (cmp_is a b)) (Decides-frame a b)

-- what a map has, or nothing
pub or_empty : (o : Option (Vec ℕ Global)) (none v : Vec ℕ Global) → none.items ≡ [] → v ≡ unwrap_or o none → v.items ≡ numbers_or_none o
or_empty None none v empty q = ap (λ (x : Vec ℕ Global). x.items) q ∙ empty
or_empty (Some x) none v empty q = ap (λ (y : Vec ℕ Global). y.items) q

-- the numbers by a frame are taken out and put back with one more
module _ (old mid new : Files) (frame : Frame) (v : Vec ℕ Global)
    (taken : (q : Frame) → get frame_cmp mid q ≡ cond (is_eq (frame_cmp frame q)) None (get frame_cmp old q))
    (put : (q : Frame) → get frame_cmp new q ≡ cond (is_eq (frame_cmp frame q)) (Some v) (get frame_cmp mid q)) where
  here : (f : Frame) → is_eq (frame_cmp frame f) ≡ true → filed new f ≡ v.items
  here f t = ap numbers_or_none (put f ∙ cond-true (is_eq (frame_cmp frame f)) (Some v) (get frame_cmp mid f) t)

  pub filed_own : filed new frame ≡ v.items
  filed_own = here frame ((cmp_Decides frame frame).1 refl)

  pub filed_gains : (n : ℕ) → GainsNumber (filed old frame) v.items n → Gains old new n
  filed_gains n gain f = elim (cases_Bool (is_eq (frame_cmp frame f))) [
    | inl t ↦
        subst (λ (x : List ℕ). GainsNumber (filed old f) x n) (sym (here f t))
        (subst (λ (g : Frame). GainsNumber (filed old g) v.items n) ((cmp_Decides frame f).0 t) gain)
    | inr t ↦
        let same : filed new f ≡ filed old f =
        ap numbers_or_none (put f ∙ cond-false (is_eq (frame_cmp frame f)) (Some v) (get frame_cmp mid f) t ∙ taken f ∙ cond-false (is_eq (frame_cmp frame f)) None (get frame_cmp old f) t) in
        subst (λ (x : List ℕ). GainsNumber (filed old f) x n) (sym same) (gains_same old n f)
  ]
