-- Line by line, from the first fault on.
use Rattle.std.proofs.Common.{◌≡◌, ◌+◌, ℕ, List, [], ◌∷◌, ◌++◌, length, Option, Result, Ok, Err, refl, sym, ap, ◌∙◌, append_assoc, append-nil}
use Rattle.dim_text.specs.Reading.{◌>>=◌, in_line, Fails, Gives}
use Rattle.dim_text.proofs.Exports.{Fails-bind}
use Rattle.dim_asm.specs.declared.fault.AsmKind.{AsmKind}
use Rattle.dim_asm.specs.declared.fault.AsmFault.{AsmFault}
use Rattle.dim_asm.specs.Faults.{fault}
use Rattle.dim_asm.specs.Code.{Function}
use Rattle.dim_asm.specs.Source.{DraftFunction}
use Rattle.dim_asm.specs.Linking.{Tables, each_line, link_function, link_functions}

-- at the exit of a `?` that hands an error on
pub exits : {X A E F : Type 0} (fault_of : E → Option F) (view : X → A) (r : Result X E) (x e : E) (right : Result A F) → r ≡ Err x → x ≡ e → Fails (fault_of e) right → Gives fault_of view r right
exits fault_of view r x e right is same h = rw (is, same) h

-- what is left, behind what was linked
abbrev pub behind : {B : Type 0} → List B → Result (List B) AsmFault → Result (List B) AsmFault
behind done r = r >>= λ rest. Ok (done ++ rest)

pub behind-nil : {B : Type 0} (r : Result (List B) AsmFault) → behind [] r ≡ r
behind-nil (Ok rest) = refl
behind-nil (Err e) = refl

behind-push : {B : Type 0} (done : List B) (y : B) (r : Result (List B) AsmFault) → behind done (r >>= λ ys. Ok (y ∷ ys)) ≡ behind (done ++ y ∷ []) r
behind-push done y (Ok ys) = ap Ok (sym (append_assoc done (y ∷ []) ys))
behind-push done y (Err e) = refl

pub each_line-step : {A B : Type 0} (f : A → Result B AsmKind) (n : ℕ) (x : A) (xs : List A) (y : B) (done : List B) → in_line fault n (f x) ≡ Ok y
    → behind done (each_line f n (x ∷ xs)) ≡ behind (done ++ y ∷ []) (each_line f (n + 1) xs)
unfolding each_line
each_line-step f n x xs y done e =
    ap (λ r. behind done (r >>= λ z. each_line f (n + 1) xs >>= λ ys. Ok (z ∷ ys))) e ∙ behind-push done y (each_line f (n + 1) xs)

pub each_line-fails : {A B : Type 0} (f : A → Result B AsmKind) (n : ℕ) (x : A) (xs : List A) (done : List B) (o : Option AsmFault) → Fails o (in_line fault n (f x)) → Fails o (behind done (each_line f n (x ∷ xs)))
unfolding each_line
each_line-fails f n x xs done o h = Fails-bind o _ _ (Fails-bind o _ _ h)

pub each_line-none : {A B : Type 0} (f : A → Result B AsmKind) (n : ℕ) (done : List B) → behind done (each_line f n []) ≡ Ok done
unfolding each_line
each_line-none f n done = ap Ok (append-nil done)

pub functions-step : (t : Tables) (n : ℕ) (f : DraftFunction) (fs : List DraftFunction) (g : Function) (done : List Function) → link_function t n f ≡ Ok g
    → behind done (link_functions t n (f ∷ fs)) ≡ behind (done ++ g ∷ []) (link_functions t (n + length f.drafts + 2) fs)
unfolding link_functions
functions-step t n f fs g done e =
    ap (λ r. behind done (r >>= λ z. link_functions t (n + length f.drafts + 2) fs >>= λ ys. Ok (z ∷ ys))) e
    ∙ behind-push done g (link_functions t (n + length f.drafts + 2) fs)

pub functions-fails : (t : Tables) (n : ℕ) (f : DraftFunction) (fs : List DraftFunction) (done : List Function) (o : Option AsmFault) → Fails o (link_function t n f)
    → Fails o (behind done (link_functions t n (f ∷ fs)))
unfolding link_functions
functions-fails t n f fs done o h = Fails-bind o _ _ (Fails-bind o _ _ h)

pub functions-none : (t : Tables) (n : ℕ) (done : List Function) → behind done (link_functions t n []) ≡ Ok done
unfolding link_functions
functions-none t n done = ap Ok (append-nil done)
