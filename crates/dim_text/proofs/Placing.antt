-- The first fault of a text, by its place.
use Rattle.std.proofs.Common.{◌≡◌, ◌≢◌, ◌<◌, ◌+◌, ℕ, zero, suc, List, [], ◌∷◌, length, Result, Ok, Err, arith, refl, sym, ap, ◌∙◌, subst}
use Rattle.std.specs.Prelude.{◌==◌}
use Rattle.dim_text.specs.Cuts.{lines_of}
use Rattle.dim_text.specs.Places.{Reading, FailsAt, IsFirstFault, state_at, part_at}
use Rattle.dim_text.specs.Reading.{◌>>=◌, in_line, read_from}
use Rattle.dim_text.proofs.Splitting.{some_part}

module _ {S A K F : Type 0} (fault : ℕ → K → F) (r : Reading S A K)
  where
    abbrev Reads : S → ℕ → List (List ℕ) → Result A F
    Reads s n parts = read_from fault r.step r.at_end s n parts

    abbrev StepsBy : List S → List (List ℕ) → Type 0
    StepsBy states parts = (i : ℕ) → i + 1 < length states → r.step (state_at r states i) (part_at parts i) ≡ Ok (state_at r states (i + 1))

    one_more : (s : S) (states : List S) (line : List ℕ) (parts : List (List ℕ)) → r.step s line ≡ Ok (state_at r states 0) → StepsBy states parts → StepsBy (s ∷ states) (line ∷ parts)
    one_more s states line parts e h zero low = e
    one_more s states line parts e h (suc i) low =
        let same : suc (i + 1) ≡ suc i + 1 = omega arith in
        subst (λ n. r.step (state_at r states i) (part_at parts i) ≡ Ok (state_at r (s ∷ states) n)) same (h i (omega (arith, low)))

    one_less : (s : S) (states : List S) (line : List ℕ) (parts : List (List ℕ)) → StepsBy (s ∷ states) (line ∷ parts) → StepsBy states parts
    one_less s states line parts h i low =
        let same : suc i + 1 ≡ suc (i + 1) = omega arith in
        subst (λ n. r.step (state_at r states i) (part_at parts i) ≡ Ok (state_at r (s ∷ states) n)) same (h (suc i) (omega (arith, low)))

    -- what was found: a place, the states before it, and the kind of the fault there
    pub record Found (s : S) (n : ℕ) (parts : List (List ℕ)) (f : F) : Type 0 where
      pub i : ℕ
      pub kind : K
      pub states : List S
      pub is : f ≡ fault (n + i) kind
      pub fails : FailsAt r s states parts i kind

    found_here : (s : S) (n : ℕ) (part : List ℕ) (rest : List (List ℕ)) (kind : K) (f : F) → fault n kind ≡ f
        → (1 < length (part ∷ rest) → r.step s part ≡ Err kind) → (1 ≡ length (part ∷ rest) → r.at_end s part ≡ Err kind) → Found s n (part ∷ rest) f
    found_here s n part rest kind f e line last =
        let here : n ≡ n + 0 = omega arith in
        record {
          i = 0;
          kind = kind;
          states = s ∷ [];
          is = sym e ∙ ap (λ m. fault m kind) here;
          fails = record {
            within = omega arith;
            size = refl;
            leads = record { begins = refl; steps = λ i low. absurd (omega (arith, low)) };
            line = line;
            last = last;
          };
        }

    found_behind : (s t : S) (n : ℕ) (line : List ℕ) (parts : List (List ℕ)) (f : F) → r.step s line ≡ Ok t → Found t (n + 1) parts f → Found s n (line ∷ parts) f
    found_behind s t n line parts f e h =
        let further : n + 1 + h.i ≡ n + suc h.i = omega arith in
        record {
          i = suc h.i;
          kind = h.kind;
          states = s ∷ h.states;
          is = h.is ∙ ap (λ m. fault m h.kind) further;
          fails = record {
            within = omega (arith, h.fails.within);
            size = omega (arith, h.fails.size);
            leads = record {
              begins = refl;
              steps = one_more s h.states line parts (e ∙ ap Ok (sym h.fails.leads.begins)) h.fails.leads.steps;
            };
            line = λ low. h.fails.line (omega (arith, low));
            last = λ low. h.fails.last (omega (arith, low));
          };
        }

    pub found : (parts : List (List ℕ)) (s : S) (n : ℕ) (f : F) → parts ≢ [] → Reads s n parts ≡ Err f → Found s n parts f
    unfolding read_from
    found [] s n f some e = absurd (some refl)
    found (last ∷ []) s n f some e = go (r.at_end s last) refl e
      where
        go : (x : Result A K) → r.at_end s last ≡ x → in_line fault n x ≡ Err f → Found s n (last ∷ []) f
        go (Ok a) is h = cc (h)
        go (Err kind) is h = let same : fault n kind ≡ f = cc (h) in found_here s n last [] kind f same (λ low. absurd (omega (arith, low))) (λ _. is)
    found (line ∷ next ∷ parts) s n f some e = go (r.step s line) refl e (λ t h. found (next ∷ parts) t (n + 1) f (λ x. cc (x)) h)
      where
        go : (x : Result S K) → r.step s line ≡ x → (in_line fault n x >>= λ t. Reads t (n + 1) (next ∷ parts)) ≡ Err f → ((t : S) → Reads t (n + 1) (next ∷ parts) ≡ Err f → Found t (n + 1) (next ∷ parts) f) → Found s n (line ∷ next ∷ parts) f
        go (Ok t) is h rest = found_behind s t n line (next ∷ parts) f is (rest t h)
        go (Err kind) is h rest = let same : fault n kind ≡ f = cc (h) in found_here s n line (next ∷ parts) kind f same (λ _. is) (λ low. absurd (omega (arith, low)))

    pub failed : (parts : List (List ℕ)) (states : List S) (s : S) (n i : ℕ) (kind : K) → FailsAt r s states parts i kind → Reads s n parts ≡ Err (fault (n + i) kind)
    unfolding read_from
    failed [] states s n i kind h = absurd (omega (arith, h.within))
    failed (part ∷ parts) [] s n i kind h = absurd (omega (arith, h.size))
    failed (last ∷ []) (x ∷ states) s n (suc i) kind h = absurd (omega (arith, h.within))
    failed (last ∷ []) (x ∷ states) s n zero kind h =
        let here : n ≡ n + 0 = omega arith in
        let ends : r.at_end s last ≡ Err kind = subst (λ t. r.at_end t last ≡ Err kind) h.leads.begins (h.last refl) in
        ap (in_line fault n) ends ∙ ap (λ m. Err (fault m kind)) here
    failed (line ∷ next ∷ parts) (x ∷ states) s n zero kind h =
        let here : n ≡ n + 0 = omega arith in
        let bad : r.step s line ≡ Err kind = subst (λ t. r.step t line ≡ Err kind) h.leads.begins (h.line (omega arith)) in
        ap (λ x. in_line fault n x >>= λ t. Reads t (n + 1) (next ∷ parts)) bad ∙ ap (λ m. Err (fault m kind)) here
    failed (line ∷ next ∷ parts) (x ∷ states) s n (suc i) kind h =
        let t = state_at r states 0 in
        let further : n + 1 + i ≡ n + suc i = omega arith in
        let good : r.step s line ≡ Ok t = subst (λ u. r.step u line ≡ Ok t) h.leads.begins (h.leads.steps 0 (omega (arith, h.size))) in
        let rest : FailsAt r t states (next ∷ parts) i kind = record {
          within = omega (arith, h.within);
          size = omega (arith, h.size);
          leads = record { begins = refl; steps = one_less x states line (next ∷ parts) h.leads.steps };
          line = λ low. h.line (omega (arith, low));
          last = λ low. h.last (omega (arith, low));
        } in
        ap (λ x. in_line fault n x >>= λ u. Reads u (n + 1) (next ∷ parts)) good
        ∙ failed (next ∷ parts) states t (n + 1) i kind rest
        ∙ ap (λ m. Err (fault m kind)) further

    -- the fault that is read from the first line on is the text's first
    pub first_fault : (bytes : List ℕ) (f : F) (line : F → ℕ) (kind : F → K) → ((n : ℕ) (k : K) → line (fault n k) ≡ n) → ((n : ℕ) (k : K) → kind (fault n k) ≡ k)
        → Reads r.start 1 (lines_of bytes) ≡ Err f → IsFirstFault r bytes (line f) (kind f)
    first_fault bytes f line kind of_line of_kind e =
        let h = found (lines_of bytes) r.start 1 f (some_part (λ b. b == 10) bytes) e in
        let at : line f ≡ h.i + 1 = ap line h.is ∙ of_line (1 + h.i) h.kind ∙ omega arith in
        let same : kind f ≡ h.kind = ap kind h.is ∙ of_kind (1 + h.i) h.kind in
        record { i = h.i; states = h.states; line_is = at; fails = subst (λ k. FailsAt r r.start h.states (lines_of bytes) h.i k) (sym same) h.fails }

    -- and the first fault of a text is read
    pub first_is_read : (bytes : List ℕ) (n : ℕ) (kind : K) → IsFirstFault r bytes n kind → Reads r.start 1 (lines_of bytes) ≡ Err (fault n kind)
    first_is_read bytes n kind h =
        let line : 1 + h.i ≡ n = omega (arith, h.line_is) in
        failed (lines_of bytes) h.states r.start 1 h.i kind h.fails ∙ ap (λ m. Err (fault m kind)) line
