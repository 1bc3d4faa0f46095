-- A pass over the entries, one by one.
use Rattle.std.proofs.Common.{◌≡◌, ℕ, ◌+◌, ◌-◌, ◌≤◌, refl, ap, sym, ◌∙◌, subst, arith, List, [], ◌∷◌, ◌++◌, length, take}
use Rattle.std.specs.Prelude.{Some, slice_get, max}
use Rattle.std.proofs.lemmas.List.{take_more, take_all}
use Rattle.std.proofs.lemmas.Option.{slice_get_within, get_or_from_slice_get}
use Rattle.dim_rag.specs.declared.entry.Entry.{Entry}
use Rattle.dim_rag.specs.Fits.{FitsAfter, IsInRange}
use Rattle.dim_rag.specs.History.{past}
use Rattle.dim_rag.specs.Tables.{Replay}
use Rattle.dim_rag.proofs.Exports.{past_more}
use Rattle.dim_picture.specs.declared.mark.Mark.{Mark}
use Rattle.dim_picture.specs.Marks.{mark_of, marks}
use Rattle.dim_picture.specs.Told.{AreTold, IsTold}

-- the entries before a place are the graph's, there is room for the others, and what they are has
-- been noted
pub record IsSoFar (n m : ℕ) (entries : List Entry) (place : ℕ) (g : Replay) (ms : List Mark) : Type 0 where
  pub threads : g.threads ≡ n
  pub locks : g.locks ≡ m
  pub entries_are : g.entries ≡ take place entries
  pub room : length entries ≤ g.spare + place
  pub marks_are : ms ≡ marks (past g.entries)

-- before the first entry
pub begins : (n m k : ℕ) (entries : List Entry) (empty g : Replay) (ms : List Mark)
    → empty ≡ record { threads = n; locks = m; entries = []; spare = 0 } → g ≡ record empty { spare = max empty.spare k } → k ≡ length entries → ms ≡ []
    → IsSoFar n m entries 0 g ms
begins n m k entries empty g ms new reserved count none =
    let made : g ≡ record { threads = n; locks = m; entries = []; spare = max 0 k } = reserved ∙ ap (λ (x : Replay). record x { spare = max x.spare k }) new in
    subst (λ (x : Replay). IsSoFar n m entries 0 x ms) (sym made) record {
      threads = refl;
      locks = refl;
      entries_are = refl;
      room = omega (arith, count);
      marks_are = none;
    }

module _ (n m : ℕ) (entries : List Entry) (told : AreTold n m entries) (place : ℕ) (g : Replay) (ms : List Mark) (k : IsSoFar n m entries place g ms) where
  module _ (e : Entry) (here : slice_get entries place ≡ Some e) where
    now : IsTold n m (past g.entries) e
    now = subst (λ (h : List Entry). IsTold n m h e) (sym (ap past k.entries_are)) (told place e here)

    pub may_fit : FitsAfter (past g.entries) e
    may_fit = now.fits

    pub may_range : IsInRange g.threads g.locks e
    may_range = subst (λ t. IsInRange t g.locks e) (sym k.threads) (subst (λ l. IsInRange n l e) (sym k.locks) now.in_range)

    pub has_room : 1 ≤ g.spare
    has_room = omega (arith, k.room, slice_get_within entries place e here)

    -- one entry more
    pub goes_on : (g' : Replay) (ms' : List Mark) → g' ≡ record g { entries = g.entries ++ e ∷ []; spare = g.spare - 1 } → ms' ≡ ms ++ mark_of (past g.entries) e ∷ []
        → IsSoFar n m entries (place + 1) g' ms'
    goes_on g' ms' same of_marks =
        let longer : past (g.entries ++ e ∷ []) ≡ e ∷ past g.entries = past_more g.entries e in
        subst (λ (x : Replay). IsSoFar n m entries (place + 1) x ms') (sym same) record {
          threads = k.threads;
          locks = k.locks;
          entries_are =
              ap (λ (x : List Entry). x ++ e ∷ []) k.entries_are
              ∙ sym (take_more entries place e (slice_get_within entries place e here) ∙ ap (λ (x : Entry). take place entries ++ x ∷ []) (get_or_from_slice_get entries place e e here));
          room = omega (arith, k.room, slice_get_within entries place e here);
          marks_are = of_marks ∙ ap (λ xs. xs ++ mark_of (past g.entries) e ∷ []) k.marks_are ∙ ap marks (sym longer);
        }

  module _ (over : length entries ≤ place) where
    pub whole : past g.entries ≡ past entries
    whole = ap past (k.entries_are ∙ take_all place entries over)

    pub all_marks : ms ≡ marks (past entries)
    all_marks = k.marks_are ∙ ap marks whole
