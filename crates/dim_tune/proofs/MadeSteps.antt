-- Attempts, one more at a time.
use Rattle.std.proofs.Common.{◌≡◌, ℕ, suc, ◌-◌, ◌<◌, ◌≤◌, refl, ap, sym, ◌∙◌, subst, inl, inr, arith, List, [], ◌∷◌, ◌++◌, length}
use Rattle.std.specs.Prelude.{Some, slice_get}
use Rattle.std.proofs.lemmas.Bool.{cases_lt}
use Rattle.std.proofs.lemmas.List.{length_push}
use Rattle.std.proofs.lemmas.Option.{same_Some}
use Rattle.dim_asm.specs.Code.{Code}
use Rattle.dim_signature.specs.Sig.{Sig}
use Rattle.dim_history_file.specs.Grammar.{AreNear}
use Rattle.dim_schedule.specs.declared.settings.Settings.{Settings}
use Rattle.dim_run.specs.Grown.{grown}
use Rattle.dim_run.specs.Run.{played}
use Rattle.dim_tune.specs.declared.attempt.Attempt.{Attempt}
use Rattle.dim_tune.specs.declared.making.Made.{Made}
use Rattle.dim_tune.specs.declared.making.Rest.{Rest}
use Rattle.dim_tune.specs.Attempts.{attempt_after, attempt_of, attempts_of, left_by, sigs_after, AreLoadable, HasLearnt, IsFollowed}
use Rattle.dim_tune.specs.Made.{AreDone, AreFollowed, IsAgain, IsMade, IsRestOf}

module _ (p : Code) (s : Settings) (read : List Sig) where
  pub sigs_first : sigs_after p s read 0 ≡ read
  unfolding sigs_after
  sigs_first = refl

  pub sigs_next : (i : ℕ) → sigs_after p s read (suc i) ≡ left_by p s (sigs_after p s read i)
  unfolding sigs_after
  sigs_next i = refl

  attempts_first : attempts_of p s read 0 ≡ []
  unfolding attempts_of
  attempts_first = refl

  attempts_next : (i : ℕ) → attempts_of p s read (suc i) ≡ attempts_of p s read i ++ attempt_after p s read i ∷ []
  unfolding attempts_of
  attempts_next i = refl

get_next : {X : Type 0} (xs : List X) (x : X) → slice_get (xs ++ x ∷ []) (length xs) ≡ Some x
get_next [] x = refl
get_next (y ∷ xs) x = get_next xs x

module _ (names : List (List ℕ)) (p : Code) (s : Settings) (read : List Sig) where
  -- before the first attempt
  pub made_none : (m : Made) → m.lines.items ≡ [] → m.history.names ≡ names → m.history.catalogue.sigs ≡ read → AreNear m.history.catalogue.sigs → IsMade names p s read m
  made_none m none named sigs near =
      let size : length m.lines.items ≡ 0 = ap (λ (x : List Attempt). length x) none in
      record {
        lines_are = none ∙ sym (attempts_first p s read) ∙ ap (attempts_of p s read) (sym size);
        names_are = named;
        sigs_are = sigs ∙ sym (sigs_first p s read) ∙ ap (sigs_after p s read) (sym size);
        near = near;
      }

  -- after one more
  module _ (m new : Made) (rest : Rest) (k : IsMade names p s read m) (a : IsAgain p s m new rest) where
    pub size_next : suc (length m.lines.items) ≡ length new.lines.items
    size_next = omega (arith, ap (λ (x : List Attempt). length x) a.lines_are, length_push m.lines.items (attempt_of p rest.tables.entries))

    entries : rest.tables.entries ≡ played p (sigs_after p s read (length m.lines.items)) s
    entries = a.rest_is.entries_are ∙ ap (λ (x : List Sig). played p x s) k.sigs_are

    pub made_next : IsMade names p s read new
    made_next = record {
      lines_are =
          a.lines_are
          ∙ ap (λ (x : List Attempt). x ++ attempt_of p rest.tables.entries ∷ []) k.lines_are
          ∙ ap (λ (x : Attempt). attempts_of p s read (length m.lines.items) ++ x ∷ []) (ap (attempt_of p) entries)
          ∙ sym (attempts_next p s read (length m.lines.items))
          ∙ ap (attempts_of p s read) size_next;
      names_are = a.names_are ∙ k.names_are;
      sigs_are =
          a.rest_is.run_is.known_are
          ∙ ap (grown m.history.catalogue.sigs s.depth) entries
          ∙ ap (λ (x : List Sig). grown x s.depth (played p (sigs_after p s read (length m.lines.items)) s)) k.sigs_are
          ∙ sym (sigs_next p s read (length m.lines.items))
          ∙ ap (sigs_after p s read) size_next;
      near = a.near;
    }

    rest_next : (i : ℕ) → suc i ≡ length new.lines.items → IsRestOf p (sigs_after p s read i) s new.history.catalogue.sigs rest
    rest_next i q =
        let same : length m.lines.items ≡ i = omega (arith, q, size_next) in
        subst (λ (x : List Sig). IsRestOf p x s new.history.catalogue.sigs rest) (k.sigs_are ∙ ap (sigs_after p s read) same) a.rest_is

    -- the line of the new attempt
    pub at_last : slice_get new.lines.items (length new.lines.items - 1) ≡ Some (attempt_of p rest.tables.entries)
    at_last =
        let place : length new.lines.items - 1 ≡ length m.lines.items = omega (arith, size_next) in
        ap (slice_get new.lines.items) place ∙ ap (λ (x : List Attempt). slice_get x (length m.lines.items)) a.lines_are ∙ get_next m.lines.items (attempt_of p rest.tables.entries)

    line_next : (line : Attempt) → slice_get new.lines.items (length new.lines.items - 1) ≡ Some line → line ≡ attempt_after p s read (length m.lines.items)
    line_next line at = same_Some line (attempt_of p rest.tables.entries) (sym at ∙ at_last) ∙ ap (attempt_of p) entries

    sigs_here : new.history.catalogue.sigs ≡ sigs_after p s read (suc (length m.lines.items))
    sigs_here = made_next.sigs_are ∙ ap (sigs_after p s read) (sym size_next)

    to_loadable : AreLoadable new.history.names new.history.catalogue.sigs → AreLoadable names (sigs_after p s read (suc (length m.lines.items)))
    to_loadable l = subst (AreLoadable names) sigs_here (subst (λ (x : List (List ℕ)). AreLoadable x new.history.catalogue.sigs) made_next.names_are l)

    from_loadable : AreLoadable names (sigs_after p s read (suc (length m.lines.items))) → AreLoadable new.history.names new.history.catalogue.sigs
    from_loadable l = subst (λ (x : List (List ℕ)). AreLoadable x new.history.catalogue.sigs) (sym made_next.names_are) (subst (AreLoadable names) (sym sigs_here) l)

    module _ (f : AreFollowed names p s read (length m.lines.items)) where
      -- there is reason for one more
      pub followed_next : (line : Attempt) → slice_get new.lines.items (length new.lines.items - 1) ≡ Some line → HasLearnt line → AreLoadable new.history.names new.history.catalogue.sigs → AreFollowed names p s read (length new.lines.items)
      followed_next line at learnt loadable i low = elim (cases_lt i (length m.lines.items)) [
        | inl before ↦ f i before
        | inr last ↦
            let same : length m.lines.items ≡ i = omega (arith, low, last, size_next) in
            subst (λ j. IsFollowed names p s read j) same record { learnt = subst HasLearnt (line_next line at) learnt; loadable = to_loadable loadable }
      ]

      done : (k : ℕ) → length new.lines.items ≤ k → (length new.lines.items < k → IsFollowed names p s read (length m.lines.items) → ⊥) → AreDone names p s read k new rest
      done k few none = record {
        made = made_next;
        attempts = record {
          some = omega (arith, size_next);
          few = few;
          followed = λ i low. f i (omega (arith, low, size_next));
          ends = λ i q low w. none low (let same : i ≡ length m.lines.items = omega (arith, q, size_next) in subst (λ j. IsFollowed names p s read j) same w);
        };
        rest_is = rest_next;
      }

      -- there is none
      pub done_early : (k : ℕ) (line : Attempt) → length new.lines.items ≤ k → slice_get new.lines.items (length new.lines.items - 1) ≡ Some line → ((HasLearnt line × AreLoadable new.history.names new.history.catalogue.sigs) → ⊥) → AreDone names p s read k new rest
      done_early k line few at none = done k few (λ low w. none (subst HasLearnt (sym (line_next line at)) w.learnt, from_loadable w.loadable))

      -- all are made
      pub done_all : (k : ℕ) → length new.lines.items ≡ k → AreDone names p s read k new rest
      done_all k q = done k (omega (arith, q)) (λ low w. omega (arith, low, q))
