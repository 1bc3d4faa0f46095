-- What is kept, put together.
use Rattle.std.proofs.Common.{◌≡◌, ℕ, zero, suc, true, List, [], ◌∷◌, map, get_or, refl, sym, ap, subst, ◌∙◌}
use Rattle.std.specs.Prelude.{Vec}
use Rattle.std.specs.declared.alloc.Global.{Global}
use Rattle.std.specs.List.{All, AllByRecursion, filter}
use Rattle.std.proofs.lemmas.List.Elements.{recursion_from_All}
use Rattle.dim_log.specs.declared.log.Event.{Event}
use Rattle.dim_orders.specs.declared.kept.Operation.{Operation}
use Rattle.dim_orders.specs.Own.{own, row}
use Rattle.dim_orders.specs.Nestings.{are_down}
use Rattle.dim_orders.specs.Sections.{sections}
use Rattle.dim_orders.specs.Crossing.{kept_from}
use Rattle.dim_orders.specs.Lines.{AreOnce, IsLine}
use Rattle.dim_orders.specs.Kept.{AreKept, Line, has_any, kept_of, line_by}

map_at : {X Y : Type 0} (g : List X → List Y) → g [] ≡ [] → (vs : List (Vec X Global)) (t : ℕ) → get_or (map (λ v. g v.items) vs) t [] ≡ g (row vs t)
map_at g e [] t = sym e
map_at g e (v ∷ vs) zero = refl
map_at g e (v ∷ vs) (suc t) = map_at g e vs t

kept_row : (parts : List ℕ) (events : List Event) (threads kept : List (Vec Operation Global)) → ((t : ℕ) → row threads t ≡ own t events) → map (λ v. v.items) kept ≡ map (λ v. kept_from parts [] (sections v.items)) threads → (t : ℕ) → row kept t ≡ kept_of parts events t
kept_row parts events threads kept owns e t =
    ap (λ (l : List (List Operation)). get_or l t []) e
    ∙ map_at (λ (os : List Operation). kept_from parts [] (sections os)) refl threads t
    ∙ ap (λ (os : List Operation). kept_from parts [] (sections os)) (owns t)

down_row : (parts : List ℕ) (threads : List (Vec Operation Global)) → AllByRecursion (λ v. are_down parts v.items ≡ true) threads → (t : ℕ) → are_down parts (row threads t) ≡ true
down_row parts [] each t = refl
down_row parts (v ∷ vs) each zero = each.0
down_row parts (v ∷ vs) each (suc t) = down_row parts vs each.1 t

lines_are : (kept : ℕ → List Operation) (lines : List (Vec ℕ Global)) → map (λ v. line_by kept v.items) lines ≡ map (line_by kept) (map (λ v. v.items) lines)
lines_are kept [] = refl
lines_are kept (v ∷ vs) = ap (λ (ls : List Line). line_by kept v.items ∷ ls) (lines_are kept vs)

pub assembled : (events : List Event) (threads kept : List (Vec Operation Global)) (parts : List ℕ) (lines : List (Vec ℕ Global)) (chains : List Line)
    → ((t : ℕ) → row threads t ≡ own t events)
    → All (λ v. are_down parts v.items ≡ true) threads
    → AreOnce events (map (λ v. v.items) lines)
    → All (IsLine events) (map (λ v. v.items) lines)
    → map (λ v. v.items) kept ≡ map (λ v. kept_from parts [] (sections v.items)) threads
    → chains ≡ filter has_any (map (λ v. line_by (row kept) v.items) lines)
    → AreKept events chains
assembled events threads kept parts lines chains owns down once joined kept_is chains_are =
    record {
      parts = parts;
      lines = map (λ v. v.items) lines;
      down = λ t. ap (are_down parts) (sym (owns t)) ∙ down_row parts threads (recursion_from_All (λ v. are_down parts v.items ≡ true) threads down) t;
      once = once;
      joined = joined;
      made = chains_are ∙ ap (filter has_any) (lines_are (row kept) lines
          ∙ ap (λ (f : ℕ → List Operation). map (line_by f) (map (λ v. v.items) lines)) (λ j t. kept_row parts events threads kept owns kept_is t j));
    }

-- the same, as the calls read their arguments
pub assembled_read : (events e1 e4 : List Event) (threads t3 t7 kept k9 : List (Vec Operation Global)) (parts p6 : List ℕ) (lines l8 : List (Vec ℕ Global)) (chains : List Line)
    → e1 ≡ events → e4 ≡ events → t3 ≡ threads → t7 ≡ threads → k9 ≡ kept → p6 ≡ parts → l8 ≡ lines
    → ((t : ℕ) → row threads t ≡ own t e1)
    → All (λ v. are_down parts v.items ≡ true) t3
    → AreOnce e4 (map (λ v. v.items) lines)
    → All (IsLine e4) (map (λ v. v.items) lines)
    → map (λ v. v.items) kept ≡ map (λ v. kept_from p6 [] (sections v.items)) t7
    → chains ≡ filter has_any (map (λ v. line_by (row k9) v.items) l8)
    → AreKept events chains
assembled_read events e1 e4 threads t3 t7 kept k9 parts p6 lines l8 chains q1 q4 q3 q7 q9 q6 q8 owns down once joined kept_is chains_are =
    assembled events threads kept parts lines chains
    (λ t. owns t ∙ ap (own t) q1)
    (subst (All (λ v. are_down parts v.items ≡ true)) q3 down)
    (subst (λ (es : List Event). AreOnce es (map (λ v. v.items) lines)) q4 once)
    (subst (λ (es : List Event). All (IsLine es) (map (λ v. v.items) lines)) q4 joined)
    (kept_is ∙ ap (λ (ps : List ℕ). map (λ v. kept_from ps [] (sections v.items)) t7) q6
    ∙ ap (λ (vs : List (Vec Operation Global)). map (λ v. kept_from parts [] (sections v.items)) vs) q7)
    (chains_are ∙ ap (λ (ks : List (Vec Operation Global)). filter has_any (map (λ v. line_by (row ks) v.items) l8)) q9
    ∙ ap (λ (ls : List (Vec ℕ Global)). filter has_any (map (λ v. line_by (row kept) v.items) ls)) q8)
