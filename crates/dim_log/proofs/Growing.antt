-- What tables say of a number stays as they grow.
use Rattle.std.proofs.Common.{◌≡◌, ◌≤◌, ◌<◌, ℕ, true, List, [], ◌∷◌, length, map, refl, ap, ap₂, ◌∙◌, arith}
use Rattle.std.specs.Prelude.{All, get_or}
use Rattle.std.specs.List.{AllByRecursion, list_any}
use Rattle.std.specs.Str.{bytes_eq}
use Rattle.std.proofs.lemmas.List.{get_or_append_left, length-append}
use Rattle.std.proofs.lemmas.List.Elements.{recursion_from_All}
use Rattle.std.proofs.lemmas.List.Folds.{list_any_at}
use Rattle.std.proofs.lemmas.Slice.Eq.{bytes_eq-Decides}
use Rattle.dim_log.specs.declared.log.Spot.{Spot}
use Rattle.dim_log.specs.declared.log.Event.{Event}
use Rattle.dim_log.specs.declared.log.Event.TheVariants as event
use Rattle.dim_log.specs.Value.{SaidLock, SaidTry, SaidUnlock, SaidStart, SaidJoin}
use Rattle.dim_log.specs.Tables.{with_all, functions_of}
use Rattle.dim_log.specs.Seen.{Tables, word_at, said_frame, said_stack, said_event, IsWithin, AreSpotsWithin}
use Rattle.dim_log.proofs.Once.{Extends, with_known}

pub at_grown : {X : Type 0} (old new : List X) (d : X) (n : ℕ) → Extends old new → n < length old → get_or new n d ≡ get_or old n d
at_grown old new d n h low = ap (λ xs. get_or xs n d) h.1 ∙ get_or_append_left old h.0 d n low

pub longer : {X : Type 0} (old new : List X) → Extends old new → length old ≤ length new
longer old new h = omega (arith, ap length h.1, length-append old h.0)

-- equal on each, so equal
pub mapped : {X Y : Type 0} (P : X → Type 0) (f g : X → Y) → ((x : X) → P x → f x ≡ g x) → (xs : List X) → AllByRecursion P xs → map f xs ≡ map g xs
mapped P f g h [] all = refl
mapped P f g h (x ∷ xs) all = ap₂ (λ y ys. y ∷ ys) (h x all.0) (mapped P f g h xs all.1)

pub weaker : {X : Type 0} (P Q : X → Type 0) → ((x : X) → P x → Q x) → (xs : List X) → All P xs → All Q xs
weaker P Q h xs all k d low = h (get_or xs k d) (all k d low)

pub stack_grown : (old new : List (List ℕ)) (stack : List Spot) → Extends old new → AreSpotsWithin old stack → said_stack new stack ≡ said_stack old stack
stack_grown old new stack h within =
    mapped (λ (s : Spot). s.function < length old) (said_frame new) (said_frame old) (λ s low. ap (λ f. record { function = f; line = s.line }) (at_grown old new [] s.function h low)) stack
    (recursion_from_All (λ (s : Spot). s.function < length old) stack within)

pub spots_grown : (old new : List (List ℕ)) (stack : List Spot) → Extends old new → AreSpotsWithin old stack → AreSpotsWithin new stack
spots_grown old new stack h within = weaker (λ (s : Spot). s.function < length old) (λ (s : Spot). s.function < length new) (λ s low. omega (arith, low, longer old new h)) stack within

-- tables grow
pub record Grows (old new : Tables) : Type 0 where
  pub threads : Extends old.threads new.threads
  pub locks : Extends old.locks new.locks
  pub stacks : Extends old.stacks new.stacks

pub event_grown : (old new : Tables) (e : Event) → Grows old new → IsWithin old e → said_event new e ≡ said_event old e
event_grown old new (event.Lock thread lock stack) h w = λ i. SaidLock (at_grown old.threads new.threads [] thread h.threads w.0 i) (at_grown old.locks new.locks [] lock h.locks w.1 i) (at_grown old.stacks new.stacks [] stack h.stacks w.2 i)
event_grown old new (event.Try thread lock stack took) h w = λ i. SaidTry (at_grown old.threads new.threads [] thread h.threads w.0 i) (at_grown old.locks new.locks [] lock h.locks w.1 i) took (at_grown old.stacks new.stacks [] stack h.stacks w.2 i)
event_grown old new (event.Unlock thread lock stack) h w = λ i. SaidUnlock (at_grown old.threads new.threads [] thread h.threads w.0 i) (at_grown old.locks new.locks [] lock h.locks w.1 i) (at_grown old.stacks new.stacks [] stack h.stacks w.2 i)
event_grown old new (event.Start thread other) h w = ap₂ SaidStart (at_grown old.threads new.threads [] thread h.threads w.0) (at_grown old.threads new.threads [] other h.threads w.1)
event_grown old new (event.Join thread other) h w = ap₂ SaidJoin (at_grown old.threads new.threads [] thread h.threads w.0) (at_grown old.threads new.threads [] other h.threads w.1)

pub within_grown : (old new : Tables) (e : Event) → Grows old new → IsWithin old e → IsWithin new e
within_grown old new (event.Lock thread lock stack) h w = (omega (arith, w.0, longer old.threads new.threads h.threads), omega (arith, w.1, longer old.locks new.locks h.locks), omega (arith, w.2, longer old.stacks new.stacks h.stacks))
within_grown old new (event.Try thread lock stack took) h w = (omega (arith, w.0, longer old.threads new.threads h.threads), omega (arith, w.1, longer old.locks new.locks h.locks), omega (arith, w.2, longer old.stacks new.stacks h.stacks))
within_grown old new (event.Unlock thread lock stack) h w = (omega (arith, w.0, longer old.threads new.threads h.threads), omega (arith, w.1, longer old.locks new.locks h.locks), omega (arith, w.2, longer old.stacks new.stacks h.stacks))
within_grown old new (event.Start thread other) h w = (omega (arith, w.0, longer old.threads new.threads h.threads), omega (arith, w.1, longer old.threads new.threads h.threads))
within_grown old new (event.Join thread other) h w = (omega (arith, w.0, longer old.threads new.threads h.threads), omega (arith, w.1, longer old.threads new.threads h.threads))

pub events_grown : (old new : Tables) (es : List Event) → Grows old new → All (IsWithin old) es → map (said_event new) es ≡ map (said_event old) es
events_grown old new es h within = mapped (IsWithin old) (said_event new) (said_event old) (λ e w. event_grown old new e h w) es (recursion_from_All (IsWithin old) es within)

-- the functions of a stack of known ones are known
known_one : (functions : List (List ℕ)) (n : ℕ) → n < length functions → list_any (bytes_eq (word_at functions n)) functions ≡ true
known_one functions n low = list_any_at (bytes_eq (word_at functions n)) functions n [] low ((bytes_eq-Decides (word_at functions n) (word_at functions n)).1 refl)

known_each : (functions : List (List ℕ)) (stack : List Spot) → AllByRecursion (λ (s : Spot). s.function < length functions) stack → with_all bytes_eq functions (functions_of (said_stack functions stack)) ≡ functions
known_each functions [] all = refl
known_each functions (s ∷ stack) all =
    ap (λ fs. with_all bytes_eq fs (functions_of (said_stack functions stack))) (with_known bytes_eq functions (word_at functions s.function) (known_one functions s.function all.0))
    ∙ known_each functions stack all.1

pub all_known : (functions : List (List ℕ)) (stack : List Spot) → AreSpotsWithin functions stack → with_all bytes_eq functions (functions_of (said_stack functions stack)) ≡ functions
all_known functions stack within = known_each functions stack (recursion_from_All (λ (s : Spot). s.function < length functions) stack within)
