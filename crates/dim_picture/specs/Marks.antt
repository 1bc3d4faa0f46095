-- What the entries of a history are in a picture. A history has its newest entry first.
use Rattle.std.specs.Prelude.{ℕ, List, [], ◌∷◌, ◌++◌, length, option_map, unwrap_or, if◌then◌else◌}
use Rattle.dim_base.specs.declared.Tid.{Tid}
use Rattle.dim_base.specs.declared.Lid.{Lid}
use Rattle.dim_rag.specs.declared.entry.Edge.{Edge}
use Rattle.dim_rag.specs.declared.entry.Mode.{Mode}
use Rattle.dim_rag.specs.declared.entry.Mode.TheVariants.{Yielding}
use Rattle.dim_rag.specs.declared.entry.Entry.{Entry}
use Rattle.dim_rag.specs.declared.entry.Entry.TheVariants.{Go, Yield, Got, Free, Took, Miss, End, Break, Learn}
use Rattle.dim_rag.specs.History.{hold, mode, is_inner, is_deeper}
use Rattle.dim_picture.specs.declared.mark.Mark.{Mark}
use Rattle.dim_picture.specs.declared.mark.Mark.TheVariants as mark

-- the birth of the hold of t on l after h, or the place behind h where there is none
abbrev pub birth_of : Tid → Lid → List Entry → ℕ
birth_of t l h = unwrap_or (option_map (λ (e : Edge). e.birth) (hold t.0 l.0 h)) (length h)

-- the lock that a thread in this mode wants that yields
abbrev pub wanted : Mode → Lid
wanted (Yielding l place) = l
wanted _ = record { 0 = 0 }

-- what an entry after h is: a Took of a lock that its thread holds already, and a Free after which
-- it goes on to hold the lock, begin and end no hold
abbrev pub mark_of : List Entry → Entry → Mark
mark_of h (Go t l s) = mark.Wait t l
mark_of h (Yield t l s sig births) = mark.Yield t l sig
mark_of h (Got t l) = mark.Hold t l
mark_of h (Free t l) = if is_inner t.0 l.0 h then mark.Inner t l (birth_of t l h) else mark.Free t l (birth_of t l h)
mark_of h (Took t l s) = if is_deeper t.0 l.0 h then mark.Deeper t l (birth_of t l h) else mark.Hold t l
mark_of h (Miss t l s why) = mark.Miss t l
mark_of h (End t why) = mark.End t why
mark_of h (Break set t) = mark.Break t (wanted (mode t.0 h))
mark_of h (Learn births) = mark.Learn

-- the same of all entries, one mark for each, the oldest first
abbrev pub marks : List Entry → List Mark
marks [] = []
marks (e ∷ h) = marks h ++ mark_of h e ∷ []
