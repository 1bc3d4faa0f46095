-- What is drawn of each mark.
use Rattle.std.specs.Prelude.{ℕ, ◌+◌, ◌-◌, ◌/◌, ◌%◌, ◌==◌, nat_lt, nat_le, Bool, if◌then◌else◌, List, [], ◌++◌, length, slice_get, Option, Some, None, codes}
use Rattle.std.specs.Fmt.{decimal}
use Rattle.std.specs.List.{flat_map}
use Rattle.dim_base.specs.declared.Tid.{Tid}
use Rattle.dim_base.specs.declared.Lid.{Lid}
use Rattle.dim_asm.specs.Code.{Code}
use Rattle.dim_rag.specs.declared.entry.Why.{Why}
use Rattle.dim_rag.specs.declared.entry.Why.TheVariants.{Done, Trapped, Spent}
use Rattle.dim_rag.specs.declared.entry.Entry as entries
use Rattle.dim_rag.specs.declared.entry.Entry.TheVariants as entry
use Rattle.dim_trace.specs.Text.{lock_word}
use Rattle.dim_picture.specs.Value.{FrameValue}
use Rattle.dim_picture.specs.declared.mark.Mark.{Mark}
use Rattle.dim_picture.specs.declared.mark.Mark.TheVariants.{Wait, Yield, Hold, Deeper, Inner, Free, Miss, End, Break, Learn}
use Rattle.dim_picture.specs.declared.rows.Seat.{Seat}
use Rattle.dim_picture.specs.declared.rows.Seat.TheVariants.{Own}
use Rattle.dim_picture.specs.declared.shape.Shape.{Shape}
use Rattle.dim_picture.specs.Elements.{rect, opening, words, named, line, circle, sign}
use Rattle.dim_picture.specs.Frames.{x_of, y_of}
use Rattle.dim_picture.specs.Shapes.{seat_of}

-- ---- bars, whose left upper corner is at x and y

abbrev pub pattern_class : Lid → List ℕ
pattern_class l = if (l.0 / 8) % 4 == 1 then codes "p1" else (if (l.0 / 8) % 4 == 2 then codes "p2" else (if (l.0 / 8) % 4 == 3 then codes "p3" else codes "p0"))

-- the pattern of a lock above the eighth
abbrev pub pattern : Lid → ℕ → ℕ → ℕ → List ℕ
pattern l x y width = if nat_lt l.0 8 then [] else rect (pattern_class l) x y width 18

abbrev pub hold : List ℕ → Lid → ℕ → ℕ → ℕ → List ℕ
hold name l x y width = rect (codes "hold") x y width 18
    ++ (pattern l x y width ++ named (codes "in") x y width name)

-- a wait has its lock's name where it lasts
abbrev pub wait : List ℕ → ℕ → ℕ → ℕ → Bool → List ℕ
wait name x y width lasts = rect (codes "wait") x y width 18
    ++ (if lasts then named (codes "out") x y width name else [])

abbrev pub sig_word : ℕ → List ℕ
sig_word width = if nat_le 46 width then codes "sig " else []

abbrev pub yielding : ℕ → ℕ → ℕ → ℕ → List ℕ
yielding sig x y width = rect (codes "yield") x y width 18
    ++ (opening (codes "sig") (x + 5) (y + 13) ++ (sig_word width ++ (decimal sig ++ codes "</text>")))

abbrev pub broken : List ℕ → ℕ → ℕ → ℕ → Bool → List ℕ
broken name x y width lasts = wait name x y width lasts
    ++ sign (codes "break") x (y + 1) (codes "l8 8l-8 8l-8 -8z")

abbrev pub freed : ℕ → ℕ → List ℕ
freed x y = rect (codes "free") (x - 3) y 3 18

abbrev pub missed : List ℕ → ℕ → ℕ → ℕ → List ℕ
missed name x y width = sign (codes "miss") x (y + 4) (codes "l10 10m0 -10l-10 10")
    ++ (if nat_lt ((width - 18) / 7) (length name) then [] else words (codes "miss") (x + 14) (y + 13) name)

abbrev pub why_words : Why → List ℕ
why_words Done = codes "done"
why_words (Trapped trap) = codes "trap " ++ decimal trap
why_words Spent = codes "spent"

abbrev pub ended : Why → ℕ → ℕ → List ℕ
ended why x y = rect (codes "end") x (y + 4) 10 10
    ++ (opening (codes "out") (x + 14) (y + 13) ++ (why_words why ++ codes "</text>"))

-- ---- marks

abbrev pub learn_figure : FrameValue → ℕ → List ℕ
learn_figure f q = line (codes "learn") (x_of f q) 64 f.bottom
    ++ words (codes "learnt") (x_of f q) (f.bottom + 14) (codes "learn")

-- the thread in whose lane a mark stands
abbrev pub lane_of : Mark → Option Tid
lane_of (Wait t l) = Some t
lane_of (Yield t l sig) = Some t
lane_of (Hold t l) = Some t
lane_of (Deeper t l birth) = Some t
lane_of (Inner t l birth) = Some t
lane_of (Free t l birth) = Some t
lane_of (Miss t l) = Some t
lane_of (End t why) = Some t
lane_of (Break t l) = Some t
lane_of Learn = None

-- what is drawn of a mark in a lane
abbrev pub laned : Code → ℕ → ℕ → ℕ → Bool → Mark → List ℕ
laned p x y width lasts (Wait t l) = wait (lock_word p l) x y width lasts
laned p x y width lasts (Yield t l sig) = yielding sig x y width
laned p x y width lasts (Hold t l) = hold (lock_word p l) l x y width
laned p x y width lasts (Deeper t l birth) = words (codes "count") (x + 2) (y + 13) (codes "+")
laned p x y width lasts (Inner t l birth) = words (codes "count") (x + 2) (y + 13) (codes "-")
laned p x y width lasts (Free t l birth) = freed x y
laned p x y width lasts (Miss t l) = missed (lock_word p l) x y width
laned p x y width lasts (End t why) = ended why x y
laned p x y width lasts (Break t l) = broken (lock_word p l) x y width lasts
laned p x y width lasts Learn = []

-- a wait has its name where it goes on beyond the next place
abbrev pub figure_by : Code → FrameValue → ℕ → Shape → Option Tid → List ℕ
figure_by p f q s (Some t) = laned p (x_of f q) (y_of f t s.row) (x_of f s.end - x_of f q) (nat_lt q (s.end - 1)) s.mark
figure_by p f q s None = learn_figure f q

-- what is drawn of the shape at q
unfoldable pub figure : Code → FrameValue → ℕ → Shape → List ℕ
figure p f q s = figure_by p f q s (lane_of s.mark)

-- ---- what a Yield and a Learn name

-- the middle of a bar, from the top, if it is one
abbrev pub middle_by : FrameValue → ℕ → Seat → Option ℕ
middle_by f row (Own t) = Some (y_of f t row + 9)
middle_by f row _ = None

abbrev pub middle : FrameValue → Option Shape → Option ℕ
middle f None = None
middle f (Some s) = middle_by f s.row (seat_of s.mark)

-- a line to a cause, and a ring on a hold
abbrev pub link_to : ℕ → ℕ → Option ℕ → List ℕ
link_to x y None = []
link_to x y (Some z) = line (codes "link") x (y + 9) z ++ circle (codes "dot") x z 4

abbrev pub ring_at : ℕ → Option ℕ → List ℕ
ring_at x None = []
ring_at x (Some z) = circle (codes "ring") x z 5

-- those of the bar that was born at a place: of a Yield's births its own place is no cause
abbrev pub link : FrameValue → List Shape → ℕ → ℕ → ℕ → ℕ → List ℕ
link f shapes q x y birth = if birth == q then [] else link_to x y (middle f (slice_get shapes birth))

abbrev pub ring : FrameValue → List Shape → ℕ → ℕ → List ℕ
ring f shapes x birth = ring_at x (middle f (slice_get shapes birth))

-- what is drawn of the births of an entry at q, whose shape stands in this row
abbrev pub references_by : FrameValue → List Shape → ℕ → ℕ → Option entries.Entry → List ℕ
references_by f shapes q row (Some (entry.Yield t l s sig births)) = flat_map (link f shapes q (x_of f q) (y_of f t row)) births
references_by f shapes q row (Some (entry.Learn births)) = flat_map (ring f shapes (x_of f q)) births
references_by f shapes q row _ = []
