-- What surrounds the marks of a picture, and the whole.
use Rattle.std.specs.Prelude.{ℕ, zero, suc, ◌+◌, ◌-◌, ◌*◌, ◌/◌, ◌%◌, ◌==◌, nat_le, Bool, ◌||◌, if◌then◌else◌, List, [], ◌++◌, length, slice_get, Option, Some, None, codes}
use Rattle.std.specs.Fmt.{decimal}
use Rattle.dim_asm.specs.Code.{Code, thread_count, lock_count, start_of, func_name_of}
use Rattle.dim_rag.specs.declared.entry.Entry.{Entry}
use Rattle.dim_run.specs.declared.playing.Outcome.{Outcome}
use Rattle.dim_run.specs.declared.playing.Outcome.TheVariants.{Finished, Deadlocked, Stalled}
use Rattle.dim_trace.specs.Text.{lock_word}
use Rattle.dim_picture.specs.declared.style.TheConstants.{STYLE, PATTERNS, KINDS}
use Rattle.dim_picture.specs.Value.{FrameValue}
use Rattle.dim_picture.specs.declared.mark.Mark.{Mark}
use Rattle.dim_picture.specs.declared.mark.Mark.TheVariants.{Wait, Yield, Hold, Deeper, Inner, Free, Miss, End, Break, Learn}
use Rattle.dim_picture.specs.declared.shape.Shape.{Shape}
use Rattle.dim_picture.specs.Elements.{rect, opening, words, line}
use Rattle.dim_picture.specs.Figures.{hold, figure, references_by}
use Rattle.dim_picture.specs.Frames.{x_of, top_of, width_of, is_shown, frame_of}
use Rattle.dim_picture.specs.Lines.{line_at}

-- ---- the head

unfoldable pub opened : ℕ → ℕ → List ℕ
opened width height = codes "<svg xmlns=\"http://www.w3.org/2000/svg\" viewBox=\"0 0 "
    ++ (decimal width ++ (codes " " ++ (decimal height ++ (codes "\" width=\"" ++ (decimal width ++ (codes "\" height=\"" ++ (decimal height ++ codes "\" font-family=\"system-ui, sans-serif\" font-size=\"12\">")))))))

-- the look of each class, the patterns, and the legend of the kinds of marks
unfoldable pub style : List ℕ
style = STYLE.now

unfoldable pub patterns : List ℕ
patterns = PATTERNS.now

unfoldable pub kinds : List ℕ
kinds = KINDS.now

-- where the legend of the kinds of marks begins
abbrev pub kinds_y : FrameValue → ℕ → ℕ
kinds_y f locks = f.bottom + 44 + 24 * ((locks + 3) / 4)

abbrev pub head : FrameValue → ℕ → List ℕ
head f locks = opened (width_of f) (kinds_y f locks + 60)
    ++ (style ++ (patterns ++ rect (codes "page") 0 0 (width_of f) (kinds_y f locks + 60)))

abbrev pub outcome_word : Outcome → List ℕ
outcome_word Finished = codes "finished"
outcome_word Deadlocked = codes "deadlocked"
outcome_word Stalled = codes "stalled"

unfoldable pub range_words : FrameValue → ℕ → ℕ → ℕ → List ℕ
range_words f n fuel depth = codes "places "
    ++ (decimal f.from ++ (codes " to " ++ (decimal (f.to - 1) ++ (codes " of " ++ (decimal n ++ (codes " entries, fuel " ++ (decimal fuel ++ (codes ", depth " ++ decimal depth))))))))

-- how the run ended, and its settings
abbrev pub heading : FrameValue → Outcome → ℕ → ℕ → ℕ → List ℕ
heading f outcome n fuel depth = words (codes "head") 20 26 (outcome_word outcome)
    ++ (opening (codes "note") 20 44 ++ (range_words f n fuel depth ++ codes "</text>\n"))

-- ---- places and lanes

abbrev pub is_labelled : FrameValue → ℕ → Bool
is_labelled f p = nat_le (f.to - f.from) 50 || (p % 5 == 0)

abbrev pub tick_label : FrameValue → ℕ → List ℕ
tick_label f p = opening (codes "tick") (x_of f p) 60 ++ (decimal p ++ codes "</text>")

abbrev pub tick : FrameValue → ℕ → List ℕ
tick f p = line (codes "grid") (x_of f p) 64 f.bottom ++ (if is_labelled f p then tick_label f p else [])

-- the line of a place of the range
abbrev pub tick_at : FrameValue → ℕ → List ℕ
tick_at f p = if nat_le f.from p then tick f p else []

-- those of the places below n
abbrev pub ticks : FrameValue → ℕ → List ℕ
ticks f zero = []
ticks f (suc p) = ticks f p ++ tick_at f p

-- the head of a lane: the thread's number and its function
abbrev pub lane : Code → FrameValue → ℕ → List ℕ
lane p f t = rect (codes "rule") 0 (top_of f (record { 0 = t })) (width_of f) 1
    ++ (opening (codes "lane") 20 (top_of f (record { 0 = t }) + 16) ++ (decimal t ++ (codes " " ++ (func_name_of p ((start_of p t).func) ++ codes "</text>\n"))))

abbrev pub lanes : Code → FrameValue → ℕ → List ℕ
lanes p f zero = []
lanes p f (suc t) = lanes p f t ++ lane p f t

-- ---- marks

-- eight colours, and none where there is no lock
abbrev pub colour_of : Mark → ℕ
colour_of (Wait t l) = l.0 % 8
colour_of (Yield t l sig) = l.0 % 8
colour_of (Hold t l) = l.0 % 8
colour_of (Deeper t l birth) = l.0 % 8
colour_of (Inner t l birth) = l.0 % 8
colour_of (Free t l birth) = l.0 % 8
colour_of (Miss t l) = l.0 % 8
colour_of (End t why) = 8
colour_of (Break t l) = l.0 % 8
colour_of Learn = 8

unfoldable pub group : ℕ → List ℕ
group colour = codes "<g class=\"l" ++ (decimal colour ++ codes "\"><title>")

-- what is drawn of a shape at q, with the line of its entry
abbrev pub drawn : Code → FrameValue → List Shape → ℕ → Shape → Option Entry → List ℕ
drawn p f shapes q s e = figure p f q s ++ (references_by f shapes q s.row e ++ codes "</g>\n")

abbrev pub shown : Code → List (List ℕ) → FrameValue → List Shape → ℕ → Shape → Option Entry → List ℕ
shown p names f shapes q s e = group (colour_of s.mark)
    ++ (line_at p names e ++ (codes "</title>" ++ drawn p f shapes q s e))

abbrev pub mark_by : Code → List (List ℕ) → FrameValue → List Shape → ℕ → Option Shape → Option Entry → List ℕ
mark_by p names f shapes q None e = []
mark_by p names f shapes q (Some s) e = if is_shown f q s then shown p names f shapes q s e else []

-- the shapes at the places below n that reach into the range
abbrev pub marks : Code → List (List ℕ) → List Entry → FrameValue → List Shape → ℕ → List ℕ
marks p names entries f shapes zero = []
marks p names entries f shapes (suc q) = marks p names entries f shapes q
    ++ mark_by p names f shapes q (slice_get shapes q) (slice_get entries q)

-- ---- the legend

unfoldable pub colour_group : ℕ → List ℕ
colour_group colour = codes "<g class=\"l" ++ (decimal colour ++ codes "\">")

abbrev pub lock_key : Code → FrameValue → ℕ → List ℕ
lock_key p f l = colour_group (l % 8)
    ++ (hold [] (record { 0 = l }) (20 + 200 * (l % 4)) (f.bottom + 34 + 24 * (l / 4)) 28 ++ (words (codes "out") (20 + 200 * (l % 4) + 36) (f.bottom + 34 + 24 * (l / 4) + 13) (lock_word p (record { 0 = l })) ++ codes "</g>\n"))

abbrev pub lock_keys : Code → FrameValue → ℕ → List ℕ
lock_keys p f zero = []
lock_keys p f (suc l) = lock_keys p f l ++ lock_key p f l

unfoldable pub moved : ℕ → List ℕ
moved y = codes "<g transform=\"translate(20 " ++ (decimal y ++ codes ")\">")

abbrev pub foot : FrameValue → ℕ → List ℕ
foot f locks = moved (kinds_y f locks) ++ (kinds ++ codes "</g>\n</svg>\n")

-- ---- the whole

abbrev pub front : Code → FrameValue → Outcome → ℕ → ℕ → ℕ → List ℕ
front p f outcome n fuel depth = head f (lock_count p)
    ++ (heading f outcome n fuel depth ++ (ticks f f.to ++ lanes p f (thread_count p)))

abbrev pub back : Code → FrameValue → List ℕ
back p f = lock_keys p f (lock_count p) ++ foot f (lock_count p)

-- the picture of entries in a frame
abbrev pub picture_in : Code → List (List ℕ) → ℕ → ℕ → List Entry → Outcome → List Shape → FrameValue → List ℕ
picture_in p names fuel depth entries outcome shapes f = front p f outcome (length entries) fuel depth
    ++ (marks p names entries f shapes f.to ++ back p f)

-- the picture of the entries at the places from one on and before another
unfoldable pub picture_text : Code → List (List ℕ) → ℕ → ℕ → List Entry → Outcome → List Shape → ℕ → ℕ → List ℕ
picture_text p names fuel depth entries outcome shapes from to = picture_in p names fuel depth entries outcome shapes (frame_of from to shapes (thread_count p))
