-- The elements of a picture, as text.
use Rattle.std.specs.Prelude.{ℕ, ◌+◌, ◌-◌, ◌/◌, nat_lt, if◌then◌else◌, List, [], ◌++◌, length, codes}
use Rattle.std.specs.Fmt.{decimal}

unfoldable pub rect : List ℕ → ℕ → ℕ → ℕ → ℕ → List ℕ
rect class x y width height = codes "<rect class=\""
    ++ (class ++ (codes "\" x=\"" ++ (decimal x ++ (codes "\" y=\"" ++ (decimal y ++ (codes "\" width=\"" ++ (decimal width ++ (codes "\" height=\"" ++ (decimal height ++ codes "\"/>")))))))))

-- what stands before words
unfoldable pub opening : List ℕ → ℕ → ℕ → List ℕ
opening class x y = codes "<text class=\""
    ++ (class ++ (codes "\" x=\"" ++ (decimal x ++ (codes "\" y=\"" ++ (decimal y ++ codes "\">")))))

abbrev pub words : List ℕ → ℕ → ℕ → List ℕ → List ℕ
words class x y said = opening class x y ++ (said ++ codes "</text>")

-- a name in a bar, where it fits: a letter takes 7 pixels
abbrev pub named : List ℕ → ℕ → ℕ → ℕ → List ℕ → List ℕ
named class x y width name = if nat_lt ((width - 9) / 7) (length name) then [] else words class (x + 5) (y + 13) name

-- a line down or up
unfoldable pub line : List ℕ → ℕ → ℕ → ℕ → List ℕ
line class x from to = codes "<path class=\""
    ++ (class ++ (codes "\" d=\"M" ++ (decimal x ++ (codes " " ++ (decimal from ++ (codes "V" ++ (decimal to ++ codes "\"/>")))))))

unfoldable pub circle : List ℕ → ℕ → ℕ → ℕ → List ℕ
circle class x y radius = codes "<circle class=\""
    ++ (class ++ (codes "\" cx=\"" ++ (decimal x ++ (codes "\" cy=\"" ++ (decimal y ++ (codes "\" r=\"" ++ (decimal radius ++ codes "\"/>")))))))

-- a sign that is drawn from a point on
unfoldable pub sign : List ℕ → ℕ → ℕ → List ℕ → List ℕ
sign class x y strokes = codes "<path class=\""
    ++ (class ++ (codes "\" d=\"M" ++ (decimal x ++ (codes " " ++ (decimal y ++ (strokes ++ codes "\"/>"))))))
