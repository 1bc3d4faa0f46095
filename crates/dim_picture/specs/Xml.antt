-- Well-formed text: each element is closed, and each name, value and word is plain.
use Rattle.std.specs.Prelude.{◌≡◌, ℕ, ◌==◌, nat_le, Bool, true, not, ◌&&◌, ◌||◌, ⊤, List, [], ◌∷◌, ◌++◌, codes}
use Rattle.std.specs.List.{list_all}

-- neither a quote, an ampersand nor a bracket
abbrev pub is_plain : ℕ → Bool
is_plain c = not (c == 34) && (not (c == 38) && (not (c == 60) && not (c == 62)))

abbrev pub IsPlain : List ℕ → Type 0
IsPlain xs = list_all is_plain xs ≡ true

-- a small or a capital letter, a digit or a dash
abbrev pub is_letter : ℕ → Bool
is_letter c = (nat_le 97 c && nat_le c 122)
    || ((nat_le 65 c && nat_le c 90) || ((nat_le 48 c && nat_le c 57) || c == 45))

-- some of these
abbrev pub IsTag : List ℕ → Type 0
IsTag [] = ⊥
IsTag (c ∷ cs) = list_all is_letter (c ∷ cs) ≡ true

pub record Attribute : Type 0 where
  pub name : List ℕ
  pub value : List ℕ

-- attributes, each value in quotes, and what follows
abbrev pub with_attributes : List Attribute → List ℕ → List ℕ
with_attributes [] rest = rest
with_attributes (a ∷ more) rest = codes " "
    ++ (a.name ++ (codes "=\"" ++ (a.value ++ (codes "\"" ++ with_attributes more rest))))

abbrev pub AreAttributes : List Attribute → Type 0
AreAttributes [] = ⊤
AreAttributes (a ∷ more) = IsTag a.name × IsPlain a.value × AreAttributes more

-- words and elements
pub data IsContent : List ℕ → Type 0 where
  said : (xs : List ℕ) → IsPlain xs → IsContent xs
  both : (xs ys : List ℕ) → IsContent xs → IsContent ys → IsContent (xs ++ ys)
  element : (name : List ℕ) (attributes : List Attribute) (inside : List ℕ) → IsTag name
      → AreAttributes attributes → IsContent inside
      → IsContent (codes "<" ++ (name ++ with_attributes attributes (codes ">" ++ (inside ++ (codes "</" ++ (name ++ codes ">"))))))
  empty : (name : List ℕ) (attributes : List Attribute) → IsTag name → AreAttributes attributes
      → IsContent (codes "<" ++ (name ++ with_attributes attributes (codes "/>")))

-- one element, and a line feed
pub record IsDocument (text : List ℕ) : Type 0 where
  pub name : List ℕ
  pub attributes : List Attribute
  pub inside : List ℕ
  pub tag : IsTag name
  pub plain : AreAttributes attributes
  pub content : IsContent inside
  pub text_is : text
      ≡ codes "<" ++ (name ++ with_attributes attributes (codes ">" ++ (inside ++ (codes "</" ++ (name ++ codes ">\n")))))
