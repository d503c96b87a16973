-- What is known of the elements of the first set beside those of the second.
use Rattle.std.specs.Prelude.{◌≡◌, ◌≤◌, ℕ, Bool, ◌==◌, ◌&&◌, List, [], ◌∷◌, length, Option, Some, None, is_some, position, slice_get}
use Rattle.content_models.specs.declared.content.Content.{Content}
use Rattle.decl_set.specs.Declarations.{Declarations, Element, content_in}
use Rattle.decl_set.specs.Oddness.{odd_in}
use Rattle.tagset_report.specs.Live.{AreListed}
use Rattle.comparison_tables.specs.declared.sides.Side.{Side}

-- the listed pairs of two contents, and none where there is no second
abbrev pub ArePairsOf : Declarations → Content → Option Content → List (ℕ × ℕ) → Type 0
ArePairsOf first a None pairs = pairs ≡ []
ArePairsOf first a (Some b) pairs = AreListed first a b pairs

-- whether the element is odd, and its listed pairs
pub record IsSide (first second : Declarations) (e : Element) (side : Side) : Type 0 where
  pub odd : side.odd ≡ is_some (odd_in first second e.0)
  pub pairs : ArePairsOf first e.1 (content_in second e.0) side.pairs
  pub few : length side.pairs ≤ 2000000

-- one for each of these elements, in order
abbrev pub FitSides : Declarations → Declarations → List Element → List Side → Type 0
FitSides first second [] [] = Unit {0}
FitSides first second [] (side ∷ sides) = ⊥
FitSides first second (e ∷ es) [] = ⊥
FitSides first second (e ∷ es) (side ∷ sides) = IsSide first second e side × FitSides first second es sides

-- one for each element of the first
abbrev pub AreSides : Declarations → Declarations → List Side → Type 0
AreSides first second sides = FitSides first second first.elements sides

-- the content of an element, that in the second, whether it is odd, and its listed pairs
pub record Known : Type 0 where
  pub content : Content
  pub other : Option Content
  pub odd : Bool
  pub pairs : List (ℕ × ℕ)

abbrev pub known : Declarations → Element → Side → Known
known second e side = record { content = e.1; other = content_in second e.0; odd = side.odd; pairs = side.pairs }

abbrev pub known_by : Declarations → Option Element → Option Side → Option Known
known_by second None side = None
known_by second (Some e) None = None
known_by second (Some e) (Some side) = Some (known second e side)

-- those of the element at a place
abbrev pub known_at : Declarations → Declarations → List Side → ℕ → Option Known
known_at first second sides x = known_by second (slice_get first.elements x) (slice_get sides x)

-- the place of a pair among the listed ones
abbrev pub is_at : ℕ → ℕ → ℕ × ℕ → Bool
is_at i j pair = pair.0 == i && pair.1 == j

abbrev pub pair_place : List (ℕ × ℕ) → ℕ → ℕ → Option ℕ
pair_place pairs i j = position (is_at i j) pairs
