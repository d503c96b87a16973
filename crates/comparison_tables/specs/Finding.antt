-- What is found of the elements of the first set beside those of the second, and where the listed pairs are too many.
use Rattle.std.specs.Prelude.{◌≡◌, ◌≤◌, ◌<◌, ◌+◌, ℕ, List, length, take, Result, Ok, Err}
use Rattle.content_models.specs.declared.content.Content.{Content}
use Rattle.content_models.specs.Model.{Chars}
use Rattle.decl_set.specs.Declarations.{Declarations, content_in}
use Rattle.tagset_report.specs.Reported.{CountsPairs, SumsPairs, PassesAt}
use Rattle.comparison_tables.specs.declared.fault.TablesFault.{TablesFault}
use Rattle.comparison_tables.specs.declared.fault.TablesFault.TheVariants.{PairsOver, NoMemory}
use Rattle.comparison_tables.specs.declared.sides.Side.{Side}
use Rattle.comparison_tables.specs.Sides.{IsSide, FitSides, AreSides}

-- an element has more listed pairs than are left
abbrev pub PassesBy : Declarations → Declarations → Chars → Content → ℕ → Type 0
PassesBy first second name a left = (n : ℕ) × CountsPairs first a (content_in second name) n × (left < n)

-- the side of an element with at most so many pairs, or PairsOver exactly where they are more
abbrev pub FindsSide : Declarations → Declarations → Chars → Content → ℕ → Result Side TablesFault → Type 0
FindsSide first second name a left (Ok side) = IsSide first second (name, a) side × (length side.pairs ≤ left)
FindsSide first second name a left (Err (PairsOver other)) = (other ≡ name) × PassesBy first second name a left
FindsSide first second name a left (Err NoMemory) = Unit {0}

-- the sides of the first elements, with so many pairs left of 2,000,000
pub record AreFound (first second : Declarations) (sides : List Side) (left : ℕ) : Type 0 where
  pub sides_are : FitSides first second (take (length sides) first.elements) sides
  pub sum : ℕ
  pub sums : SumsPairs first second (take (length sides) first.elements) sum
  pub rest : sum + left ≡ 2000000

-- the sides of all elements, with at most 2,000,000 pairs together
pub record FindsAll (first second : Declarations) (sides : List Side) : Type 0 where
  pub sides_are : AreSides first second sides
  pub sum : ℕ
  pub sums : SumsPairs first second first.elements sum
  pub within : sum ≤ 2000000

-- or PairsOver exactly where in order of declaration the sum of the listed pairs passes that number
abbrev pub FindsSides : Declarations → Declarations → Result (List Side) TablesFault → Type 0
FindsSides first second (Ok sides) = FindsAll first second sides
FindsSides first second (Err (PairsOver name)) = PassesAt first second name
FindsSides first second (Err NoMemory) = Unit {0}
