-- What comes of asking for the exact tables of a comparison.
use Rattle.std.specs.Prelude.{◌≡◌, ◌≤◌, ℕ, List, [], ◌∷◌, map, Result, Ok, Err}
use Rattle.content_models.specs.Model.{Chars}
use Rattle.decl_set.specs.Declarations.{Declarations, Element, content_in}
use Rattle.tagset_report.specs.Reported.{SumsPairs, PassesAt}
use Rattle.bound_checker.specs.declared.tables.Row.{Row}
use Rattle.bound_checker.specs.declared.tables.Tables.{Tables}
use Rattle.bound_checker.specs.Tabled.{Fits, FitRows, costs_of, states_of}
use Rattle.exact_tables.specs.Families.{IsExact}
use Rattle.comparison_tables.specs.declared.fault.TablesFault.{TablesFault}
use Rattle.comparison_tables.specs.declared.fault.TablesFault.TheVariants.{PairsOver, NoMemory}
use Rattle.comparison_tables.specs.Sides.{ArePairsOf}

-- the pairs of each row are the listed ones
abbrev pub ListPairs : Declarations → Declarations → List Element → List Row → Type 0
ListPairs first second [] [] = Unit {0}
ListPairs first second [] (row ∷ rows) = ⊥
ListPairs first second (e ∷ es) [] = ⊥
ListPairs first second (e ∷ es) (row ∷ rows) = ArePairsOf first e.1 (content_in second e.0) (map states_of row.pairs) × ListPairs first second es rows

-- rows of the exact costs, whatever the root is
pub record HaveExactCosts (first second : Declarations) (cap : ℕ) (rows : List Row) : Type 0 where
  pub fit : FitRows cap second first.elements rows
  pub exact : (root : Chars) → IsExact first second cap (costs_of first (record { root = root; cap = cap; rows = rows }))
  pub pairs : ListPairs first second first.elements rows

-- tables of the exact costs, with a row for each element of the first and a cost for each state and each listed pair
pub record AreExactTables (first second : Declarations) (root : Chars) (cap : ℕ) (tables : Tables) : Type 0 where
  pub root_is : tables.root ≡ root
  pub cap_is : tables.cap ≡ cap
  pub fits : Fits first second tables
  pub exact : IsExact first second cap (costs_of first tables)
  pub pairs : ListPairs first second first.elements tables.rows
  pub sum : ℕ
  pub sums : SumsPairs first second first.elements sum
  pub within : sum ≤ 2000000

-- the exact tables, or PairsOver exactly where in order of declaration the sum of the listed pairs passes 2,000,000
abbrev pub Tabulates : Declarations → Declarations → Chars → ℕ → Result Tables TablesFault → Type 0
Tabulates first second root cap (Ok tables) = AreExactTables first second root cap tables
Tabulates first second root cap (Err (PairsOver name)) = PassesAt first second name
Tabulates first second root cap (Err NoMemory) = Unit {0}
