-- What the plan of a comparison says.
use Rattle.std.specs.Prelude.{ℕ, List}
use Rattle.decl_set.specs.Asked.{IsKept}
use Rattle.decl_set.specs.Declarations.{Declarations}
use Rattle.tree_costs.specs.declared.cost.Cost.{Cost}
use Rattle.tree_costs.specs.Graphs.{IsSolved}
use Rattle.tree_costs.specs.Numbered.{StandsFor, AreCarried, graph_of}
use Rattle.exact_tables.specs.Comparing.{comparison}
use Rattle.comparison_tables.specs.declared.sides.Side.{Side}
use Rattle.comparison_tables.specs.Plans.{numbers_of}
use Rattle.comparison_tables.specs.Sides.{AreSides}
use Rattle.comparison_tables.specs.Standing.{label, state, cost_by, state_cost_by}

-- the numbers stand for the graph of the comparison
abbrev pub NumbersStand : Type 0
NumbersStand =
    (first second : Declarations) (sides : List Side) (cap : ℕ) → IsKept first → IsKept second → AreSides first second sides
    → StandsFor (graph_of (numbers_of first second sides cap)) (comparison first second cap) (label first second sides) (state first second sides)

-- and their costs are its costs
abbrev pub CostsAreCarried : Type 0
CostsAreCarried =
    (first second : Declarations) (sides : List Side) (cap : ℕ) (m : ℕ → Cost) (p : ℕ → ℕ → Cost) → IsKept first → IsKept second → AreSides first second sides
    → IsSolved (graph_of (numbers_of first second sides cap)) m p
    → AreCarried (comparison first second cap) (label first second sides) (state first second sides) m p
    (cost_by first second sides m) (state_cost_by first second sides p)
