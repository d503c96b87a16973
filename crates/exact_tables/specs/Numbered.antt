-- The exact tables from a solved graph of numbers.
use Rattle.std.specs.Prelude.{ℕ}
use Rattle.decl_set.specs.Declarations.{Declarations}
use Rattle.decl_set.specs.Asked.{IsKept}
use Rattle.tree_costs.specs.declared.cost.Cost.{Cost}
use Rattle.bound_checker.specs.Tabled.{Costs}
use Rattle.exact_tables.specs.Families.{IsExact}
use Rattle.tree_costs.specs.Graphs.{IsSolved}
use Rattle.tree_costs.specs.Numbered.{StandsFor, AreCarried, Numbers, graph_of}
use Rattle.exact_tables.specs.Comparing.{Elem, State, comparison, AreTables}

-- the exact tables of a comparison from the solved graph of numbers that stands for its graph
abbrev pub NumberedIsExact : Type 0
NumberedIsExact =
    (first second : Declarations) (n : Numbers) (label : ℕ → Elem) (state : ℕ → ℕ → State)
    (m : ℕ → Cost) (p : ℕ → ℕ → Cost) (d : Elem → Cost) (q : Elem → State → Cost) (c : Costs)
    → IsKept first → IsKept second → StandsFor (graph_of n) (comparison first second n.cap) label state
    → IsSolved (graph_of n) m p → AreCarried (comparison first second n.cap) label state m p d q → AreTables first second d q c
    → IsExact first second n.cap c
