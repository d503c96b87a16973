-- What the definitions of least costs say together.
use Rattle.std.specs.Prelude.{◌≡◌, ℕ, ◌↔◌, IsTrue}
use Rattle.content_models.specs.Model.{Chars}
use Rattle.decl_set.specs.Declarations.{Declarations}
use Rattle.decl_set.specs.Asked.{IsKept}
use Rattle.decl_set.specs.Validity.{HasDocument}
use Rattle.tree_costs.specs.declared.cost.Cost.{Cost}
use Rattle.tree_costs.specs.declared.cost.Cost.TheVariants.{Inf}
use Rattle.tree_costs.specs.declared.least.Least.{Least}
use Rattle.tree_costs.specs.Costs.{AtMost, at_most}
use Rattle.tree_costs.specs.Families.{AreExact}
use Rattle.tree_costs.specs.Graphs.{IsSolved, own_graph}
use Rattle.tree_costs.specs.Leasts.{IsExact}
use Rattle.tree_costs.specs.Numbered.{numbers_of, graph_of, cost_by, state_cost_by}

-- the test of costs tells their order
abbrev pub OrderByTest : Type 0
OrderByTest = (c d : Cost) → IsTrue (at_most c d) ↔ AtMost c d

-- a set has one table of least costs for a cap
abbrev pub OneLeast : Type 0
OneLeast = (set : Declarations) (least other : Least) → IsKept set → IsExact set least → IsExact set other → least.cap ≡ other.cap → least ≡ other

-- an element has no document exactly where its least size is none
abbrev pub DocumentsTold : Type 0
DocumentsTold =
    (set : Declarations) (cap : ℕ) (m : Chars → Cost) (p : Chars → ℕ → Cost) → AreExact set cap m p → (e : Chars) → (m e ≡ Inf) ↔ (HasDocument set e → ⊥)

-- the costs of a set's own graph are its least ones
abbrev pub SolvedIsExact : Type 0
SolvedIsExact =
    (set : Declarations) (cap : ℕ) (m : Chars → Cost) (p : Chars → ℕ → Cost) → IsKept set → IsSolved (own_graph set cap) m p → AreExact set cap m p

-- and so are those of its graph of numbers
abbrev pub NumberedIsExact : Type 0
NumberedIsExact =
    (set : Declarations) (cap : ℕ) (m : ℕ → Cost) (p : ℕ → ℕ → Cost) → IsKept set → IsSolved (graph_of (numbers_of set cap)) m p
    → AreExact set cap (cost_by set m) (state_cost_by set p)
