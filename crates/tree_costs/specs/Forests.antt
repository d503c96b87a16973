-- Documents side by side.
use Rattle.std.specs.Prelude.{◌≡◌, ℕ, IsTrue}
use Rattle.content_models.specs.declared.content.Content.{Content}
use Rattle.document_trees.specs.Trees.{Items, IsWellMade, EachBelow, child_names, elements_alone, elements_in}
use Rattle.position_automata.specs.Runs.{Runs}
use Rattle.decl_set.specs.Declarations.{Declarations}
use Rattle.decl_set.specs.Validity.{Meets}
use Rattle.tree_costs.specs.declared.cost.Cost.{Cost}
use Rattle.tree_costs.specs.Costs.{cut}

-- elements alone, each node of them well made and right in the set
pub record IsForest (set : Declarations) (items : Items) : Type 0 where
  pub alone : IsTrue (elements_alone items)
  pub made : EachBelow IsWellMade items
  pub met : EachBelow (Meets set) items

-- the number of elements of a forest whose names lead from state i to acceptance
abbrev pub OfForest : ℕ → Declarations → Content → ℕ → Cost → Type 0
OfForest cap set a i c = (items : Items) × IsForest set items × Runs a i (child_names items) × (c ≡ cut cap (elements_in items))
