-- What tables say about documents.
use Rattle.std.specs.Prelude.{◌≡◌, ℕ}
use Rattle.content_models.specs.Model.{Chars}
use Rattle.document_trees.specs.Trees.{Node, size}
use Rattle.decl_set.specs.Declarations.{Declarations}
use Rattle.decl_set.specs.Asked.{IsKept}
use Rattle.decl_set.specs.Validity.{IsValid, IsSeparating, IsSubset}
use Rattle.tree_costs.specs.declared.cost.Cost.TheVariants.{Inf}
use Rattle.tree_costs.specs.Costs.{Bounds}
use Rattle.bound_checker.specs.Tabled.{Costs}
use Rattle.bound_checker.specs.Kinds.{Feasible}

-- m bounds the size of every document
abbrev pub BoundsDocuments : Declarations → Costs → Type 0
BoundsDocuments first c = (e : Chars) (node : Node) → IsValid first e node → Bounds (c.m e) (size node)

-- v bounds the size of every separating document
abbrev pub BoundsSeparating : Declarations → Declarations → Costs → Type 0
BoundsSeparating first second c = (e : Chars) (node : Node) → IsSeparating first second e node → Bounds (c.v e) (size node)

-- where v has no number, no document separates
abbrev pub TellsSubset : Declarations → Declarations → Costs → Type 0
TellsSubset first second c = (e : Chars) → c.v e ≡ Inf → IsSubset first second e

pub record IsSound (first second : Declarations) (c : Costs) : Type 0 where
  pub documents : BoundsDocuments first c
  pub separating : BoundsSeparating first second c
  pub subset : TellsSubset first second c

-- feasible costs bound every document
abbrev pub FeasibleBounds : Type 0
FeasibleBounds = (first second : Declarations) (cap : ℕ) (c : Costs) → IsKept first → IsKept second → Feasible first second cap c → IsSound first second c
