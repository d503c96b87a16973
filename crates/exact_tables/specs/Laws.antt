-- What tables say about documents.
use Rattle.std.specs.Prelude.{◌≡◌, ℕ, Some}
use Rattle.content_models.specs.declared.content.Content.{Content}
use Rattle.content_models.specs.Model.{Chars}
use Rattle.document_trees.specs.Trees.{Node, size}
use Rattle.decl_set.specs.Declarations.{Declarations, content_in}
use Rattle.decl_set.specs.Asked.{IsKept}
use Rattle.decl_set.specs.Validity.{IsValid, IsSeparating, IsSubset}
use Rattle.tree_costs.specs.declared.cost.Cost.TheVariants.{Inf}
use Rattle.tree_costs.specs.Costs.{Bounds}
use Rattle.tree_costs.specs.Families.{AreExact}
use Rattle.bound_checker.specs.Tabled.{Costs}
use Rattle.bound_checker.specs.Kinds.{Feasible}
use Rattle.exact_tables.specs.Families.{IsReached, IsExact, IsListed}
use Rattle.exact_tables.specs.Forests.{IsAttained}

-- the costs agree
pub record Agree (first second : Declarations) (c d : Costs) : Type 0 where
  pub m : (e : Chars) → c.m e ≡ d.m e
  pub v : (e : Chars) → c.v e ≡ d.v e
  pub p : (e : Chars) (a : Content) (i : ℕ) → content_in first e ≡ Some a → c.p e i ≡ d.p e i
  pub f : (e : Chars) (a : Content) (i : ℕ) → content_in first e ≡ Some a → c.f e i ≡ d.f e i
  pub g : (e : Chars) (a b : Content) (i j : ℕ) → content_in first e ≡ Some a → content_in second e ≡ Some b → IsListed first a b i j → c.g e i j ≡ d.g e i j
  pub unlisted : (e : Chars) (a b : Content) (i j : ℕ) → content_in first e ≡ Some a → content_in second e ≡ Some b → (IsListed first a b i j → ⊥) → c.g e i j ≡ d.g e i j

-- two sets have one table of exact costs
abbrev pub OneExact : Type 0
OneExact = (first second : Declarations) (cap : ℕ) (c d : Costs) → IsExact first second cap c → IsExact first second cap d → Agree first second c d

-- exact costs are exact for the first alone
abbrev pub ExactIsOwn : Type 0
ExactIsOwn = (first second : Declarations) (cap : ℕ) (c : Costs) → IsExact first second cap c → AreExact first cap c.m c.p

-- exact costs are feasible
abbrev pub ExactIsFeasible : Type 0
ExactIsFeasible = (first second : Declarations) (cap : ℕ) (c : Costs) → IsKept first → IsKept second → IsExact first second cap c → Feasible first second cap c

-- costs that are feasible and reached are exact
abbrev pub ReachedIsExact : Type 0
ReachedIsExact =
    (first second : Declarations) (cap : ℕ) (c : Costs) → IsKept first → IsKept second → Feasible first second cap c → IsReached first second cap c
    → IsExact first second cap c

-- and so are costs that are feasible and attained by forests
abbrev pub AttainedIsExact : Type 0
AttainedIsExact =
    (first second : Declarations) (cap : ℕ) (c : Costs) → IsKept first → IsKept second → Feasible first second cap c → IsAttained first second cap c
    → IsExact first second cap c

-- costs that agree with exact ones are exact
abbrev pub AgreeingIsExact : Type 0
AgreeingIsExact = (first second : Declarations) (cap : ℕ) (c d : Costs) → IsExact first second cap c → Agree first second c d → IsExact first second cap d
