-- What a solver of tables keeps: each cost is none, or that of documents.
use Rattle.std.specs.Prelude.{◌≡◌, ℕ, Some, IsTrue, ◌⊎◌}
use Rattle.content_models.specs.declared.content.Content.{Content}
use Rattle.content_models.specs.Model.{Chars}
use Rattle.document_trees.specs.Trees.{Items, nothing, element, chars, comment, pi, IsWellMade, EachBelow, child_names, elements_alone, elements_in}
use Rattle.decl_set.specs.Declarations.{Declarations, content_in}
use Rattle.decl_set.specs.Validity.{Meets}
use Rattle.tree_costs.specs.declared.cost.Cost.{Cost}
use Rattle.tree_costs.specs.declared.cost.Cost.TheVariants.{Fin, Inf}
use Rattle.tree_costs.specs.Costs.{cut}
use Rattle.tree_costs.specs.Forests.{IsForest, OfForest}
use Rattle.position_automata.specs.Runs.{Runs}
use Rattle.bound_checker.specs.Tabled.{Costs}
use Rattle.tree_costs.specs.Families.{OfDocument}
use Rattle.exact_tables.specs.Families.{OfSeparating, IsListed}

-- one of the elements is not right in the set, or has such a one below
abbrev pub HasWrong : Declarations → Items → Type 0
HasWrong set nothing = ⊥
HasWrong set (element name atts inside later) = (Meets set name atts inside → EachBelow (Meets set) inside → ⊥) ⊎ HasWrong set later
HasWrong set (chars text plain later) = HasWrong set later
HasWrong set (comment text later) = HasWrong set later
HasWrong set (pi target body later) = HasWrong set later

-- the number of elements of a forest whose names lead from i to acceptance, where one element is wrong in the second
abbrev pub OfWrongForest : ℕ → Declarations → Declarations → Content → ℕ → Cost → Type 0
OfWrongForest cap first second a i c =
    (items : Items) × IsForest first items × Runs a i (child_names items) × HasWrong second items × (c ≡ cut cap (elements_in items))

-- the same, where the names do not lead the other content from j to acceptance
abbrev pub OfOddForest : ℕ → Declarations → Content → Content → ℕ → ℕ → Cost → Type 0
OfOddForest cap first a b i j c =
    (items : Items) × IsForest first items × Runs a i (child_names items) × (Runs b j (child_names items) → ⊥) × (c ≡ cut cap (elements_in items))

-- each cost is none, or that of documents; a pair that is not listed has 0
pub record IsAttained (first second : Declarations) (cap : ℕ) (c : Costs) : Type 0 where
  pub m : (e : Chars) → (c.m e ≡ Inf) ⊎ OfDocument cap first e (c.m e)
  pub v : (e : Chars) → (c.v e ≡ Inf) ⊎ OfSeparating cap first second e (c.v e)
  pub p : (e : Chars) (a : Content) (i : ℕ) → content_in first e ≡ Some a → (c.p e i ≡ Inf) ⊎ OfForest cap first a i (c.p e i)
  pub f : (e : Chars) (a : Content) (i : ℕ) → content_in first e ≡ Some a → (c.f e i ≡ Inf) ⊎ OfWrongForest cap first second a i (c.f e i)
  pub g : (e : Chars) (a b : Content) (i j : ℕ) → content_in first e ≡ Some a → content_in second e ≡ Some b → IsListed first a b i j
      → (c.g e i j ≡ Inf) ⊎ OfOddForest cap first a b i j (c.g e i j)
  pub unlisted : (e : Chars) (a b : Content) (i j : ℕ) → content_in first e ≡ Some a → content_in second e ≡ Some b → (IsListed first a b i j → ⊥)
      → c.g e i j ≡ Fin 0
