-- The costs whose least ones the exact tables hold.
use Rattle.std.specs.Prelude.{◌≡◌, ℕ, List, [], ◌∷◌, ◌++◌, Some, ◌⊎◌}
use Rattle.std.specs.List.{AllByRecursion}
use Rattle.content_models.specs.declared.content.Content.{Content}
use Rattle.content_models.specs.Model.{Chars}
use Rattle.document_trees.specs.Trees.{Node, IsDocument, size}
use Rattle.position_automata.specs.Automata.{Leads}
use Rattle.decl_set.specs.Declarations.{Declarations, content_in}
use Rattle.decl_set.specs.Validity.{IsValid, IsSeparating, HasDocument}
use Rattle.tree_costs.specs.declared.cost.Cost.{Cost}
use Rattle.tree_costs.specs.declared.cost.Cost.TheVariants.{Fin, Inf}
use Rattle.tree_costs.specs.Costs.{cut, sum, total, IsLeast}
use Rattle.tree_costs.specs.Families.{OfDocument, OfNames}
use Rattle.position_automata.specs.Runs.{Runs}
use Rattle.bound_checker.specs.Tabled.{Costs}

-- the sum of m over names, where the one after the first ones is counted by v
abbrev pub total_with : ℕ → (Chars → Cost) → (Chars → Cost) → List Chars → Chars → List Chars → Cost
total_with cap m v [] name after = sum cap (v name) (total cap m after)
total_with cap m v (x ∷ before) name after = sum cap (m x) (total_with cap m v before name after)

-- the size of a separating document from e
abbrev pub OfSeparating : ℕ → Declarations → Declarations → Chars → Cost → Type 0
OfSeparating cap first second e c = (node : Node) × IsSeparating first second e node × (c ≡ cut cap (size node))

-- the sum over names that lead from i to acceptance, with one of them counted by v
abbrev pub OfOneName : ℕ → (Chars → Cost) → (Chars → Cost) → Content → ℕ → Cost → Type 0
OfOneName cap m v a i c =
    (before : List Chars) × (name : Chars) × (after : List Chars) × Runs a i (before ++ name ∷ after) × (c ≡ total_with cap m v before name after)

-- the sum of m over names that lead the first from i to acceptance and not the second from j
abbrev pub OfOddNames : ℕ → (Chars → Cost) → Content → Content → ℕ → ℕ → Cost → Type 0
OfOddNames cap m a b i j c = (names : List Chars) × Runs a i names × (Runs b j names → ⊥) × (c ≡ total cap m names)

-- one list of names, each with a document of the first, leads the contents to these states
abbrev pub IsListed : Declarations → Content → Content → ℕ → ℕ → Type 0
IsListed first a b i j = (names : List Chars) × AllByRecursion (HasDocument first) names × Leads a names i × Leads b names j

-- each cost is none, or one of its family; a pair that is not listed has 0
pub record IsReached (first second : Declarations) (cap : ℕ) (c : Costs) : Type 0 where
  pub m : (e : Chars) → (c.m e ≡ Inf) ⊎ OfDocument cap first e (c.m e)
  pub v : (e : Chars) → (c.v e ≡ Inf) ⊎ OfSeparating cap first second e (c.v e)
  pub p : (e : Chars) (a : Content) (i : ℕ) → content_in first e ≡ Some a → (c.p e i ≡ Inf) ⊎ OfNames cap c.m a i (c.p e i)
  pub f : (e : Chars) (a : Content) (i : ℕ) → content_in first e ≡ Some a → (c.f e i ≡ Inf) ⊎ OfOneName cap c.m c.v a i (c.f e i)
  pub g : (e : Chars) (a b : Content) (i j : ℕ) → content_in first e ≡ Some a → content_in second e ≡ Some b → IsListed first a b i j
      → (c.g e i j ≡ Inf) ⊎ OfOddNames cap c.m a b i j (c.g e i j)
  pub unlisted : (e : Chars) (a b : Content) (i j : ℕ) → content_in first e ≡ Some a → content_in second e ≡ Some b → (IsListed first a b i j → ⊥)
      → c.g e i j ≡ Fin 0

-- the least sizes of documents, and the least sums over names
pub record IsExact (first second : Declarations) (cap : ℕ) (c : Costs) : Type 0 where
  pub m : (e : Chars) → IsLeast (OfDocument cap first e) (c.m e)
  pub v : (e : Chars) → IsLeast (OfSeparating cap first second e) (c.v e)
  pub p : (e : Chars) (a : Content) (i : ℕ) → content_in first e ≡ Some a → IsLeast (OfNames cap c.m a i) (c.p e i)
  pub f : (e : Chars) (a : Content) (i : ℕ) → content_in first e ≡ Some a → IsLeast (OfOneName cap c.m c.v a i) (c.f e i)
  pub g : (e : Chars) (a b : Content) (i j : ℕ) → content_in first e ≡ Some a → content_in second e ≡ Some b → IsListed first a b i j
      → IsLeast (OfOddNames cap c.m a b i j) (c.g e i j)
  pub unlisted : (e : Chars) (a b : Content) (i j : ℕ) → content_in first e ≡ Some a → content_in second e ≡ Some b → (IsListed first a b i j → ⊥)
      → c.g e i j ≡ Fin 0
