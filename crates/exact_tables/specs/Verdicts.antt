-- What exact costs say of documents and of contents.
use Rattle.std.specs.Prelude.{◌≡◌, ◌≤◌, ◌<◌, ◌+◌, ℕ, Some, ◌↔◌}
use Rattle.content_models.specs.declared.content.Content.{Content}
use Rattle.content_models.specs.Model.{Chars}
use Rattle.document_trees.specs.Trees.{Node, size}
use Rattle.decl_set.specs.Declarations.{Declarations, content_in}
use Rattle.decl_set.specs.Validity.{IsSeparating, IsSubset, HasDocument}
use Rattle.decl_set.specs.Breaks.{ContentBreaks}
use Rattle.tree_costs.specs.declared.cost.Cost.{Cost}
use Rattle.tree_costs.specs.declared.cost.Cost.TheVariants.{Fin, Inf}
use Rattle.bound_checker.specs.Tabled.{Costs}
use Rattle.exact_tables.specs.Families.{IsExact}

-- an element has no document exactly where m has no number
abbrev pub DocumentsTold : Type 0
DocumentsTold = (first second : Declarations) (cap : ℕ) (c : Costs) → IsExact first second cap c → (e : Chars) → (c.m e ≡ Inf) ↔ (HasDocument first e → ⊥)

-- a separating document of this size, and none has fewer elements
abbrev pub IsLeastSeparating : Declarations → Declarations → Chars → ℕ → Type 0
IsLeastSeparating first second root n =
    (node : Node) × IsSeparating first second root node × (size node ≡ n) × ((other : Node) → IsSeparating first second root other → n ≤ size other)

-- there is a separating document, and each has more elements than this
abbrev pub IsOver : Declarations → Declarations → Chars → ℕ → Type 0
IsOver first second root cap =
    (node : Node) × IsSeparating first second root node × ((other : Node) → IsSeparating first second root other → cap < size other)

pub record IsVerdict (first second : Declarations) (cap : ℕ) (root : Chars) (v : Cost) : Type 0 where
  pub subset : (v ≡ Inf) ↔ IsSubset first second root
  pub least : (n : ℕ) → n ≤ cap → (v ≡ Fin n) ↔ IsLeastSeparating first second root n
  pub over : (v ≡ Fin (cap + 1)) ↔ IsOver first second root cap

-- the verdict is told by v of the root
abbrev pub VerdictTold : Type 0
VerdictTold = (first second : Declarations) (cap : ℕ) (c : Costs) → IsExact first second cap c → (root : Chars) → IsVerdict first second cap root (c.v root)

-- a content does not break exactly where G of the pair of starts has no number
abbrev pub ContentTold : Type 0
ContentTold =
    (first second : Declarations) (cap : ℕ) (c : Costs) → IsExact first second cap c → (e : Chars) (a b : Content) → content_in first e ≡ Some a → content_in second e ≡ Some b
    → (c.g e 0 0 ≡ Inf) ↔ (ContentBreaks first a b → ⊥)
