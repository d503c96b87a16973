-- The costs of one set of declarations whose least ones a table holds.
use Rattle.std.specs.Prelude.{◌≡◌, ℕ, List, Some}
use Rattle.content_models.specs.declared.content.Content.{Content}
use Rattle.content_models.specs.Model.{Chars}
use Rattle.document_trees.specs.Trees.{Node, IsDocument, size}
use Rattle.position_automata.specs.Runs.{Runs}
use Rattle.decl_set.specs.Declarations.{Declarations, content_in}
use Rattle.decl_set.specs.Validity.{IsValid}
use Rattle.tree_costs.specs.declared.cost.Cost.{Cost}
use Rattle.tree_costs.specs.Costs.{cut, total, IsLeast}

-- the size of a document from e
abbrev pub OfDocument : ℕ → Declarations → Chars → Cost → Type 0
OfDocument cap set e c = (node : Node) × IsDocument node × IsValid set e node × (c ≡ cut cap (size node))

-- the sum of m over names that lead from state i to acceptance
abbrev pub OfNames : ℕ → (Chars → Cost) → Content → ℕ → Cost → Type 0
OfNames cap m a i c = (names : List Chars) × Runs a i names × (c ≡ total cap m names)

-- m is the least size of documents, and p the least sum of m from each state to acceptance
pub record AreExact (set : Declarations) (cap : ℕ) (m : Chars → Cost) (p : Chars → ℕ → Cost) : Type 0 where
  pub sizes : (e : Chars) → IsLeast (OfDocument cap set e) (m e)
  pub sums : (e : Chars) (a : Content) (i : ℕ) → content_in set e ≡ Some a → IsLeast (OfNames cap m a i) (p e i)
