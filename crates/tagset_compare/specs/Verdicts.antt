-- What the verdict of a comparison says of all documents.
use Rattle.std.specs.Prelude.{◌≡◌, ◌≤◌, ◌+◌, ℕ, Result, Ok, Err}
use Rattle.content_models.specs.Model.{Chars}
use Rattle.document_trees.specs.Trees.{Node, size}
use Rattle.decl_set.specs.Asked.{IsKept}
use Rattle.decl_set.specs.Declarations.{Declarations}
use Rattle.decl_set.specs.Validity.{IsSeparating, IsSubset}
use Rattle.tree_costs.specs.declared.cost.Cost.{Cost}
use Rattle.tree_costs.specs.declared.cost.Cost.TheVariants.{Fin, Inf}
use Rattle.bound_checker.specs.declared.tables.Tables.{Tables}
use Rattle.bound_checker.specs.Tabled.{costs_of}
use Rattle.exact_tables.specs.Verdicts.{IsOver}
use Rattle.article_tree.specs.Writing.{IsWritable}
use Rattle.tagset_compare.specs.declared.fault.CompareFault.{CompareFault}
use Rattle.tagset_compare.specs.declared.fault.CompareFault.TheVariants.{NoMemory}
use Rattle.tagset_compare.specs.declared.outcome.Verdict.{Verdict}
use Rattle.tagset_compare.specs.declared.outcome.Verdict.TheVariants.{Subset, Not, Over}
use Rattle.tagset_compare.specs.Compared.{Compares}

-- the article separates, no separating document has fewer elements, it has no more than the cap, and what is written of it
-- is read back
pub record IsLeastArticle (first second : Declarations) (root : Chars) (cap : ℕ) (article : Node) : Type 0 where
  pub separating : IsSeparating first second root article
  pub least : (other : Node) → IsSeparating first second root other → size article ≤ size other
  pub within : size article ≤ cap
  pub writable : IsWritable article

-- what the verdict says of all documents
abbrev pub SaysOf : Declarations → Declarations → Chars → ℕ → Verdict → Type 0
SaysOf first second root cap (Subset tables) = IsSubset first second root
SaysOf first second root cap (Not article broken tables) = IsLeastArticle first second root cap article
SaysOf first second root cap (Over broken tables) = IsOver first second root cap

-- the tables that come with it
abbrev pub tables_in : Verdict → Tables
tables_in (Subset tables) = tables
tables_in (Not article broken tables) = tables
tables_in (Over broken tables) = tables

-- the bound that it tells: none, the size of the article, or one above the cap
abbrev pub bound_in : ℕ → Verdict → Cost
bound_in cap (Subset tables) = Inf
bound_in cap (Not article broken tables) = Fin (size article)
bound_in cap (Over broken tables) = Fin (cap + 1)

-- ---- the laws

-- what the verdict says is true
abbrev pub VerdictIsTrue : Type 0
VerdictIsTrue =
    (first second : Declarations) (root : Chars) (cap limit : ℕ) (verdict : Verdict) → IsKept first → IsKept second → Compares first second root cap limit (Ok verdict)
    → SaysOf first second root cap verdict

-- its tables have the bound that it tells
abbrev pub BoundIsTold : Type 0
BoundIsTold =
    (first second : Declarations) (root : Chars) (cap limit : ℕ) (verdict : Verdict) → IsKept first → IsKept second → Compares first second root cap limit (Ok verdict)
    → (costs_of first (tables_in verdict)).v root ≡ bound_in cap verdict

-- two answers are one, unless memory runs out
abbrev pub OneVerdict : Type 0
OneVerdict =
    (first second : Declarations) (root : Chars) (cap limit : ℕ) (result other : Result Verdict CompareFault) → IsKept first → IsKept second
    → Compares first second root cap limit result → Compares first second root cap limit other
    → (result ≡ Err NoMemory → ⊥) → (other ≡ Err NoMemory → ⊥) → result ≡ other
