-- What comes of a comparison.
use Rattle.std.specs.Prelude.{◌≡◌, ◌≤◌, ◌<◌, ◌+◌, ℕ, Some, None, is_some, IsTrue, Result, Ok, Err}
use Rattle.content_models.specs.Model.{Chars}
use Rattle.document_trees.specs.Trees.{Node}
use Rattle.decl_set.specs.Declarations.{Declarations, content_in}
use Rattle.decl_set.specs.Breaks.{IsFirstBroken}
use Rattle.decl_set.specs.declared.breaks.BrokenDecl.{BrokenDecl}
use Rattle.tree_costs.specs.declared.cost.Cost.{Cost}
use Rattle.tree_costs.specs.declared.cost.Cost.TheVariants.{Fin, Inf}
use Rattle.bound_checker.specs.declared.tables.Tables.{Tables}
use Rattle.bound_checker.specs.Tabled.{costs_of}
use Rattle.tagset_report.specs.Reported.{PassesAt}
use Rattle.comparison_tables.specs.Outcome.{AreExactTables}
use Rattle.article_validator.specs.First.{first_broken}
use Rattle.separating_article.specs.Articles.{text_size}
use Rattle.separating_article.specs.Separating.{HasSeparating, IsChosenOf}
use Rattle.tagset_compare.specs.declared.fault.CompareFault.{CompareFault}
use Rattle.tagset_compare.specs.declared.fault.CompareFault.TheVariants.{RootUndeclared, PairsOver, TextOver, NoMemory}
use Rattle.tagset_compare.specs.declared.outcome.Verdict.{Verdict}
use Rattle.tagset_compare.specs.declared.outcome.Verdict.TheVariants.{Subset, Not, Over}

-- the exact tables of the root, whose v of it is this bound
abbrev pub HasBound : Declarations → Declarations → Chars → ℕ → Tables → Cost → Type 0
HasBound first second root cap tables bound = AreExactTables first second root cap tables × ((costs_of first tables).v root ≡ bound)

-- the chosen separating tree of the root, by exact tables whose v of it is a number up to the cap
abbrev pub IsArticle : Declarations → Declarations → Chars → ℕ → Tables → Node → Type 0
IsArticle first second root cap tables article = AreExactTables first second root cap tables × HasSeparating first tables × IsChosenOf first second tables article

-- the first node of the article, in document order, that does not meet the second set
abbrev pub IsBrokenAt : Declarations → Node → BrokenDecl → Type 0
IsBrokenAt second article broken = first_broken second article ≡ Some broken

-- What comes of a comparison. Exact tables are only those of a root that the first declares.
abbrev pub Compares : Declarations → Declarations → Chars → ℕ → ℕ → Result Verdict CompareFault → Type 0
Compares first second root cap limit (Ok (Subset tables)) = HasBound first second root cap tables Inf
Compares first second root cap limit (Ok (Not article broken tables)) =
    IsArticle first second root cap tables article × (text_size article ≤ limit) × IsBrokenAt second article broken
Compares first second root cap limit (Ok (Over broken tables)) =
    HasBound first second root cap tables (Fin (cap + 1)) × IsFirstBroken first second root broken.element broken.cause
Compares first second root cap limit (Err RootUndeclared) = content_in first root ≡ None
Compares first second root cap limit (Err (PairsOver name)) = IsTrue (is_some (content_in first root)) × PassesAt first second name
Compares first second root cap limit (Err TextOver) =
    (tables : Tables) × (article : Node) × IsArticle first second root cap tables article × (limit < text_size article)
Compares first second root cap limit (Err NoMemory) = Unit {0}
