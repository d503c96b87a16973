-- What an output of `compare` says of all documents, and how it is certified.
use Rattle.std.specs.Prelude.{◌≡◌, ◌+◌, ◌⊎◌, ℕ, List, Some, None, Ok, encode_utf8_all}
use Rattle.document_trees.specs.Trees.{Node, size}
use Rattle.decl_set.specs.Breaks.{IsFirstBroken}
use Rattle.decl_set.specs.Declarations.{Declarations, Entity}
use Rattle.decl_set.specs.Validity.{IsSubset}
use Rattle.decl_set.specs.declared.breaks.BrokenDecl.{BrokenDecl}
use Rattle.tree_costs.specs.declared.cost.Cost.{Cost}
use Rattle.tree_costs.specs.declared.cost.Cost.TheVariants.{Fin, Inf}
use Rattle.bound_checker.specs.Certificates.{read_lines}
use Rattle.bound_checker.specs.Lines.{lines_of}
use Rattle.bound_checker.specs.Tabled.{costs_of}
use Rattle.bound_checker.specs.Tests.{first_broken}
use Rattle.bound_checker.specs.declared.tables.Tables.{Tables}
use Rattle.exact_tables.specs.Verdicts.{IsOver}
use Rattle.article_tree.specs.Decoding.{article_from}
use Rattle.article_tree.specs.Writing.{write}
use Rattle.jats_io.specs.Loads.{held}
use Rattle.module_reader.specs.Sources.{Files}
use Rattle.tagset_compare.specs.Compared.{IsBrokenAt}
use Rattle.tagset_compare.specs.Verdicts.{IsLeastArticle}
use Rattle.tagset_tool.specs.Law.{IsCompared, IsTooLong}
use Rattle.tagset_tool.specs.Output.{IsOutput}
use Rattle.tagset_tool.specs.Words.{SetWords, asked, set_by, verify}
use Rattle.tagset_tool.specs.commands.Compare.{above_lines, article_lines, subset_lines}
use Rattle.tagset_tool.specs.commands.Verify.{claim}

-- ---- the certificate

-- these tables are read from the text of the bytes and accepted for two sets, and v of their root is this bound
pub record Certifies (first second : Declarations) (bytes : List ℕ) (tables : Tables) (bound : Cost) : Type 0 where
  pub text : List ℕ
  pub encoded : bytes ≡ encode_utf8_all text
  pub found : read_lines first second (lines_of text) ≡ Ok tables
  pub accepted : first_broken first second tables ≡ None
  pub bound_is : (costs_of first tables).v tables.root ≡ bound

-- `verify` of a file with these bytes, by whatever words and files that give the two sets, claims the bound
abbrev pub IsVerified : Declarations → Declarations → List ℕ → Cost → Type 0
IsVerified first second bytes bound =
    (words : List (List ℕ)) (files : Files) (name : List ℕ) (one other : SetWords) → asked words ≡ Some (verify name one other)
    → set_by files one ≡ Ok first → set_by files other ≡ Ok second → held files name ≡ Some bytes → IsOutput words files 0 (claim bound)

-- ---- the outputs

-- what is written of the article is read back, whatever its file is named and whatever entities are declared
abbrev pub IsReadBack : Node → Type 0
IsReadBack article = (entities : List Entity) (name : List ℕ) → article_from entities name (encode_utf8_all (write article)) ≡ Ok article

-- no document separates, and the output says so
pub record SaysAll (first second : Declarations) (root bytes : List ℕ) : Type 0 where
  pub subset : IsSubset first second root
  pub tables : Tables
  pub lines : bytes ≡ subset_lines first tables
  pub certified : Certifies first second bytes tables Inf
  pub verified : IsVerified first second bytes Inf

-- the article of the output separates, no separating document has fewer elements, it has no more than the cap, and it is
-- read back; the broken line is of its first node that does not meet the second set
pub record ShowsArticle (first second : Declarations) (root : List ℕ) (cap : ℕ) (bytes : List ℕ) : Type 0 where
  pub article : Node
  pub least : IsLeastArticle first second root cap article
  pub read_back : IsReadBack article
  pub broken : BrokenDecl
  pub breaks : IsBrokenAt second article broken
  pub tables : Tables
  pub lines : bytes ≡ article_lines first article broken tables
  pub certified : Certifies first second bytes tables (Fin (size article))
  pub verified : IsVerified first second bytes (Fin (size article))

-- there is a separating document, and each has more elements than the cap; the broken line is of the first useful element
-- that breaks
pub record SaysAbove (first second : Declarations) (root : List ℕ) (cap : ℕ) (bytes : List ℕ) : Type 0 where
  pub over : IsOver first second root cap
  pub broken : BrokenDecl
  pub breaks : IsFirstBroken first second root broken.element broken.cause
  pub tables : Tables
  pub lines : bytes ≡ above_lines first cap broken tables
  pub certified : Certifies first second bytes tables (Fin (cap + 1))
  pub verified : IsVerified first second bytes (Fin (cap + 1))

pub record Headline (first second : Declarations) (root : List ℕ) (cap status : ℕ) (bytes : List ℕ) : Type 0 where
  pub one_of : IsTooLong status bytes ⊎ ((status ≡ 0) ⊎ (status ≡ 1))
  pub subset : status ≡ 0 → SaysAll first second root bytes
  pub separate : status ≡ 1 → ShowsArticle first second root cap bytes ⊎ SaysAbove first second root cap bytes

abbrev pub HeadlineLaw : Type 0
HeadlineLaw =
    (words : List (List ℕ)) (files : Files) (first second : Declarations) (root : List ℕ) (cap status : ℕ) (bytes : List ℕ)
    → IsCompared words files first second root cap → IsOutput words files status bytes → Headline first second root cap status bytes
