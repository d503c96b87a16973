-- The chosen separating article of two sets.
use Rattle.std.specs.Prelude.{◌≡◌, ◌≤◌, ◌<◌, ℕ, Result, Ok, Err}
use Rattle.document_trees.specs.Trees.{Node}
use Rattle.decl_set.specs.Asked.{IsKept}
use Rattle.decl_set.specs.Declarations.{Declarations}
use Rattle.decl_set.specs.Validity.{IsSeparating}
use Rattle.tree_costs.specs.declared.cost.Cost.TheVariants.{Fin}
use Rattle.bound_checker.specs.declared.tables.Tables.{Tables}
use Rattle.bound_checker.specs.Tabled.{costs_of}
use Rattle.exact_tables.specs.Chosen.{IsChosen}
use Rattle.exact_tables.specs.Families.{IsExact}
use Rattle.exact_tables.specs.LeastTrees.{IsBuilt}
use Rattle.article_tree.specs.Writing.{IsWritable}
use Rattle.separating_article.specs.Articles.{text_size}
use Rattle.separating_article.specs.declared.fault.BuildOver.{BuildOver}
use Rattle.separating_article.specs.declared.fault.BuildOver.TheVariants.{TextOver, NoMemory}

-- v of the root is a number up to the cap
abbrev pub HasSeparating : Declarations → Tables → Type 0
HasSeparating first tables = (n : ℕ) × ((costs_of first tables).v tables.root ≡ Fin n) × (n ≤ tables.cap)

-- the tables hold the exact costs of the two sets
abbrev pub AreExact : Declarations → Declarations → Tables → Type 0
AreExact first second tables = IsExact first second tables.cap (costs_of first tables)

-- the chosen separating tree of the root, by the tables
abbrev pub IsChosenOf : Declarations → Declarations → Tables → Node → Type 0
IsChosenOf first second tables node = IsChosen first second tables.cap (costs_of first tables) tables.root node

-- the chosen tree where its text is within the limit, and no tree where it has more bytes
abbrev pub Separates : Declarations → Declarations → Tables → ℕ → Result Node BuildOver → Type 0
Separates first second tables limit (Ok node) = IsChosenOf first second tables node × (text_size node ≤ limit)
Separates first second tables limit (Err TextOver) = (node : Node) × IsChosenOf first second tables node × (limit < text_size node)
Separates first second tables limit (Err NoMemory) = Unit {0}

-- two chosen trees are equal
abbrev pub OneChosenArticle : Type 0
OneChosenArticle =
    (first second : Declarations) (tables : Tables) (x y : Node) → IsChosenOf first second tables x → IsChosenOf first second tables y → x ≡ y

-- by exact tables there is one where v of the root is a number up to the cap
abbrev pub ChosenArticleExists : Type 0
ChosenArticleExists =
    (first second : Declarations) (tables : Tables) → IsKept first → IsKept second → AreExact first second tables → HasSeparating first tables
    → (node : Node) × IsChosenOf first second tables node

-- it is a document that is valid in the first, of that size, with at most 2,048 elements open, and it is not valid in the
-- second
abbrev pub ChosenArticleIsBuilt : Type 0
ChosenArticleIsBuilt =
    (first second : Declarations) (tables : Tables) (n : ℕ) → IsKept first → IsKept second → AreExact first second tables
    → (costs_of first tables).v tables.root ≡ Fin n → n ≤ tables.cap → (node : Node) → IsChosenOf first second tables node
    → IsBuilt 2048 first tables.root n node × IsSeparating first second tables.root node

-- and it is writable: what is written of it is read back
abbrev pub ChosenArticleIsWritable : Type 0
ChosenArticleIsWritable =
    (first second : Declarations) (tables : Tables) → IsKept first → IsKept second → AreExact first second tables → HasSeparating first tables
    → (node : Node) → IsChosenOf first second tables node → IsWritable node
