-- The least article of an element.
use Rattle.std.specs.Prelude.{◌≡◌, ◌≤◌, ◌<◌, ℕ, length, encode_utf8_all, Result, Ok, Err}
use Rattle.content_models.specs.Model.{Chars}
use Rattle.document_trees.specs.Trees.{Node}
use Rattle.decl_set.specs.Asked.{IsKept}
use Rattle.decl_set.specs.Declarations.{Declarations}
use Rattle.tree_costs.specs.declared.cost.Cost.TheVariants.{Fin}
use Rattle.tree_costs.specs.declared.least.Least.{Least}
use Rattle.tree_costs.specs.Leasts.{m_of, p_of, IsExact}
use Rattle.exact_tables.specs.LeastTrees.{IsLeastTree, IsBuilt}
use Rattle.article_tree.specs.Writing.{IsWritable, write}
use Rattle.separating_article.specs.declared.fault.BuildOver.{BuildOver}
use Rattle.separating_article.specs.declared.fault.BuildOver.TheVariants.{TextOver, NoMemory}

-- the least size of the element is a number up to the cap
abbrev pub HasLeast : Declarations → Least → Chars → Type 0
HasLeast set least root = (n : ℕ) × (m_of set least root ≡ Fin n) × (n ≤ least.cap)

-- the least tree of the element, by the table
abbrev pub IsLeastOf : Declarations → Least → Chars → Node → Type 0
IsLeastOf set least root node = IsLeastTree set least.cap (m_of set least) (p_of set least) root node

-- how many bytes an article has
abbrev pub text_size : Node → ℕ
text_size node = length (encode_utf8_all (write node))

-- the least tree where its text is within the limit, and no tree where it has more bytes
abbrev pub Builds : Declarations → Least → Chars → ℕ → Result Node BuildOver → Type 0
Builds set least root limit (Ok node) = IsLeastOf set least root node × (text_size node ≤ limit)
Builds set least root limit (Err TextOver) = (node : Node) × IsLeastOf set least root node × (limit < text_size node)
Builds set least root limit (Err NoMemory) = Unit {0}

-- two least trees of an element are equal
abbrev pub OneLeastArticle : Type 0
OneLeastArticle = (set : Declarations) (least : Least) (root : Chars) (x y : Node) → IsLeastOf set least root x → IsLeastOf set least root y → x ≡ y

-- by an exact table there is one where the least size is a number up to the cap
abbrev pub LeastArticleExists : Type 0
LeastArticleExists =
    (set : Declarations) (least : Least) (root : Chars) → IsKept set → IsExact set least → HasLeast set least root → (node : Node) × IsLeastOf set least root node

-- it is a document that is valid from the element, of that size, with runs that can be written and at most 1,024 elements
-- open
abbrev pub LeastArticleIsBuilt : Type 0
LeastArticleIsBuilt =
    (set : Declarations) (least : Least) (root : Chars) (n : ℕ) → IsKept set → IsExact set least → m_of set least root ≡ Fin n → n ≤ least.cap
    → (node : Node) → IsLeastOf set least root node → IsBuilt 1024 set root n node

-- and so it is writable: what is written of it is read back
abbrev pub LeastArticleIsWritable : Type 0
LeastArticleIsWritable =
    (set : Declarations) (least : Least) (root : Chars) → IsKept set → IsExact set least → HasLeast set least root
    → (node : Node) → IsLeastOf set least root node → IsWritable node
