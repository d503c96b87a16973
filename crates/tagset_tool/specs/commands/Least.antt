-- least: the smallest article that a set allows from a root.
use Rattle.std.specs.Prelude.{◌≡◌, ℕ, Bool, true, false, List, [], ◌∷◌, ◌++◌, Option, Some, None, codes, encode_utf8_all, nat_le}
use Rattle.std.specs.Fmt.{decimal}
use Rattle.content_models.specs.declared.content.Content.{Content}
use Rattle.document_trees.specs.Trees.{Node}
use Rattle.decl_set.specs.Declarations.{Declarations, content_in}
use Rattle.tree_costs.specs.declared.cost.Cost.{Cost}
use Rattle.tree_costs.specs.declared.cost.Cost.TheVariants.{Fin, Inf}
use Rattle.tree_costs.specs.declared.least.Least.{Least}
use Rattle.tree_costs.specs.Leasts.{IsExact, m_of}
use Rattle.article_tree.specs.Writing.{write}
use Rattle.separating_article.specs.Articles.{IsLeastOf}
use Rattle.module_reader.specs.Sources.{Files}
use Rattle.tagset_tool.specs.Outcomes.{Outcome, after, answering, fitting, refusing}
use Rattle.tagset_tool.specs.Refusals.{root_undeclared}
use Rattle.tagset_tool.specs.Words.{SetWords, set_by}

abbrev pub none_line : List ℕ
none_line = codes "none" ++ 10 ∷ []

-- every document has more elements than the cap
abbrev pub above_line : ℕ → List ℕ
above_line cap = codes "above " ++ (decimal cap ++ 10 ∷ [])

-- how many elements an article has
abbrev pub least_line : ℕ → List ℕ
least_line n = codes "least " ++ (decimal n ++ 10 ∷ [])

-- the number of elements, and the article
abbrev pub least_text : ℕ → Node → List ℕ
least_text n node = least_line n ++ (encode_utf8_all (write node) ++ 10 ∷ [])

-- a size that is within the cap or not
abbrev pub sized : Declarations → Least → List ℕ → ℕ → Bool → Outcome
sized set least root n false status bytes = answering 0 (above_line least.cap) status bytes
sized set least root n true status bytes = (node : Node) × IsLeastOf set least root node × fitting 0 (least_text n node) status bytes

-- by the least size of the root; without one there is no document
abbrev pub by_size : Declarations → Least → List ℕ → Cost → Outcome
by_size set least root Inf status bytes = answering 1 none_line status bytes
by_size set least root (Fin n) status bytes = sized set least root n (nat_le n least.cap) status bytes

-- by the exact least costs, cut at one above the cap
abbrev pub by_costs : Declarations → List ℕ → ℕ → Outcome
by_costs set root cap status bytes = (least : Least) × (least.cap ≡ cap) × IsExact set least × by_size set least root (m_of set least root) status bytes

abbrev pub least_from : Declarations → List ℕ → ℕ → Option Content → Outcome
least_from set root cap None status bytes = refusing (root_undeclared root) status bytes
least_from set root cap (Some content) status bytes = by_costs set root cap status bytes

-- over a set
abbrev pub least_in : List ℕ → ℕ → Declarations → Outcome
least_in root cap set = least_from set root cap (content_in set root)

abbrev pub leasts : Files → SetWords → List ℕ → ℕ → Outcome
leasts files words root cap = after (set_by files words) (least_in root cap)
