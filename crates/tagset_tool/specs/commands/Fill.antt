-- fill: an article with the defaults that a reader of the set sees, and LF.
use Rattle.std.specs.Prelude.{ℕ, List, [], ◌∷◌, ◌++◌, encode_utf8_all}
use Rattle.document_trees.specs.Trees.{Node}
use Rattle.decl_set.specs.Declarations.{Declarations}
use Rattle.article_files.specs.Bytes.{article_in}
use Rattle.article_tree.specs.Writing.{write}
use Rattle.article_validator.specs.Filling.{filled}
use Rattle.module_reader.specs.Sources.{Files}
use Rattle.tagset_tool.specs.Outcomes.{Outcome, after, fitting}
use Rattle.tagset_tool.specs.Words.{SetWords, set_by}

-- the text of the filled article
abbrev pub filled_text : Declarations → Node → List ℕ
filled_text set node = encode_utf8_all (write (filled set node)) ++ 10 ∷ []

-- over a set
abbrev pub fills_by : Files → List ℕ → Declarations → Outcome
fills_by files article set = after (article_in files set.entities article) (λ node. fitting 0 (filled_text set node))

abbrev pub fills : Files → SetWords → List ℕ → Outcome
fills files words article = after (set_by files words) (fills_by files article)
