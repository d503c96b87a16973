-- The laws.
use Rattle.std.proofs.Common.{◌≡◌, ◌∙◌, ◌↔◌, ◌≤◌, ◌+◌, ℕ, List, length, Some, Ok, [], Result, ap, sym, subst}
use Rattle.std.specs.Prelude.{IsTrue}
use Rattle.std.specs.List.{list_all}
use Rattle.jats_fault.specs.declared.fault.Fault.{Fault}
use Rattle.document_trees.specs.Trees.{Items, Node, IsDocument, are_chars}
use Rattle.decl_set.specs.Asked.{is_entity_kept}
use Rattle.decl_set.specs.Declarations.{Entity}
use Rattle.article_tree.specs.Content.{Pieces, items_of}
use Rattle.article_tree.specs.Tokens.{Token, Begins}
use Rattle.article_tree.specs.Taking.{first_token}
use Rattle.article_tree.specs.Stops.{Standing}
use Rattle.article_tree.specs.Words.{Names}
use Rattle.article_tree.specs.Reading.{content, article_of}
use Rattle.article_tree.specs.Grammar.{IsContent, IsArticle}
use Rattle.article_tree.proofs.TokensFound.{taken}
use Rattle.article_tree.proofs.TokensTaken.{takes}
use Rattle.article_tree.proofs.Complete.{gives, text_given}
use Rattle.article_tree.proofs.Sound.{founds}
use Rattle.article_tree.specs.Runs.{AreApart}
use Rattle.article_tree.proofs.Articles.{article_found, article_given}
use Rattle.article_tree.proofs.Documents.{article_made, items_apart}

pub tokens : (token : Token) (text rest : List ℕ) → (first_token text ≡ Some (token, rest)) ↔ Begins token text rest
tokens token text rest = (taken token text rest, takes token text rest)

pub contents : (entities : List Entity) (levels : ℕ) (names : Names) (depth : ℕ) (c : Standing) (before : ℕ) (text : List ℕ) (items : Items) (after : ℕ) → levels + length names ≡ 33 → length names ≤ 32
    → (content levels entities names depth c before text ≡ Ok (items, after)) ↔ ((p : Pieces) × IsContent entities names depth p before text after × (items ≡ items_of p))
contents entities levels names depth c before text items after room few = (
  founds takes taken entities levels names depth c before text (items, after),
  λ (p, is, same). text_given takes entities p (gives takes entities p) levels names depth c before text after room few is ∙ ap (λ (x : Items). Ok (x, after)) (sym same),
)

pub articles : (entities : List Entity) (article text : List ℕ) (node : Node) → (article_of entities article text ≡ Ok node) ↔ IsArticle entities text node
articles entities article text node = (article_found entities article text node, article_given entities article text node)

pub one : (entities : List Entity) (text : List ℕ) (first second : Node) → IsArticle entities text first → IsArticle entities text second → first ≡ second
one entities text first second is other = same first second (sym (article_given entities [] text first is) ∙ article_given entities [] text second other)
  where
    node_ok : Node → Result Node Fault
    node_ok node = Ok node

    same : (a b : Node) → node_ok a ≡ node_ok b → a ≡ b
    same a b e = cc

pub documents : (entities : List Entity) (text : List ℕ) (node : Node) → IsTrue (list_all is_entity_kept entities) → IsTrue (are_chars text) → IsArticle entities text node → IsDocument node × AreApart node.items
documents entities text node kept all is = (article_made entities kept text node all is, subst AreApart (sym is.items) (items_apart is.inside))
