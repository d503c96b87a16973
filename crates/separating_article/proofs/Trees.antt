-- What the laws of least and chosen trees say of articles.
use Rattle.std.proofs.Common.{◌≡◌, ◌≤◌, ℕ, suc, ◌+◌, Bool, true, false, not, eqb, ◌&&◌, ◌||◌, List, [], ◌∷◌, refl, ap, arith}
use Rattle.std.proofs.lemmas.Bool.{and_from, and_parts}
use Rattle.content_models.specs.Model.{Chars}
use Rattle.document_trees.specs.Trees.{Items, nothing, element, chars, comment, pi, Node, EachBelow, is_white}
use Rattle.decl_set.specs.Declarations.{Declarations}
use Rattle.tree_costs.specs.Leasts.{m_of, p_of}
use Rattle.bound_checker.specs.Tabled.{costs_of}
use Rattle.exact_tables.specs.LeastTrees.{IsWritten, are_written, begins_run, has_cr, is_filled, depth, IsBuilt}
use Rattle.exact_tables.proofs.Choosing.{one_least_tree, one_chosen}
use Rattle.exact_tables.proofs.Chosen.{least_tree_is_built, chosen_is_built}
use Rattle.exact_tables.proofs.Existing.{chosen_exists}
use Rattle.exact_tables.proofs.Growing.{least_tree_exists}
use Rattle.article_tree.specs.Writing.{has_no_return, IsApart, AreWritable, IsWritable}
use Rattle.separating_article.specs.Articles.{OneLeastArticle, LeastArticleExists, LeastArticleIsBuilt, LeastArticleIsWritable}
use Rattle.separating_article.specs.Separating.{OneChosenArticle, ChosenArticleExists, ChosenArticleIsBuilt, ChosenArticleIsWritable}

-- ---- what is built is writable

not_both : (b : Bool) → not b ≡ true → b ≡ false
not_both true h = cc
not_both false h = refl

or_neither : (a b : Bool) → (a || b) ≡ false → (a ≡ false) × (b ≡ false)
or_neither true b h = cc
or_neither false b h = (refl, h)

no_return : (text : List ℕ) → has_cr text ≡ false → has_no_return text ≡ true
no_return [] h = refl
no_return (c ∷ text) h =
    let t = or_neither (eqb c 13) (has_cr text) h in
    and_from (not (eqb c 13)) (has_no_return text) (ap not t.0) (no_return text t.1)

apart : (items : Items) → begins_run items ≡ false → IsApart items
apart nothing h = tt
apart (element name atts inside later) h = tt
apart (chars text plain later) h = cc
apart (comment text later) h = tt
apart (pi target body later) h = tt

filled : (text : List ℕ) → is_filled text ≡ true → text ≡ [] → ⊥
filled [] h q = cc
filled (c ∷ text) h q = cc

-- runs that can be written and no more open elements than there may be
writable : (around : ℕ) (items : Items) → are_written items ≡ true → EachBelow IsWritten items → around + depth items ≤ 2048 → AreWritable around items
writable around nothing h e l = tt
writable around (element name atts inside later) h e l = (
  omega arith,
  writable (suc around) inside e.0.1 e.1 (omega arith),
  writable around later h e.2 (omega arith),
)
writable around (chars text true later) h e l =
    let a = and_parts (is_white text) (is_filled text && (not (has_cr text) && (not (begins_run later) && are_written later))) h in
    let b = and_parts (is_filled text) (not (has_cr text) && (not (begins_run later) && are_written later)) a.1 in
    let c = and_parts (not (has_cr text)) (not (begins_run later) && are_written later) b.1 in
    let d = and_parts (not (begins_run later)) (are_written later) c.1 in (
      filled text b.0,
      no_return text (not_both (has_cr text) c.0),
      apart later (not_both (begins_run later) d.0),
      writable around later d.1 e l,
    )
writable around (chars text false later) h e l =
    let d = and_parts (not (begins_run later)) (are_written later) h in
    (apart later (not_both (begins_run later) d.0), writable around later d.1 e l)
writable around (comment text later) h e l = cc
writable around (pi target body later) h e l = cc

built_writable : (open_ones : ℕ) (set : Declarations) (e : Chars) (n : ℕ) (node : Node) → open_ones ≤ 2048 → IsBuilt open_ones set e n node → IsWritable node
built_writable open_ones set e n node few b =
    let shallow = b.shallow in
    let w = b.written in
    (b.document, writable 1 node.items w.0.1 w.1 (omega (arith, few, shallow)))

-- ---- least articles

pub one_least_article : OneLeastArticle
one_least_article set least root = one_least_tree set least.cap (m_of set least) (p_of set least) root

pub least_article_exists : LeastArticleExists
least_article_exists set least root kept exact size = least_tree_exists set least.cap (m_of set least) (p_of set least) kept exact.costs root size.0 size.2 size.1

pub least_article_is_built : LeastArticleIsBuilt
least_article_is_built set least root n kept exact q l = least_tree_is_built set least.cap (m_of set least) (p_of set least) kept exact.costs root n l q

pub least_article_is_writable : LeastArticleIsWritable
least_article_is_writable set least root kept exact size node h =
    built_writable 1024 set root size.0 node (omega arith) (least_article_is_built set least root size.0 kept exact size.1 size.2 node h)

-- ---- separating articles

pub one_chosen_article : OneChosenArticle
one_chosen_article first second tables = one_chosen first second tables.cap (costs_of first tables) tables.root

pub chosen_article_exists : ChosenArticleExists
chosen_article_exists first second tables kept other exact size =
    chosen_exists first second tables.cap (costs_of first tables) kept other exact tables.root size.0 size.2 size.1

pub chosen_article_is_built : ChosenArticleIsBuilt
chosen_article_is_built first second tables n kept other exact q l =
    chosen_is_built first second tables.cap (costs_of first tables) kept other exact tables.root n l q

pub chosen_article_is_writable : ChosenArticleIsWritable
chosen_article_is_writable first second tables kept other exact size node h =
    let b = chosen_article_is_built first second tables size.0 kept other exact size.1 size.2 node h in
    built_writable 2048 first tables.root size.0 node (omega arith) b.0
