-- The trees that are chosen, and the ways along which they go on.
use Rattle.std.specs.Prelude.{◌≡◌, Bool, true, false, List, Some}
use Rattle.content_models.specs.declared.content.Content.{Content}
use Rattle.content_models.specs.Model.{Chars}
use Rattle.document_trees.specs.Trees.{Attribute, Items, Node}
use Rattle.decl_set.specs.Declarations.{content_in}
use Rattle.exact_tables.specs.LeastTrees.{LeastFrom, IsLeastTop}
use Rattle.exact_tables.specs.Chosen.{OddFrom, WrongFrom, IsChosenTop}
use Rattle.separating_article.specs.declared.choosing.Path.{Path}
use Rattle.separating_article.specs.declared.choosing.Path.TheVariants.{Own, Wrong, Pair}
use Rattle.separating_article.specs.declared.guide.Guide.{Guide}
use Rattle.separating_article.specs.Guides.{costs_in}

-- the attributes and items of the tree of e that is chosen: a least one, or one that separates
abbrev pub IsTop : Guide → Bool → Chars → List Attribute → Items → Type 0
IsTop guide false e atts items = IsLeastTop guide.first.now guide.cap (costs_in guide).m (costs_in guide).p e atts items
IsTop guide true e atts items = IsChosenTop guide.first.now guide.second.now guide.cap (costs_in guide) e atts items

-- the items that come along P from a state of a content of e, along F, or along G from a pair of states
abbrev pub Follows : Guide → Path → Chars → Content → Items → Type 0
Follows guide (Own i) e a items = LeastFrom guide.first.now guide.cap (costs_in guide).m (costs_in guide).p e a i items
Follows guide (Wrong i) e a items = WrongFrom guide.first.now guide.second.now guide.cap (costs_in guide) e a i items
Follows guide (Pair i j) e a items =
    (b : Content) × (content_in guide.second.now e ≡ Some b) × OddFrom guide.first.now guide.second.now guide.cap (costs_in guide) e a b i j items

-- the tree of e that is chosen
abbrev pub IsTreeOf : Guide → Bool → Chars → Node → Type 0
IsTreeOf guide separates e node = (node.name ≡ e) × IsTop guide separates e node.atts node.items
