-- Runs as long as can be.
use Rattle.document_trees.specs.Trees.{Items, nothing, element, chars, comment, pi}
use Rattle.article_tree.specs.Writing.{IsApart}

-- no two runs stand side by side
abbrev pub AreApart : Items → Type 0
AreApart nothing = Unit {0}
AreApart (element name atts inside later) = AreApart inside × AreApart later
AreApart (chars text plain later) = IsApart later × AreApart later
AreApart (comment text later) = AreApart later
AreApart (pi target body later) = AreApart later
