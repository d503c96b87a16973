-- Items of a program as items of a document.
use Rattle.std.proofs.Common.{◌≡◌, List, [], ◌∷◌, ◌++◌, ap, sym, ◌∙◌, refl}
use Rattle.document_trees.specs.Trees.{nothing, element, chars, comment, pi, joined}
use Rattle.document_trees.specs.Seen.{items_of, items_for}
use Rattle.document_trees.specs.Laws.{OneList, EachHasList}
use Rattle.document_trees.specs.declared.nodes.Item.{Item}
use Rattle.document_trees.specs.declared.nodes.Item.TheVariants.{Element, Chars, Comment, Pi}

pub items_joined : (items others : List Item) → items_of (items ++ others) ≡ joined (items_of items) (items_of others)
items_joined [] others = refl
items_joined (Element node ∷ items) others = ap (element node.name node.atts node.items) (items_joined items others)
items_joined (Chars text plain ∷ items) others = ap (chars text plain) (items_joined items others)
items_joined (Comment text ∷ items) others = ap (comment text) (items_joined items others)
items_joined (Pi target body ∷ items) others = ap (pi target body) (items_joined items others)

pub for_of : (items : List Item) → items_for (items_of items) ≡ items
for_of [] = refl
for_of (Element node ∷ items) = ap (λ k. Element node ∷ k) (for_of items)
for_of (Chars text plain ∷ items) = ap (λ k. Chars text plain ∷ k) (for_of items)
for_of (Comment text ∷ items) = ap (λ k. Comment text ∷ k) (for_of items)
for_of (Pi target body ∷ items) = ap (λ k. Pi target body ∷ k) (for_of items)

pub of_for : EachHasList
of_for nothing = refl
of_for (element name atts inside later) = ap (element name atts inside) (of_for later)
of_for (chars text plain later) = ap (chars text plain) (of_for later)
of_for (comment text later) = ap (comment text) (of_for later)
of_for (pi target body later) = ap (pi target body) (of_for later)

-- two lists of items that are the same items of a document are equal
pub items_same : OneList
items_same items others e = sym (for_of items) ∙ ap items_for e ∙ for_of others
