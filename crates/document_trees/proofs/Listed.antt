-- The nodes of a document as a list.
use Rattle.std.proofs.Common.{◌≡◌, List, [], ◌∷◌, ◌++◌, ℕ, length, arith, length-append, refl}
use Rattle.std.specs.List.{AllByRecursion}
use Rattle.document_trees.specs.Trees.{Attribute, Items, nothing, element, chars, comment, pi, Node, EachBelow, EachNode, IsWellMade, nodes_below, nodes_in, elements_in}
use Rattle.document_trees.specs.Laws.{OfNode, Tested, EachInList, DocumentInList, SizeInList}

pub all-join : {X : Type 0} (P : X → Type 0) (xs ys : List X) → AllByRecursion P xs → AllByRecursion P ys → AllByRecursion P (xs ++ ys)
all-join P [] ys a b = b
all-join P (x ∷ xs) ys a b = (a.0, all-join P xs ys a.1 b)

pub all-part : {X : Type 0} (P : X → Type 0) (xs ys : List X) → AllByRecursion P (xs ++ ys) → AllByRecursion P xs × AllByRecursion P ys
all-part P [] ys a = (tt, a)
all-part P (x ∷ xs) ys a = let r = all-part P xs ys a.1 in ((a.0, r.0), r.1)

module _ (P : List ℕ → List Attribute → Items → Type 0) where
  pub below_listed : (items : Items) → EachBelow P items → AllByRecursion (OfNode P) (nodes_below items)
  below_listed nothing h = tt
  below_listed (element name atts inside later) h = (h.0, all-join (OfNode P) (nodes_below inside) (nodes_below later) (below_listed inside h.1) (below_listed later h.2))
  below_listed (chars text plain later) h = below_listed later h
  below_listed (comment text later) h = below_listed later h
  below_listed (pi target body later) h = below_listed later h

  pub listed_below : (items : Items) → AllByRecursion (OfNode P) (nodes_below items) → EachBelow P items
  listed_below nothing h = tt
  listed_below (element name atts inside later) h =
      let r = all-part (OfNode P) (nodes_below inside) (nodes_below later) h.1 in
      (h.0, listed_below inside r.0, listed_below later r.1)
  listed_below (chars text plain later) h = listed_below later h
  listed_below (comment text later) h = listed_below later h
  listed_below (pi target body later) h = listed_below later h

  -- what holds of each node is what holds of each in the list
  pub each_listed : (node : Node) → EachNode P node → AllByRecursion (OfNode P) (nodes_in node)
  each_listed node h = (h.0, below_listed node.items h.1)

  pub listed_each : (node : Node) → AllByRecursion (OfNode P) (nodes_in node) → EachNode P node
  listed_each node h = (h.0, listed_below node.items h.1)

pub each_in_list : EachInList
each_in_list test node = (each_listed (Tested test) node, listed_each (Tested test) node)

pub document_in_list : DocumentInList
document_in_list node = (each_listed IsWellMade node, listed_each IsWellMade node)

pub length_below : (items : Items) → length (nodes_below items) ≡ elements_in items
length_below nothing = refl
length_below (element name atts inside later) =
    omega (arith, length-append (nodes_below inside) (nodes_below later), length_below inside, length_below later)
length_below (chars text plain later) = length_below later
length_below (comment text later) = length_below later
length_below (pi target body later) = length_below later

pub size_in_list : SizeInList
size_in_list node = omega (arith, length_below node.items)
