-- What the definitions of documents say together.
use Rattle.std.specs.Prelude.{◌≡◌, List, ℕ, length, Bool, IsTrue}
use Rattle.std.specs.List.{AllByRecursion}
use Rattle.document_trees.specs.Trees.{Attribute, Items, Node, EachNode, IsWellMade, IsDocument, nodes_in, size, child_names, elements_in, depth_below, nodes_below, elements_alone, runs_plain, are_items, bare}
use Rattle.document_trees.specs.Seen.{items_of, items_for}
use Rattle.document_trees.specs.declared.nodes.Item.{Item}

-- what holds of a node, of its name, its attributes and its items
abbrev pub OfNode : (List ℕ → List Attribute → Items → Type 0) → Node → Type 0
OfNode P node = P node.name node.atts node.items

-- a test of a node
abbrev pub Tested : (List ℕ → List Attribute → Items → Bool) → List ℕ → List Attribute → Items → Type 0
Tested test name atts items = IsTrue (test name atts items)

-- each node passes a test exactly where each in the list of them does
abbrev pub EachInList : Type 0
EachInList =
    (test : List ℕ → List Attribute → Items → Bool) (node : Node)
    → (EachNode (Tested test) node → AllByRecursion (OfNode (Tested test)) (nodes_in node))
    × (AllByRecursion (OfNode (Tested test)) (nodes_in node) → EachNode (Tested test) node)

-- a document is one where each in the list of its nodes is well made
abbrev pub DocumentInList : Type 0
DocumentInList =
    (node : Node)
    → (IsDocument node → AllByRecursion (OfNode IsWellMade) (nodes_in node)) × (AllByRecursion (OfNode IsWellMade) (nodes_in node) → IsDocument node)

-- there are as many nodes in the list as the document is large
abbrev pub SizeInList : Type 0
SizeInList = (node : Node) → length (nodes_in node) ≡ size node

-- where elements stand alone, each run is plain, and the items are well made
abbrev pub AlonePlain : Type 0
AlonePlain = (items : Items) → IsTrue (elements_alone items) → IsTrue (runs_plain items) × IsTrue (are_items items)

-- of the elements alone these are the same: the names of the children, the nodes below and so their number, and the depth
pub record IsBared (items : Items) : Type 0 where
  pub alone : IsTrue (elements_alone (bare items))
  pub names : child_names (bare items) ≡ child_names items
  pub nodes : nodes_below (bare items) ≡ nodes_below items
  pub elements : elements_in (bare items) ≡ elements_in items
  pub depth : depth_below (bare items) ≡ depth_below items

abbrev pub BareElements : Type 0
BareElements = (items : Items) → IsBared items

-- two lists of a program's items that are the same items of a document are equal
abbrev pub OneList : Type 0
OneList = (items others : List Item) → items_of items ≡ items_of others → items ≡ others

-- all items of a document are a list of a program's
abbrev pub EachHasList : Type 0
EachHasList = (items : Items) → items_of (items_for items) ≡ items
