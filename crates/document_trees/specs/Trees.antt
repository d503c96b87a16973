-- Documents as trees (XML 1.0, 2.1 and 3), apart from any set of declarations.
use Rattle.std.specs.Prelude.{ℕ, ◌+◌, max, Bool, true, false, ◌||◌, ◌&&◌, not, List, [], ◌∷◌, ◌++◌, IsTrue, bytes_eq}
use Rattle.std.specs.List.{list_all, list_any}
use Rattle.jats_chars.specs.Classes.{is_char, is_space}
use Rattle.jats_chars.specs.Names.{is_name}

-- an attribute: its name and its value
abbrev pub Attribute : Type 0
Attribute = List ℕ × List ℕ

-- What stands in an element, in order. Each item is followed by the later ones; an element also has those inside it.
-- A run is plain where no CDATA section, character reference or predefined entity is in it and all its characters are white; a
-- reference to an entity whose replacement text has the white space itself is plain (2.10, 3).
pub data Items : Type 0 where
  nothing : Items
  element : (name : List ℕ) (atts : List Attribute) (inside later : Items) → Items
  chars : (text : List ℕ) (plain : Bool) (later : Items) → Items
  comment : (text : List ℕ) (later : Items) → Items
  pi : (target body : List ℕ) (later : Items) → Items

-- an element with its attributes and items, and so a document
pub record Node : Type 0 where
  pub name : List ℕ
  pub atts : List Attribute
  pub items : Items

-- items with others after them
abbrev pub joined : Items → Items → Items
joined nothing others = others
joined (element name atts inside later) others = element name atts inside (joined later others)
joined (chars text plain later) others = chars text plain (joined later others)
joined (comment text later) others = comment text (joined later others)
joined (pi target body later) others = pi target body (joined later others)

-- the nodes below, in document order: each before those in it, and these before the later ones
abbrev pub nodes_below : Items → List Node
nodes_below nothing = []
nodes_below (element name atts inside later) = record { name = name; atts = atts; items = inside } ∷ nodes_below inside ++ nodes_below later
nodes_below (chars text plain later) = nodes_below later
nodes_below (comment text later) = nodes_below later
nodes_below (pi target body later) = nodes_below later

-- the nodes of a document, in document order
abbrev pub nodes_in : Node → List Node
nodes_in node = node ∷ nodes_below node.items

-- the most elements below that are open at once
abbrev pub depth_below : Items → ℕ
depth_below nothing = 0
depth_below (element name atts inside later) = max (1 + depth_below inside) (depth_below later)
depth_below (chars text plain later) = depth_below later
depth_below (comment text later) = depth_below later
depth_below (pi target body later) = depth_below later

-- the most elements of a document that are open at once
abbrev pub depth : Node → ℕ
depth node = 1 + depth_below node.items

-- the elements alone
abbrev pub bare : Items → Items
bare nothing = nothing
bare (element name atts inside later) = element name atts inside (bare later)
bare (chars text plain later) = bare later
bare (comment text later) = bare later
bare (pi target body later) = bare later

-- the names of the children, in order
abbrev pub child_names : Items → List (List ℕ)
child_names nothing = []
child_names (element name atts inside later) = name ∷ child_names later
child_names (chars text plain later) = child_names later
child_names (comment text later) = child_names later
child_names (pi target body later) = child_names later

-- whether there are elements alone
abbrev pub elements_alone : Items → Bool
elements_alone nothing = true
elements_alone (element name atts inside later) = elements_alone later
elements_alone (chars text plain later) = false
elements_alone (comment text later) = false
elements_alone (pi target body later) = false

-- whether each run is plain
abbrev pub runs_plain : Items → Bool
runs_plain nothing = true
runs_plain (element name atts inside later) = runs_plain later
runs_plain (chars text plain later) = plain && runs_plain later
runs_plain (comment text later) = runs_plain later
runs_plain (pi target body later) = runs_plain later

-- P of each node below
abbrev pub EachBelow : (List ℕ → List Attribute → Items → Type 0) → Items → Type 0
EachBelow P nothing = Unit {0}
EachBelow P (element name atts inside later) = P name atts inside × EachBelow P inside × EachBelow P later
EachBelow P (chars text plain later) = EachBelow P later
EachBelow P (comment text later) = EachBelow P later
EachBelow P (pi target body later) = EachBelow P later

-- P of each node
abbrev pub EachNode : (List ℕ → List Attribute → Items → Type 0) → Node → Type 0
EachNode P node = P node.name node.atts node.items × EachBelow P node.items

-- whether all characters are Chars
abbrev pub are_chars : List ℕ → Bool
are_chars text = list_all is_char text

-- whether the text is one of white space alone
abbrev pub is_white : List ℕ → Bool
is_white text = list_all is_space text

-- whether an attribute of this name stands in the list
abbrev pub has_attribute : List Attribute → List ℕ → Bool
has_attribute atts name = list_any (λ a. bytes_eq name a.0) atts

-- whether the names are Names, the values are of Chars, and no name stands twice
abbrev pub are_attributes : List Attribute → Bool
are_attributes [] = true
are_attributes (a ∷ atts) = is_name a.0 && (are_chars a.1 && (not (has_attribute atts a.0) && are_attributes atts))

-- whether the items beside the elements have Chars, plain runs that are white, and targets that are Names
abbrev pub are_items : Items → Bool
are_items nothing = true
are_items (element name atts inside later) = are_items later
are_items (chars text true later) = are_chars text && (is_white text && are_items later)
are_items (chars text false later) = are_chars text && are_items later
are_items (comment text later) = are_chars text && are_items later
are_items (pi target body later) = is_name target && (are_chars body && are_items later)

-- what is assumed of a node
pub record IsWellMade (name : List ℕ) (atts : List Attribute) (items : Items) : Type 0 where
  pub named : IsTrue (is_name name)
  pub attributes : IsTrue (are_attributes atts)
  pub beside : IsTrue (are_items items)

-- a document: each node is well made
abbrev pub IsDocument : Node → Type 0
IsDocument node = EachNode IsWellMade node

-- the number of elements
abbrev pub elements_in : Items → ℕ
elements_in nothing = 0
elements_in (element name atts inside later) = 1 + elements_in inside + elements_in later
elements_in (chars text plain later) = elements_in later
elements_in (comment text later) = elements_in later
elements_in (pi target body later) = elements_in later

-- how large a document is
abbrev pub size : Node → ℕ
size node = 1 + elements_in node.items

-- whether an element of this name is below
abbrev pub stands_below : List ℕ → Items → Bool
stands_below e nothing = false
stands_below e (element name atts inside later) = bytes_eq e name || stands_below e inside || stands_below e later
stands_below e (chars text plain later) = stands_below e later
stands_below e (comment text later) = stands_below e later
stands_below e (pi target body later) = stands_below e later

-- whether an element of this name stands in the document
abbrev pub stands_in : List ℕ → Node → Bool
stands_in e node = bytes_eq e node.name || stands_below e node.items
