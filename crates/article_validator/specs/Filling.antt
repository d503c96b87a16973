-- A document with the defaults that a reader of the set sees (XML 1.0, 3.3.2).
use Rattle.std.specs.Prelude.{ℕ, List, [], ◌∷◌, ◌++◌, Option, Some, None, if◌then◌else◌}
use Rattle.std.specs.List.{flat_map}
use Rattle.content_models.specs.declared.content.Content.{Content}
use Rattle.document_trees.specs.Trees.{Attribute, Items, Node, nothing, element, chars, comment, pi, has_attribute}
use Rattle.attlist_merge.specs.Lists.{Entry, Definitions, value_in}
use Rattle.decl_set.specs.Declarations.{Declarations, content_in, attributes_in}

abbrev pub valued : Entry → Option (List ℕ) → List Attribute
valued e None = []
valued e (Some value) = (e.0, value) ∷ []

-- the default or fixed value of an attribute that is not specified
abbrev pub default_of : List Attribute → Entry → List Attribute
default_of atts e = if has_attribute atts e.0 then [] else valued e (value_in e.1.preset)

abbrev pub filled_by : Option Content → Definitions → List Attribute → List Attribute
filled_by None list atts = atts
filled_by (Some content) list atts = atts ++ flat_map (default_of atts) list

-- the attributes of an element, and behind them the defaults in order of declaration, where the element is declared
abbrev pub filled_atts : Declarations → List ℕ → List Attribute → List Attribute
filled_atts set name atts = filled_by (content_in set name) (attributes_in set name) atts

-- each element with its defaults, and nothing else changed
abbrev pub filled_items : Declarations → Items → Items
filled_items set nothing = nothing
filled_items set (element name atts inside later) = element name (filled_atts set name atts) (filled_items set inside) (filled_items set later)
filled_items set (chars text plain later) = chars text plain (filled_items set later)
filled_items set (comment text later) = comment text (filled_items set later)
filled_items set (pi target body later) = pi target body (filled_items set later)

abbrev pub filled : Declarations → Node → Node
filled set node = record { name = node.name; atts = filled_atts set node.name node.atts; items = filled_items set node.items }
