-- What is wrong in one node by its own declaration (XML 1.0, 3, Element Valid, 3.1, 3.3.1 and 3.3.2), in order.
use Rattle.std.specs.Prelude.{List, [], ◌∷◌, ◌++◌, Option, Some, None, if◌then◌else◌}
use Rattle.std.specs.List.{flat_map}
use Rattle.content_models.specs.declared.content.Content.{Content}
use Rattle.content_models.specs.Kinds.{text_kind}
use Rattle.document_trees.specs.Trees.{Attribute, Items, Node, child_names}
use Rattle.attribute_types.specs.Classes.{in_class}
use Rattle.attlist_merge.specs.declared.list.Definition.{Definition}
use Rattle.attlist_merge.specs.Lists.{Entry, Definitions, definition_of}
use Rattle.attlist_merge.specs.Values.{is_given}
use Rattle.decl_set.specs.Declarations.{Declarations, content_in, attributes_in}
use Rattle.decl_set.specs.Validity.{is_text_allowed}
use Rattle.article_validator.specs.Deriving.{is_derived}
use Rattle.article_validator.specs.declared.fault.InvalidCause.{InvalidCause}
use Rattle.article_validator.specs.declared.fault.InvalidCause.TheVariants as cause

-- the names of the children are not derived
abbrev pub content_causes : Content → Items → List InvalidCause
content_causes content items = if is_derived content (child_names items) then [] else cause.Content ∷ []

-- items stand there that the content does not allow
abbrev pub text_causes : Content → Items → List InvalidCause
text_causes content items = if is_text_allowed (text_kind content) items then [] else cause.Text ∷ []

-- a specified attribute is not declared, or its value not allowed
abbrev pub specified_by : Attribute → Option Definition → List InvalidCause
specified_by a None = cause.AttUndeclared a.0 ∷ []
specified_by a (Some d) = if in_class d.class a.1 then [] else cause.Value a.0 ∷ []

abbrev pub specified_causes : Definitions → Attribute → List InvalidCause
specified_causes list a = specified_by a (definition_of list a.0)

-- an attribute is required and not there
abbrev pub missing_causes : List Attribute → Entry → List InvalidCause
missing_causes atts e = if is_given atts e then [] else cause.Missing e.0 ∷ []

-- each specified attribute in order, then those that are missing in order of declaration
abbrev pub attribute_causes : Definitions → List Attribute → List InvalidCause
attribute_causes list atts = flat_map (specified_causes list) atts ++ flat_map (missing_causes atts) list

-- what is wrong in a node with this content, where it is declared, and this list
abbrev pub causes_by : Option Content → Definitions → Node → List InvalidCause
causes_by None list node = cause.Undeclared ∷ []
causes_by (Some content) list node = content_causes content node.items ++ (text_causes content node.items ++ attribute_causes list node.atts)

-- what is wrong in a node by its own declaration
abbrev pub causes_in : Declarations → Node → List InvalidCause
causes_in set node = causes_by (content_in set node.name) (attributes_in set node.name) node
