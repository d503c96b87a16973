-- The first node of a document that does not meet its declaration, and why.
use Rattle.std.specs.Prelude.{ℕ, List, Option, Some, None, option_map, if◌then◌else◌}
use Rattle.std.specs.Option.{option_or}
use Rattle.content_models.specs.declared.content.Content.{Content}
use Rattle.content_models.specs.Kinds.{text_kind}
use Rattle.document_trees.specs.Trees.{Attribute, Node, child_names, nodes_in}
use Rattle.attlist_merge.specs.Lists.{Entry, Definitions}
use Rattle.attlist_merge.specs.Oddness.{first_some}
use Rattle.attlist_merge.specs.Values.{is_allowed, is_given}
use Rattle.decl_set.specs.Declarations.{Declarations, content_in, attributes_in}
use Rattle.decl_set.specs.Validity.{is_text_allowed}
use Rattle.decl_set.specs.declared.breaks.Cause.{Cause}
use Rattle.decl_set.specs.declared.breaks.Cause.TheVariants as cause
use Rattle.decl_set.specs.declared.breaks.BrokenDecl.{BrokenDecl}
use Rattle.article_validator.specs.Deriving.{is_derived}

abbrev pub unallowed : Definitions → Attribute → Option (List ℕ)
unallowed list a = if is_allowed list a then None else Some a.0

abbrev pub ungiven : List Attribute → Entry → Option (List ℕ)
ungiven atts e = if is_given atts e then None else Some e.0

-- the first specified attribute that is not declared or not in its class, else the first that is missing
abbrev pub wrong_attribute : Definitions → List Attribute → Option (List ℕ)
wrong_attribute list atts = option_or (first_some (unallowed list) atts) (first_some (ungiven atts) list)

abbrev pub broken_by : Option Content → Definitions → Node → Option Cause
broken_by None list node = Some cause.Undeclared
broken_by (Some content) list node =
    if is_derived content (child_names node.items) then
    (if is_text_allowed (text_kind content) node.items then option_map (λ name. cause.Attribute name) (wrong_attribute list node.atts) else Some cause.Text)
    else Some cause.Content

-- the first of these that holds of a node: undeclared, content, text, attribute
abbrev pub broken_in : Declarations → Node → Option BrokenDecl
broken_in set node = option_map (λ cause. record { element = node.name; cause = cause }) (broken_by (content_in set node.name) (attributes_in set node.name) node)

-- the first node in document order that does not meet its declaration
unfoldable pub first_broken : Declarations → Node → Option BrokenDecl
first_broken set node = first_some (broken_in set) (nodes_in node)
