-- When a document meets a set of declarations (XML 1.0, 3, Element Valid; structure alone).
use Rattle.std.specs.Prelude.{◌≡◌, ℕ, List, Bool, true, Option, Some, None, IsTrue}
use Rattle.content_models.specs.declared.content.Content.{Content}
use Rattle.content_models.specs.declared.content.TextKind.{TextKind}
use Rattle.content_models.specs.declared.content.TextKind.TheVariants.{NoItems, White, All}
use Rattle.content_models.specs.Model.{Derives}
use Rattle.content_models.specs.Kinds.{text_kind}
use Rattle.document_trees.specs.Trees.{Attribute, Items, Node, IsDocument, EachNode, child_names, elements_alone, runs_plain, stands_in}
use Rattle.attlist_merge.specs.Lists.{Definitions}
use Rattle.attlist_merge.specs.Values.{is_right}
use Rattle.decl_set.specs.Declarations.{Declarations, content_in, attributes_in}

-- whether the items other than elements are allowed: none, plain runs with comments and processing instructions, or all
abbrev pub is_text_allowed : TextKind → Items → Bool
is_text_allowed NoItems items = elements_alone items
is_text_allowed White items = runs_plain items
is_text_allowed All items = true

abbrev pub TextAllowed : TextKind → Items → Type 0
TextAllowed kind items = IsTrue (is_text_allowed kind items)

-- These items and attributes suit the content and the list, whatever the names of the child elements are: the other items
-- are allowed, each attribute is declared and in its class, and each required one is there.
pub record SuitsBy (declared : Content) (list : Definitions) (atts : List Attribute) (items : Items) : Type 0 where
  pub text : TextAllowed (text_kind declared) items
  pub attributes : IsTrue (is_right list atts)

-- They meet them: the child names are derived, and the rest suits.
pub record MeetsBy (declared : Content) (list : Definitions) (atts : List Attribute) (items : Items) : Type 0 where
  pub content : Derives declared (child_names items)
  pub suits : SuitsBy declared list atts items

abbrev pub SuitsContent : Option Content → Definitions → List Attribute → Items → Type 0
SuitsContent None list atts items = ⊥
SuitsContent (Some declared) list atts items = SuitsBy declared list atts items

-- the items and attributes suit the declaration of an element
abbrev pub Suits : Declarations → List ℕ → List Attribute → Items → Type 0
Suits set name atts items = SuitsContent (content_in set name) (attributes_in set name) atts items

abbrev pub MeetsContent : Option Content → Definitions → List Attribute → Items → Type 0
MeetsContent None list atts items = ⊥
MeetsContent (Some declared) list atts items = MeetsBy declared list atts items

-- the node meets its declaration
abbrev pub Meets : Declarations → List ℕ → List Attribute → Items → Type 0
Meets set name atts items = MeetsContent (content_in set name) (attributes_in set name) atts items

-- the top node has this name, and every node meets the set
abbrev pub IsValid : Declarations → List ℕ → Node → Type 0
IsValid set root node = (node.name ≡ root) × EachNode (Meets set) node

-- a document that is valid in the first, and not in the second
abbrev pub IsSeparating : Declarations → Declarations → List ℕ → Node → Type 0
IsSeparating first second root node = IsDocument node × IsValid first root node × (IsValid second root node → ⊥)

-- no document separates
abbrev pub IsSubset : Declarations → Declarations → List ℕ → Type 0
IsSubset first second root = (node : Node) → IsSeparating first second root node → ⊥

-- a document of this element
abbrev pub HasDocument : Declarations → List ℕ → Type 0
HasDocument set name = (node : Node) × IsDocument node × IsValid set name node

-- the element stands in some document of the set from the root
abbrev pub IsUseful : Declarations → List ℕ → List ℕ → Type 0
IsUseful set root e = (node : Node) × IsDocument node × IsValid set root node × IsTrue (stands_in e node)
