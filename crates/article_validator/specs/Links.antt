-- IDs, references to them, and names of unparsed entities in an article (XML 1.0, 3.3.1).
use Rattle.std.specs.Prelude.{ℕ, Bool, true, false, List, [], ◌∷◌, ◌++◌, Option, Some, None, IsTrue, if◌then◌else◌}
use Rattle.std.specs.List.{flat_map, list_all, AllByRecursion}
use Rattle.content_models.specs.declared.content.Content.{Content}
use Rattle.document_trees.specs.Trees.{Attribute, Node, has_attribute, nodes_in}
use Rattle.attribute_types.specs.Classes.{among, in_class}
use Rattle.attribute_types.specs.Spacing.{collapsed, words_in}
use Rattle.attribute_types.specs.declared.types.AttType.{AttType}
use Rattle.attribute_types.specs.declared.types.AttType.TheVariants as kind
use Rattle.attlist_merge.specs.declared.list.Definition.{Definition}
use Rattle.attlist_merge.specs.Lists.{Entry, Definitions, definition_of, value_in}
use Rattle.decl_set.specs.Declarations.{Declarations, content_in, attributes_in, entity_in}
use Rattle.decl_set.specs.declared.entity.EntityDef.{EntityDef}
use Rattle.decl_set.specs.declared.entity.EntityDef.TheVariants.{Internal, External, Unparsed}
use Rattle.article_validator.specs.declared.fault.InvalidCause.{InvalidCause}
use Rattle.article_validator.specs.declared.fault.InvalidCause.TheVariants as cause

-- an attribute of a node with its type and its collapsed value, be it specified or a default
pub record Link : Type 0 where
  pub name : List ℕ
  pub kind : AttType
  pub value : List ℕ

abbrev pub link : List ℕ → AttType → List ℕ → Link
link name kind value = record { name = name; kind = kind; value = collapsed value }

abbrev pub specified_by : Attribute → Option Definition → List Link
specified_by a None = []
specified_by a (Some d) = if in_class d.class a.1 then link a.0 d.kind a.1 ∷ [] else []

-- a specified attribute that is declared, with a value in its class
abbrev pub specified_link : Definitions → Attribute → List Link
specified_link list a = specified_by a (definition_of list a.0)

abbrev pub default_by : Entry → Option (List ℕ) → List Link
default_by e None = []
default_by e (Some value) = link e.0 e.1.kind value ∷ []

-- the default or fixed value of an attribute that is not specified
abbrev pub default_link : List Attribute → Entry → List Link
default_link atts e = if has_attribute atts e.0 then [] else default_by e (value_in e.1.preset)

abbrev pub links_by : Option Content → Definitions → List Attribute → List Link
links_by None list atts = []
links_by (Some content) list atts = flat_map (specified_link list) atts ++ flat_map (default_link atts) list

-- the attributes of a node that is declared: the specified ones that are in their class, in order, and then the default and
-- fixed values of those that are not specified, in order of declaration
abbrev pub links_in : Declarations → Node → List Link
links_in set node = links_by (content_in set node.name) (attributes_in set node.name) node.atts

-- ---- what a link is

abbrev pub ids_by : AttType → List ℕ → List (List ℕ)
ids_by kind.Cdata value = []
ids_by kind.Id value = value ∷ []
ids_by kind.Idref value = []
ids_by kind.Idrefs value = []
ids_by kind.Entity value = []
ids_by kind.Entities value = []
ids_by kind.Nmtoken value = []
ids_by kind.Nmtokens value = []
ids_by (kind.Notation names) value = []
ids_by (kind.Enumeration tokens) value = []

-- the ID that it is
abbrev pub ids_of : Link → List (List ℕ)
ids_of l = ids_by l.kind l.value

abbrev pub targets_by : AttType → List ℕ → List (List ℕ)
targets_by kind.Cdata value = []
targets_by kind.Id value = []
targets_by kind.Idref value = words_in value
targets_by kind.Idrefs value = words_in value
targets_by kind.Entity value = []
targets_by kind.Entities value = []
targets_by kind.Nmtoken value = []
targets_by kind.Nmtokens value = []
targets_by (kind.Notation names) value = []
targets_by (kind.Enumeration tokens) value = []

-- the IDs to which it refers
abbrev pub targets_of : Link → List (List ℕ)
targets_of l = targets_by l.kind l.value

abbrev pub entities_by : AttType → List ℕ → List (List ℕ)
entities_by kind.Cdata value = []
entities_by kind.Id value = []
entities_by kind.Idref value = []
entities_by kind.Idrefs value = []
entities_by kind.Entity value = words_in value
entities_by kind.Entities value = words_in value
entities_by kind.Nmtoken value = []
entities_by kind.Nmtokens value = []
entities_by (kind.Notation names) value = []
entities_by (kind.Enumeration tokens) value = []

-- the entities that it names
abbrev pub entities_of : Link → List (List ℕ)
entities_of l = entities_by l.kind l.value

abbrev pub is_unparsed_def : Option EntityDef → Bool
is_unparsed_def None = false
is_unparsed_def (Some (Internal text)) = false
is_unparsed_def (Some (External ids)) = false
is_unparsed_def (Some (Unparsed ids notation)) = true

-- whether the name is that of an unparsed entity
abbrev pub is_unparsed : Declarations → List ℕ → Bool
is_unparsed set name = is_unparsed_def (entity_in set name)

-- ---- over the article

-- the IDs of a node
abbrev pub ids_in : Declarations → Node → List (List ℕ)
ids_in set node = flat_map ids_of (links_in set node)

-- all IDs of the article, in order
abbrev pub all_ids : Declarations → Node → List (List ℕ)
all_ids set node = flat_map (ids_in set) (nodes_in node)

-- ---- what is wrong with a link of this name, where these IDs came before it and all of these are in the article

abbrev pub repeated : List (List ℕ) → List ℕ → List ℕ → List InvalidCause
repeated seen name id = if among seen id then cause.RepeatedId name id ∷ [] else []

abbrev pub untargeted : List (List ℕ) → List ℕ → List ℕ → List InvalidCause
untargeted all name target = if among all target then [] else cause.NoTarget name target ∷ []

abbrev pub unnamed : Declarations → List ℕ → List ℕ → List InvalidCause
unnamed set name entity = if is_unparsed set entity then [] else cause.NoEntity name entity ∷ []

abbrev pub link_causes : Declarations → List (List ℕ) → List (List ℕ) → Link → List InvalidCause
link_causes set all seen l = flat_map (repeated seen l.name) (ids_of l) ++ (flat_map (untargeted all l.name) (targets_of l) ++ flat_map (unnamed set l.name) (entities_of l))

-- what is wrong with links in order, each behind those before it
abbrev pub links_causes : Declarations → List (List ℕ) → List (List ℕ) → List Link → List InvalidCause
links_causes set all seen [] = []
links_causes set all seen (l ∷ ls) = link_causes set all seen l ++ links_causes set all (seen ++ ids_of l) ls

-- ---- links that are right

-- no text stands twice
abbrev pub Differ : List (List ℕ) → Type 0
Differ [] = Unit {0}
Differ (id ∷ ids) = (IsTrue (among ids id) → ⊥) × Differ ids

-- each ID to which the node refers is one of the article, and each entity that it names is unparsed
pub record IsLinked (set : Declarations) (all : List (List ℕ)) (node : Node) : Type 0 where
  pub targets : IsTrue (list_all (among all) (flat_map targets_of (links_in set node)))
  pub entities : IsTrue (list_all (is_unparsed set) (flat_map entities_of (links_in set node)))

-- no ID of the article repeats, each IDREF has its ID, and each ENTITY names an unparsed entity
pub record AreLinked (set : Declarations) (node : Node) : Type 0 where
  pub ids : Differ (all_ids set node)
  pub nodes : AllByRecursion (IsLinked set (all_ids set node)) (nodes_in node)
