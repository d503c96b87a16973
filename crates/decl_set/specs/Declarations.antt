-- A set of declarations, as lists in order of declaration.
use Rattle.std.specs.Prelude.{ℕ, List, [], Option, unwrap_or, bytes_eq, Result, Ok, Err}
use Rattle.std.specs.List.{sum_by}
use Rattle.std.specs.Map.{lookup}
use Rattle.content_models.specs.declared.content.Content.{Content}
use Rattle.position_automata.specs.Judged.{judged}
use Rattle.attlist_merge.specs.Lists.{Definitions}
use Rattle.entity_catalog.specs.declared.ids.Ids.{Ids}
use Rattle.decl_set.specs.declared.entity.EntityDef.{EntityDef}

-- an element with its content
abbrev pub Element : Type 0
Element = List ℕ × Content

-- an element with its attributes
abbrev pub AttributesOf : Type 0
AttributesOf = List ℕ × Definitions

-- a general entity with what it stands for
abbrev pub Entity : Type 0
Entity = List ℕ × EntityDef

-- a notation with its identifiers
abbrev pub Notation : Type 0
Notation = List ℕ × Ids

-- what a set declares, each list in order of declaration
pub record Declarations : Type 0 where
  pub elements : List Element
  pub lists : List AttributesOf
  pub entities : List Entity
  pub notations : List Notation

abbrev pub none_declared : Declarations
none_declared = record { elements = []; lists = []; entities = []; notations = [] }

-- the content of an element, where it is declared
abbrev pub content_in : Declarations → List ℕ → Option Content
content_in set name = lookup (bytes_eq name) set.elements

-- the attributes that are declared for an element, which itself may be declared or not
abbrev pub list_in : Declarations → List ℕ → Option Definitions
list_in set name = lookup (bytes_eq name) set.lists

-- the same, where an element without a list has no attributes
abbrev pub attributes_in : Declarations → List ℕ → Definitions
attributes_in set name = unwrap_or (list_in set name) []

-- what a general entity stands for
abbrev pub entity_in : Declarations → List ℕ → Option EntityDef
entity_in set name = lookup (bytes_eq name) set.entities

-- the identifiers of a notation
abbrev pub notation_in : Declarations → List ℕ → Option Ids
notation_in set name = lookup (bytes_eq name) set.notations

abbrev pub name_of : {X : Type 0} → List ℕ × X → List ℕ
name_of e = e.0

-- the follows of a content, and 0 where it is not deterministic
abbrev pub follows_of : Content → ℕ
follows_of content = counted (judged content)
  where
    counted : Result ℕ (ℕ × ℕ) → ℕ
    counted (Ok n) = n
    counted (Err pq) = 0

-- the follows of all contents together
abbrev pub follows_in : List Element → ℕ
follows_in elements = sum_by (λ e. follows_of e.1) elements
