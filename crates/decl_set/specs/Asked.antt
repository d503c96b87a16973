-- What the declaring calls ask for, and what a set keeps at every moment.
use Rattle.std.specs.Prelude.{◌≡◌, ◌≤◌, ◌==◌, ℕ, Bool, true, false, not, ◌&&◌, List, [], ◌∷◌, length, IsTrue, Option, Some, None, bytes_eq}
use Rattle.std.specs.List.{list_all, list_any, AllByRecursion}
use Rattle.jats_chars.specs.Classes.{is_char, is_pubid_char}
use Rattle.jats_chars.specs.Names.{is_name}
use Rattle.content_models.specs.Proper.{is_proper}
use Rattle.position_automata.specs.Automata.{IsDeterministic}
use Rattle.attlist_merge.specs.Lists as lists
use Rattle.attlist_merge.specs.Reading.{raw_list_of}
use Rattle.attlist_merge.specs.declared.raw.RawAttList.{RawAttList}
use Rattle.attribute_types.specs.Spacing.{is_filled}
use Rattle.entity_catalog.specs.Collapse.{collapse_public}
use Rattle.entity_catalog.specs.declared.ids.Ids.{Ids}
use Rattle.entity_catalog.specs.declared.ids.Ids.TheVariants.{System, Public, PublicOnly}
use Rattle.decl_set.specs.Declarations.{Declarations, Element, AttributesOf, Entity, Notation, follows_in}
use Rattle.decl_set.specs.declared.entity.EntityDef.{EntityDef}
use Rattle.decl_set.specs.declared.entity.EntityDef.TheVariants.{Internal, External, Unparsed}

abbrev pub are_chars : List ℕ → Bool
are_chars text = list_all is_char text

-- a system identifier: Chars without CR, and not both kinds of quotes
abbrev pub is_system : List ℕ → Bool
is_system text = are_chars text && (not (list_any (λ c. c == 13) text) && not (list_any (λ c. c == 34) text && list_any (λ c. c == 39) text))

-- a public identifier: PubidChars, collapsed
abbrev pub is_public : List ℕ → Bool
is_public text = list_all is_pubid_char text && bytes_eq (collapse_public text) text

abbrev pub are_ids : Ids → Bool
are_ids (System s) = is_system s
are_ids (Public p s) = is_public p && is_system s
are_ids (PublicOnly p) = is_public p

-- the identifiers of an entity have a system identifier
abbrev pub are_entity_ids : Ids → Bool
are_entity_ids (System s) = is_system s
are_entity_ids (Public p s) = is_public p && is_system s
are_entity_ids (PublicOnly p) = false

-- what an entity stands for may be declared
abbrev pub is_entity : EntityDef → Bool
is_entity (Internal text) = are_chars text
is_entity (External ids) = are_entity_ids ids
is_entity (Unparsed ids notation) = is_name notation && are_entity_ids ids

-- the attributes are read from a body of Chars
abbrev pub IsRead : RawAttList → Type 0
IsRead raw = (body : List ℕ) × IsTrue (are_chars body) × (raw_list_of body ≡ Some raw)

-- no name stands twice
abbrev pub are_apart : {X : Type 0} → List (List ℕ × X) → Bool
are_apart [] = true
are_apart (e ∷ es) = not (list_any (λ other. bytes_eq e.0 other.0) es) && are_apart es

-- an element that a set keeps: its name is a Name, its content proper and deterministic
pub record IsElement (e : Element) : Type 0 where
  pub named : IsTrue (is_name e.0)
  pub proper : IsTrue (is_proper e.1)
  pub deterministic : IsDeterministic e.1

-- a definition that a set keeps: its name is a Name, and its value is of Chars
abbrev pub is_definition : lists.Entry → Bool
is_definition e = is_name e.0 && has_chars (lists.value_in e.1.preset)
  where
    has_chars : Option (List ℕ) → Bool
    has_chars None = true
    has_chars (Some text) = are_chars text

-- attributes that a set keeps: they are not empty, and keep the constraints of attribute lists
pub record IsList (l : AttributesOf) : Type 0 where
  pub named : IsTrue (is_name l.0)
  pub filled : IsTrue (is_filled l.1)
  pub kept : lists.IsKept l.1
  pub definitions : IsTrue (list_all is_definition l.1)

abbrev pub is_entity_kept : Entity → Bool
is_entity_kept e = is_name e.0 && is_entity e.1

abbrev pub is_notation_kept : Notation → Bool
is_notation_kept n = is_name n.0 && are_ids n.1

-- What a set keeps at every moment: names differ in each list; contents are proper and deterministic; attributes keep their
-- constraints; texts are of Chars, and identifiers are as they are asked for; there are at most 1,024 elements and
-- 16,000,000 follows.
pub record IsKept (set : Declarations) : Type 0 where
  pub elements_apart : IsTrue (are_apart set.elements)
  pub lists_apart : IsTrue (are_apart set.lists)
  pub entities_apart : IsTrue (are_apart set.entities)
  pub notations_apart : IsTrue (are_apart set.notations)
  pub elements_are : AllByRecursion IsElement set.elements
  pub lists_are : AllByRecursion IsList set.lists
  pub entities_are : IsTrue (list_all is_entity_kept set.entities)
  pub notations_are : IsTrue (list_all is_notation_kept set.notations)
  pub few : length set.elements ≤ 1024
  pub follows : follows_in set.elements ≤ 16000000
