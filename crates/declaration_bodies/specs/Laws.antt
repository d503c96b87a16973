-- The declaration that is read is the one that is written.
use Rattle.std.specs.Prelude.{◌≡◌, ◌↔◌, ℕ, List, Some}
use Rattle.entity_catalog.specs.declared.ids.Ids.{Ids}
use Rattle.declaration_bodies.specs.declared.entities.RawEntity.{RawEntity}
use Rattle.declaration_bodies.specs.Elements.{element_of}
use Rattle.declaration_bodies.specs.Entities.{entity_of}
use Rattle.declaration_bodies.specs.Notations.{notation_of}
use Rattle.declaration_bodies.specs.Grammar.{IsElement, IsEntity, IsNotation}

-- a name and a content are read from a body exactly where it writes them
abbrev pub ElementsRead : Type 0
ElementsRead = (body name content : List ℕ) → (element_of body ≡ Some (name, content)) ↔ IsElement body name content

-- an entity is read from a body exactly where it writes it
abbrev pub EntitiesRead : Type 0
EntitiesRead = (body : List ℕ) (entity : RawEntity) → (entity_of body ≡ Some entity) ↔ IsEntity body entity

-- a name and identifiers are read from a body exactly where it writes them
abbrev pub NotationsRead : Type 0
NotationsRead = (body name : List ℕ) (ids : Ids) → (notation_of body ≡ Some (name, ids)) ↔ IsNotation body name ids
