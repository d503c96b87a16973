-- What each declaration does to a set (XML 1.0, 3.2, 3.3, 4.2 and 4.7), or why it is refused.
use Rattle.std.specs.Prelude.{ℕ, ◌+◌, List, [], ◌∷◌, ◌++◌, length, is_some, nat_lt, nat_le, Option, Some, None, bytes_eq, Bool, Result, Ok, Err, if◌then◌else◌}
use Rattle.jats_chars.specs.declared.limits.TheConstants as limit
use Rattle.std.specs.Option.{option_or}
use Rattle.content_models.specs.declared.content.Content.{Content}
use Rattle.content_models.specs.declared.content.Content.TheVariants.{Empty}
use Rattle.position_automata.specs.Judged.{judged}
use Rattle.attribute_types.specs.Spacing.{collapsed}
use Rattle.attribute_types.specs.declared.types.AttType.{AttType}
use Rattle.attribute_types.specs.declared.types.Preset.{Preset}
use Rattle.attribute_types.specs.declared.types.Preset.TheVariants as preset
use Rattle.attlist_merge.specs.declared.raw.RawPreset.{RawPreset}
use Rattle.attlist_merge.specs.declared.raw.RawPreset.TheVariants as raw
use Rattle.attlist_merge.specs.declared.raw.RawAtt.{RawAtt}
use Rattle.attlist_merge.specs.declared.raw.RawAttList.{RawAttList}
use Rattle.attlist_merge.specs.declared.list.Att.{Att}
use Rattle.attlist_merge.specs.declared.list.AttFault.{AttFault}
use Rattle.attlist_merge.specs.declared.list.AttFault.TheVariants as att
use Rattle.attlist_merge.specs.Lists.{Entry, Definitions, definition_of, is_cdata, is_notation, tokens_of}
use Rattle.attlist_merge.specs.Adding.{defined, fault_of}
use Rattle.attlist_merge.specs.Oddness.{first_some}
use Rattle.entity_catalog.specs.declared.ids.Ids.{Ids}
use Rattle.dtd_scanner.specs.Walk.{◌>>=◌}
use Rattle.pe_expansion.specs.Expansion.{Written}
use Rattle.decl_set.specs.Declarations.{Declarations, AttributesOf, Entity, content_in, attributes_in, entity_in, notation_in, follows_in}
use Rattle.decl_set.specs.Values.{value_of}
use Rattle.decl_set.specs.declared.entity.EntityDef.{EntityDef}
use Rattle.decl_set.specs.declared.entity.EntityDef.TheVariants.{Internal, External, Unparsed}
use Rattle.decl_set.specs.declared.faults.DeclFault.{DeclFault}
use Rattle.decl_set.specs.declared.faults.DeclFault.TheVariants as fault
use Rattle.decl_set.specs.declared.faults.ValueFault.{ValueFault}
use Rattle.decl_set.specs.declared.faults.ValueFault.TheVariants as value

-- how many elements a set declares at most, and how many follows its contents have together
abbrev pub most_elements : ℕ
most_elements = limit.ELEMENTS

abbrev pub most_follows : ℕ
most_follows = limit.FOLLOWS

-- ---- elements

abbrev pub element_judged : Declarations → List ℕ → Content → Result ℕ (ℕ × ℕ) → Result Declarations DeclFault
element_judged set name content (Err pq) = Err (fault.Ambiguous name pq.0 pq.1)
element_judged set name content (Ok n) =
    if nat_lt most_follows (follows_in set.elements + n) then Err (fault.FollowsOver name) else Ok (record set { elements = set.elements ++ (name, content) ∷ [] })

-- A new element goes last, where its name is new, there is room, its content is deterministic, and the follows are not too
-- many.
unfoldable pub with_element : Declarations → List ℕ → Content → Result Declarations DeclFault
with_element set name content =
    if is_some (content_in set name) then Err (fault.DuplicateElement name)
    else if nat_le most_elements (length set.elements) then Err (fault.ElementsOver name)
    else element_judged set name content (judged content)

-- ---- attributes

-- a value as it is kept: of a type other than CDATA it is collapsed
abbrev pub settled : AttType → List ℕ → List ℕ
settled kind text = if is_cdata kind then text else collapsed text

-- the fault of an attribute's value
abbrev pub value_fault : List ℕ → ValueFault → DeclFault
value_fault name (value.EntityUnknown entity) = fault.EntityUndeclared entity
value_fault name (value.EntityExternal entity) = fault.EntityUndeclared entity
value_fault name (value.RecursiveEntity entity) = fault.RecursiveEntity entity
value_fault name (value.EntityTooDeep entity) = fault.EntityTooDeep entity
value_fault name (value.ExpansionOver entity) = fault.ExpansionOver entity
value_fault name value.LessThan = fault.LessThanInValue name
value_fault name value.Malformed = fault.Malformed
value_fault name value.NoMemory = fault.NoMemory

abbrev pub read_as : (List ℕ → Preset) → AttType → List ℕ → Result Written ValueFault → Result (Preset × ℕ) DeclFault
read_as as_preset kind name (Ok w) = Ok (as_preset (settled kind w.text), w.spent)
read_as as_preset kind name (Err f) = Err (value_fault name f)

-- a preset with its value read, and the new count of included characters
abbrev pub preset_of : List Entity → ℕ → List ℕ → AttType → RawPreset → Result (Preset × ℕ) DeclFault
preset_of entities spent name kind raw.Required = Ok (preset.Required, spent)
preset_of entities spent name kind raw.Implied = Ok (preset.Implied, spent)
preset_of entities spent name kind (raw.Value text) = read_as preset.Value kind name (value_of entities [] spent text)
preset_of entities spent name kind (raw.Fixed text) = read_as preset.Fixed kind name (value_of entities [] spent text)

-- the fault of an attribute of an element
abbrev pub att_fault : List ℕ → List ℕ → AttFault → DeclFault
att_fault element name (att.DuplicateToken token) = fault.DuplicateToken element name token
att_fault element name att.IdPreset = fault.IdPreset element name
att_fault element name att.PresetNotInClass = fault.PresetNotInClass element name
att_fault element name att.SecondId = fault.SecondId element name
att_fault element name att.SecondNotation = fault.SecondNotation element name
att_fault element name att.NoMemory = fault.NoMemory

abbrev pub added : List ℕ → Definitions → Att → ℕ → Option AttFault → Result (Definitions × ℕ) DeclFault
added element list a spent None = Ok (list ++ (a.name, defined a) ∷ [], spent)
added element list a spent (Some f) = Err (att_fault element a.name f)

-- one definition more: one whose name is there is passed over; else its value is read, and it goes last if it has no fault
abbrev pub with_attribute : List Entity → List ℕ → Definitions → ℕ → RawAtt → Result (Definitions × ℕ) DeclFault
with_attribute entities element list spent a =
    if is_some (definition_of list a.name) then Ok (list, spent)
    else preset_of entities spent a.name a.kind a.preset
    >>= λ p. added element list (record { name = a.name; kind = a.kind; preset = p.0 }) p.1 (fault_of list a.kind p.0)

-- the definitions of a declaration, in order
abbrev pub with_all : List Entity → List ℕ → Definitions → ℕ → List RawAtt → Result (Definitions × ℕ) DeclFault
with_all entities element list spent [] = Ok (list, spent)
with_all entities element list spent (a ∷ rest) = with_attribute entities element list spent a >>= λ r. with_all entities element r.0 r.1 rest

-- the lists, with this one for an element: in its place, or last
abbrev pub with_list : List AttributesOf → List ℕ → Definitions → List AttributesOf
with_list [] element list = (element, list) ∷ []
with_list (l ∷ ls) element list = if bytes_eq element l.0 then (l.0, list) ∷ ls else l ∷ with_list ls element list

abbrev pub kept_list : Declarations → List ℕ → Definitions × ℕ → Declarations × ℕ
kept_list set element r = (record set { lists = with_list set.lists element r.0 }, r.1)

abbrev pub attributes_given : Declarations → ℕ → List ℕ → List RawAtt → Result (Declarations × ℕ) DeclFault
attributes_given set spent element [] = Ok (set, spent)
attributes_given set spent element (a ∷ rest) =
    with_all set.entities element (attributes_in set element) spent (a ∷ rest) >>= λ r. Ok (kept_list set element r)

-- The attributes of a declaration are added to those of its element, with the new count of included characters. A
-- declaration without definitions changes nothing.
unfoldable pub with_attributes : Declarations → ℕ → RawAttList → Result (Declarations × ℕ) DeclFault
with_attributes set spent raw = attributes_given set spent raw.element raw.atts

-- ---- entities and notations

-- a general entity whose name is there is passed over; another goes last
unfoldable pub with_entity : Declarations → List ℕ → EntityDef → Declarations
with_entity set name def = if is_some (entity_in set name) then set else record set { entities = set.entities ++ (name, def) ∷ [] }

-- a notation whose name is new goes last
unfoldable pub with_notation : Declarations → List ℕ → Ids → Result Declarations DeclFault
with_notation set name ids =
    if is_some (notation_in set name) then Err (fault.DuplicateNotation name) else Ok (record set { notations = set.notations ++ (name, ids) ∷ [] })

-- ---- after the last declaration

-- a notation that is not declared, for an element or entity
abbrev pub undeclared : Declarations → List ℕ → List ℕ → Option DeclFault
undeclared set owner notation = if is_some (notation_in set notation) then None else Some (fault.NotationUndeclared owner notation)

-- the notation of an unparsed entity is declared (XML 1.0, 4.2.2, Notation Declared)
abbrev pub entity_fault : Declarations → Entity → Option DeclFault
entity_fault set (name, Internal text) = None
entity_fault set (name, External ids) = None
entity_fault set (name, Unparsed ids notation) = undeclared set name notation

abbrev pub is_empty : Option Content → Bool
is_empty content = is_some (empty_in content)
  where
    empty_in : Option Content → Option Content
    empty_in (Some Empty) = Some Empty
    empty_in other = None

-- an attribute of type NOTATION stands at no EMPTY element, and its notations are declared (3.3.1)
abbrev pub notation_fault : Declarations → List ℕ → Entry → Option DeclFault
notation_fault set element e =
    if is_notation e.1.kind then
    (if is_empty (content_in set element) then Some (fault.NotationOnEmpty element e.0)
    else first_some (undeclared set element) (tokens_of e.1.kind))
    else None

abbrev pub list_fault : Declarations → AttributesOf → Option DeclFault
list_fault set l = first_some (notation_fault set l.0) l.1

-- The first fault of the whole set: of the unparsed entities in order, then of the attributes in order.
unfoldable pub end_fault : Declarations → Option DeclFault
end_fault set = option_or (first_some (entity_fault set) set.entities) (first_some (list_fault set) set.lists)
