-- The flat text of a set: one plain DTD (XML 1.0, 3.2, 3.3, 4.2 and 4.7).
use Rattle.std.specs.Prelude.{ℕ, List, [], ◌∷◌, ◌++◌, map, Bool, ◌==◌, ◌||◌, codes, if◌then◌else◌}
use Rattle.std.specs.Fmt.{decimal}
use Rattle.std.specs.List.{concat, flat_map, list_any}
use Rattle.content_models.specs.Spelling.{flat, joined}
use Rattle.dtd_scanner.specs.declared.item.ItemKind.{ItemKind}
use Rattle.dtd_scanner.specs.declared.item.ItemKind.TheVariants.{ElementDecl, AttlistDecl, EntityDecl, NotationDecl}
use Rattle.attribute_types.specs.declared.types.AttType.{AttType}
use Rattle.attribute_types.specs.declared.types.AttType.TheVariants as kind
use Rattle.attribute_types.specs.declared.types.Preset.{Preset}
use Rattle.attribute_types.specs.declared.types.Preset.TheVariants as preset
use Rattle.attlist_merge.specs.Lists.{Entry}
use Rattle.entity_catalog.specs.declared.ids.Ids.{Ids}
use Rattle.entity_catalog.specs.declared.ids.Ids.TheVariants.{System, Public, PublicOnly}
use Rattle.decl_set.specs.Declarations.{Declarations, Element, AttributesOf, Entity, Notation}
use Rattle.decl_set.specs.declared.entity.EntityDef.{EntityDef}
use Rattle.decl_set.specs.declared.entity.EntityDef.TheVariants.{Internal, External, Unparsed}

-- ---- texts between quotes

-- a decimal character reference
abbrev pub reference_to : ℕ → List ℕ
reference_to c = codes "&#" ++ (decimal c ++ codes ";")

-- each character that passes the test as a reference, and the others as they are
abbrev pub escaped : (ℕ → Bool) → List ℕ → List ℕ
escaped test [] = []
escaped test (c ∷ cs) = (if test c then reference_to c else c ∷ []) ++ escaped test cs

-- what an entity value can't hold as itself: `&`, `<`, `%`, `"` and CR
abbrev pub is_special : ℕ → Bool
is_special c = c == 38 || (c == 60 || (c == 37 || (c == 34 || c == 13)))

-- what an attribute value can't: these, TAB and LF
abbrev pub is_special_value : ℕ → Bool
is_special_value c = is_special c || (c == 9 || c == 10)

abbrev pub quoted : List ℕ → List ℕ
quoted text = 34 ∷ (text ++ 34 ∷ [])

-- a system literal stands in `'` where it holds `"`
abbrev pub system_literal : List ℕ → List ℕ
system_literal text = if list_any (λ c. c == 34) text then 39 ∷ (text ++ 39 ∷ []) else quoted text

abbrev pub ids_text : Ids → List ℕ
ids_text (System s) = codes "SYSTEM " ++ system_literal s
ids_text (Public p s) = codes "PUBLIC " ++ (quoted p ++ (codes " " ++ system_literal s))
ids_text (PublicOnly p) = codes "PUBLIC " ++ quoted p

-- ---- bodies

abbrev pub notation_body : Notation → List ℕ
notation_body n = codes " " ++ (n.0 ++ (codes " " ++ ids_text n.1))

abbrev pub def_text : EntityDef → List ℕ
def_text (Internal text) = quoted (escaped is_special text)
def_text (External ids) = ids_text ids
def_text (Unparsed ids notation) = ids_text ids ++ (codes " NDATA " ++ notation)

abbrev pub entity_body : Entity → List ℕ
entity_body e = codes " " ++ (e.0 ++ (codes " " ++ def_text e.1))

abbrev pub element_body : Element → List ℕ
element_body e = codes " " ++ (e.0 ++ (codes " " ++ flat e.1))

-- tokens in parentheses
abbrev pub group_text : List (List ℕ) → List ℕ
group_text tokens = codes "(" ++ (joined 124 tokens ++ codes ")")

abbrev pub type_text : AttType → List ℕ
type_text kind.Cdata = codes "CDATA"
type_text kind.Id = codes "ID"
type_text kind.Idref = codes "IDREF"
type_text kind.Idrefs = codes "IDREFS"
type_text kind.Entity = codes "ENTITY"
type_text kind.Entities = codes "ENTITIES"
type_text kind.Nmtoken = codes "NMTOKEN"
type_text kind.Nmtokens = codes "NMTOKENS"
type_text (kind.Notation names) = codes "NOTATION " ++ group_text names
type_text (kind.Enumeration tokens) = group_text tokens

abbrev pub preset_text : Preset → List ℕ
preset_text preset.Required = codes "#REQUIRED"
preset_text preset.Implied = codes "#IMPLIED"
preset_text (preset.Value text) = quoted (escaped is_special_value text)
preset_text (preset.Fixed text) = codes "#FIXED " ++ quoted (escaped is_special_value text)

-- what is written of an attribute behind its element: its name, its type and its preset
abbrev pub attribute_tail : Entry → List ℕ
attribute_tail e = e.0 ++ (codes " " ++ (type_text e.1.kind ++ (codes " " ++ preset_text e.1.preset)))

abbrev pub attribute_body : List ℕ → Entry → List ℕ
attribute_body element e =
    codes " " ++ (element ++ (codes " " ++ (e.0 ++ (codes " " ++ (type_text e.1.kind ++ (codes " " ++ preset_text e.1.preset))))))

-- ---- lines

-- a declaration: its kind, and its body
abbrev pub Line : Type 0
Line = ItemKind × List ℕ

-- one line an attribute
abbrev pub list_lines : AttributesOf → List Line
list_lines l = map (λ e. (AttlistDecl, attribute_body l.0 e)) l.1

-- the declarations of a set: notations, entities, elements, attributes, each list in order
unfoldable pub lines_of : Declarations → List Line
lines_of set =
    map (λ n. (NotationDecl, notation_body n)) set.notations
    ++ (map (λ e. (EntityDecl, entity_body e)) set.entities
    ++ (map (λ e. (ElementDecl, element_body e)) set.elements
    ++ flat_map list_lines set.lists))

-- the word that opens a declaration
abbrev pub opening : ItemKind → List ℕ
opening ElementDecl = codes "<!ELEMENT"
opening AttlistDecl = codes "<!ATTLIST"
opening EntityDecl = codes "<!ENTITY"
opening NotationDecl = codes "<!NOTATION"
opening other = []

-- a declaration on a line of its own
abbrev pub written : Line → List ℕ
written line = opening line.0 ++ (line.1 ++ codes ">\n")

-- the flat text of a set
abbrev pub flat_text : Declarations → List ℕ
flat_text set = concat (map written (lines_of set))
