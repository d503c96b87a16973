-- Lists of attributes: names with their definitions, in order of declaration.
use Rattle.std.specs.Prelude.{◌≡◌, ℕ, Bool, true, false, not, ◌&&◌, ◌||◌, List, [], ◌∷◌, ◌++◌, Option, Some, None, is_some, is_none, bytes_eq, IsTrue, if◌then◌else◌}
use Rattle.std.specs.List.{list_any, AllByRecursion}
use Rattle.std.specs.Option.{option_map_or}
use Rattle.std.specs.Map.{lookup}
use Rattle.attribute_types.specs.declared.types.AttType.{AttType}
use Rattle.attribute_types.specs.declared.types.AttType.TheVariants as kind
use Rattle.attribute_types.specs.declared.types.Preset.{Preset}
use Rattle.attribute_types.specs.declared.types.Preset.TheVariants as preset
use Rattle.attribute_types.specs.Spacing.{collapsed}
use Rattle.attribute_types.specs.Classes.{among, in_class}
use Rattle.attribute_types.specs.Types.{class_of_type, class_of}
use Rattle.attribute_types.specs.Proper.{IsProper}
use Rattle.attlist_merge.specs.declared.list.Definition.{Definition}

abbrev pub Entry : Type 0
Entry = List ℕ × Definition

abbrev pub Definitions : Type 0
Definitions = List Entry

-- the definition of a name, where there is one
abbrev pub definition_of : Definitions → List ℕ → Option Definition
definition_of list name = lookup (bytes_eq name) list

-- the names or tokens of a type
abbrev pub tokens_of : AttType → List (List ℕ)
tokens_of kind.Cdata = []
tokens_of kind.Id = []
tokens_of kind.Idref = []
tokens_of kind.Idrefs = []
tokens_of kind.Entity = []
tokens_of kind.Entities = []
tokens_of kind.Nmtoken = []
tokens_of kind.Nmtokens = []
tokens_of (kind.Notation names) = names
tokens_of (kind.Enumeration tokens) = tokens

abbrev pub is_cdata : AttType → Bool
is_cdata kind.Cdata = true
is_cdata kind.Id = false
is_cdata kind.Idref = false
is_cdata kind.Idrefs = false
is_cdata kind.Entity = false
is_cdata kind.Entities = false
is_cdata kind.Nmtoken = false
is_cdata kind.Nmtokens = false
is_cdata (kind.Notation names) = false
is_cdata (kind.Enumeration tokens) = false

abbrev pub is_id : AttType → Bool
is_id kind.Cdata = false
is_id kind.Id = true
is_id kind.Idref = false
is_id kind.Idrefs = false
is_id kind.Entity = false
is_id kind.Entities = false
is_id kind.Nmtoken = false
is_id kind.Nmtokens = false
is_id (kind.Notation names) = false
is_id (kind.Enumeration tokens) = false

abbrev pub is_notation : AttType → Bool
is_notation kind.Cdata = false
is_notation kind.Id = false
is_notation kind.Idref = false
is_notation kind.Idrefs = false
is_notation kind.Entity = false
is_notation kind.Entities = false
is_notation kind.Nmtoken = false
is_notation kind.Nmtokens = false
is_notation (kind.Notation names) = true
is_notation (kind.Enumeration tokens) = false

-- the value that a preset gives
abbrev pub value_in : Preset → Option (List ℕ)
value_in preset.Required = None
value_in preset.Implied = None
value_in (preset.Value text) = Some text
value_in (preset.Fixed text) = Some text

abbrev pub is_required : Preset → Bool
is_required preset.Required = true
is_required preset.Implied = false
is_required (preset.Value text) = false
is_required (preset.Fixed text) = false

-- ---- the constraints of one definition (XML 1.0, 3.3.1 and 3.3.2)

-- the first of the tokens that equals an earlier one, after those that were seen
abbrev pub again : List (List ℕ) → List (List ℕ) → Option (List ℕ)
again seen [] = None
again seen (token ∷ tokens) = if among seen token then Some token else again (seen ++ token ∷ []) tokens

-- No Duplicate Tokens: the first token that stands twice
abbrev pub doubled : AttType → Option (List ℕ)
doubled kind = again [] (tokens_of kind)

-- ID Attribute Default: an ID with a value
abbrev pub has_id_value : AttType → Preset → Bool
has_id_value kind preset = is_id kind && is_some (value_in preset)

-- Attribute Default Value Syntactically Correct: a value outside the class of the type
abbrev pub is_outside : AttType → Preset → Bool
is_outside kind preset = option_map_or (λ text. not (in_class (class_of_type kind) text)) (value_in preset) false

-- the value of a type other than CDATA is collapsed
abbrev pub is_settled : AttType → Preset → Bool
is_settled kind preset = is_cdata kind || option_map_or (λ text. bytes_eq (collapsed text) text) (value_in preset) true

-- ---- the constraints of a list

abbrev pub is_id_entry : Entry → Bool
is_id_entry e = is_id e.1.kind

abbrev pub is_notation_entry : Entry → Bool
is_notation_entry e = is_notation e.1.kind

-- One ID per Element Type
abbrev pub has_id : Definitions → Bool
has_id list = list_any is_id_entry list

-- One Notation per Element Type
abbrev pub has_notation : Definitions → Bool
has_notation list = list_any is_notation_entry list

-- what each definition of a list keeps: the tokens of its type are Nmtokens, and at least one
pub record IsSound (e : Entry) : Type 0 where
  pub tokens : IsProper (class_of_type e.1.kind)
  pub class : e.1.class ≡ class_of e.1.kind e.1.preset
  pub proper : IsProper e.1.class
  pub settled : IsTrue (is_settled e.1.kind e.1.preset)
  pub distinct : doubled e.1.kind ≡ None
  pub id : has_id_value e.1.kind e.1.preset ≡ false
  pub inside : is_outside e.1.kind e.1.preset ≡ false

-- no name stands twice
abbrev pub are_distinct : Definitions → Bool
are_distinct [] = true
are_distinct (e ∷ es) = is_none (definition_of es e.0) && are_distinct es

-- at most one of the definitions passes
abbrev pub at_most_one : (Entry → Bool) → Definitions → Bool
at_most_one p [] = true
at_most_one p (e ∷ es) = not (p e && list_any p es) && at_most_one p es

-- what a list of attributes keeps at every moment
pub record IsKept (list : Definitions) : Type 0 where
  pub names : IsTrue (are_distinct list)
  pub definitions : AllByRecursion IsSound list
  pub ids : IsTrue (at_most_one is_id_entry list)
  pub notations : IsTrue (at_most_one is_notation_entry list)
