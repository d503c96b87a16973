-- How the bodies of declarations are written, without references to parameter entities (XML 1.0, 3.2, 4.2, 4.2.2 and 4.7).
use Rattle.std.specs.Prelude.{◌≡◌, ℕ, Bool, true, false, List, [], ◌++◌, codes, IsTrue}
use Rattle.std.specs.List.{list_all}
use Rattle.jats_chars.specs.Classes.{is_pubid_char}
use Rattle.jats_chars.specs.Names.{is_name}
use Rattle.text_fronts.specs.Fronts.{trimmed}
use Rattle.text_fronts.specs.Grammar.{IsBlank, IsSpace, IsLiteral}
use Rattle.entity_catalog.specs.Collapse.{collapse_public}
use Rattle.entity_catalog.specs.declared.ids.Ids.{Ids}
use Rattle.entity_catalog.specs.declared.ids.Ids.TheVariants.{System, Public, PublicOnly}
use Rattle.declaration_bodies.specs.declared.entities.RawDef.{RawDef}
use Rattle.declaration_bodies.specs.declared.entities.RawDef.TheVariants.{Value, External, Unparsed}
use Rattle.declaration_bodies.specs.declared.entities.RawEntity.{RawEntity}
use Rattle.declaration_bodies.specs.Identifiers.{as_system}
use Rattle.declaration_bodies.specs.Entities.{is_entity_value}

-- ---- elements

-- without white space at its ends
abbrev pub IsTrimmed : List ℕ → Type 0
IsTrimmed text = trimmed text ≡ text

-- S Name S content S? (production 45)
pub record IsElement (body name content : List ℕ) : Type 0 where
  pub before : List ℕ
  pub middle : List ℕ
  pub after : List ℕ
  pub form : body ≡ before ++ (name ++ (middle ++ (content ++ after)))
  pub is_before : IsSpace before
  pub is_named : IsTrue (is_name name)
  pub is_middle : IsSpace middle
  pub is_content : IsTrimmed content
  pub is_after : IsBlank after

-- ---- identifiers

-- a system literal (production 11), in which CR stands for LF
pub record IsSystem (text system : List ℕ) : Type 0 where
  pub inside : List ℕ
  pub literal : IsLiteral text inside
  pub same : system ≡ as_system inside

-- a literal of PubidChars (production 12), which is collapsed (4.2.2)
pub record IsPublic (text public : List ℕ) : Type 0 where
  pub inside : List ℕ
  pub literal : IsLiteral text inside
  pub chars : IsTrue (list_all is_pubid_char inside)
  pub same : public ≡ collapse_public inside

-- `SYSTEM` S literal
pub record IsSystemId (text system : List ℕ) : Type 0 where
  pub space : List ℕ
  pub literal : List ℕ
  pub form : text ≡ codes "SYSTEM" ++ (space ++ literal)
  pub is_space : IsSpace space
  pub is_system : IsSystem literal system

-- `PUBLIC` S public literal (production 83)
pub record IsPublicId (text public : List ℕ) : Type 0 where
  pub space : List ℕ
  pub literal : List ℕ
  pub form : text ≡ codes "PUBLIC" ++ (space ++ literal)
  pub is_space : IsSpace space
  pub is_public : IsPublic literal public

-- `PUBLIC` S public literal S literal
pub record IsPublicSystemId (text public system : List ℕ) : Type 0 where
  pub front : List ℕ
  pub space : List ℕ
  pub literal : List ℕ
  pub form : text ≡ front ++ (space ++ literal)
  pub is_front : IsPublicId front public
  pub is_space : IsSpace space
  pub is_system : IsSystem literal system

-- an external identifier (production 75)
abbrev pub IsExternal : List ℕ → Ids → Type 0
IsExternal text (System system) = IsSystemId text system
IsExternal text (Public public system) = IsPublicSystemId text public system
IsExternal text (PublicOnly public) = ⊥

-- the identifiers of a notation: an external identifier, or a public identifier alone (production 82)
abbrev pub IsNotationId : List ℕ → Ids → Type 0
IsNotationId text (System system) = IsSystemId text system
IsNotationId text (Public public system) = IsPublicSystemId text public system
IsNotationId text (PublicOnly public) = IsPublicId text public

-- ---- entities

-- a literal in which each `%` and `&` begins a reference (production 9)
pub record IsEntityValue (text value : List ℕ) : Type 0 where
  pub literal : IsLiteral text value
  pub references : IsTrue (is_entity_value value)

-- an external identifier S `NDATA` S Name (productions 73 and 76)
pub record IsUnparsed (text : List ℕ) (ids : Ids) (notation : List ℕ) : Type 0 where
  pub external : List ℕ
  pub before : List ℕ
  pub middle : List ℕ
  pub form : text ≡ external ++ (before ++ (codes "NDATA" ++ (middle ++ notation)))
  pub is_external : IsExternal external ids
  pub is_before : IsSpace before
  pub is_middle : IsSpace middle
  pub is_named : IsTrue (is_name notation)

-- what a parameter entity, or a general one, is declared as (productions 73 and 74)
abbrev pub IsDef : Bool → List ℕ → RawDef → Type 0
IsDef parameter text (Value value) = IsEntityValue text value
IsDef parameter text (External ids) = IsExternal text ids
IsDef true text (Unparsed ids notation) = ⊥
IsDef false text (Unparsed ids notation) = IsUnparsed text ids notation

-- `%` S in front of the name of a parameter entity, and nothing in front of that of a general one
abbrev pub IsMark : Bool → List ℕ → Type 0
IsMark true text = (space : List ℕ) × (text ≡ codes "%" ++ space) × IsSpace space
IsMark false text = text ≡ []

-- S Name S def S?, or S `%` S Name S def S? (productions 71 and 72)
pub record IsEntity (body : List ℕ) (entity : RawEntity) : Type 0 where
  pub before : List ℕ
  pub mark : List ℕ
  pub middle : List ℕ
  pub def : List ℕ
  pub after : List ℕ
  pub form : body ≡ before ++ (mark ++ (entity.name ++ (middle ++ (def ++ after))))
  pub is_before : IsSpace before
  pub is_mark : IsMark entity.parameter mark
  pub is_named : IsTrue (is_name entity.name)
  pub is_middle : IsSpace middle
  pub is_def : IsDef entity.parameter def entity.def
  pub is_after : IsBlank after

-- ---- notations

-- S Name S identifiers S? (production 82)
pub record IsNotation (body name : List ℕ) (ids : Ids) : Type 0 where
  pub before : List ℕ
  pub middle : List ℕ
  pub text : List ℕ
  pub after : List ℕ
  pub form : body ≡ before ++ (name ++ (middle ++ (text ++ after)))
  pub is_before : IsSpace before
  pub is_named : IsTrue (is_name name)
  pub is_middle : IsSpace middle
  pub is_ids : IsNotationId text ids
  pub is_after : IsBlank after
