-- How the body of an attribute-list declaration is written (XML 1.0, 3.3, productions 52 to 60), without references to parameter entities.
use Rattle.std.specs.Prelude.{◌≡◌, ◌==◌, ℕ, Bool, true, not, ◌&&◌, ◌||◌, List, [], ◌∷◌, ◌++◌, codes, IsTrue, if◌then◌else◌}
use Rattle.std.specs.List.{list_all}
use Rattle.jats_chars.specs.Names.{is_name, is_nmtoken}
use Rattle.dtd_scanner.specs.References.{begins_reference}
use Rattle.text_fronts.specs.Grammar.{IsBlank, IsSpace}
use Rattle.attribute_types.specs.declared.types.AttType.{AttType}
use Rattle.attribute_types.specs.declared.types.AttType.TheVariants as kind
use Rattle.attlist_merge.specs.declared.raw.RawPreset.{RawPreset}
use Rattle.attlist_merge.specs.declared.raw.RawPreset.TheVariants as preset
use Rattle.attlist_merge.specs.declared.raw.RawAtt.{RawAtt}
use Rattle.attlist_merge.specs.declared.raw.RawAttList.{RawAttList}

-- ---- values

-- each `&` begins a reference
unfoldable pub is_value : List ℕ → Bool
is_value [] = true
is_value (c ∷ cs) = (if c == 0x26 then begins_reference (c ∷ cs) else true) && is_value cs

-- the value between two quotes, without that quote inside
pub record IsQuoted (text value : List ℕ) : Type 0 where
  pub quote : ℕ
  pub is_quote : IsTrue (quote == 0x22 || quote == 0x27)
  pub form : text ≡ quote ∷ (value ++ quote ∷ [])
  pub within : IsTrue (list_all (λ c. not (c == quote)) value)
  pub references : IsTrue (is_value value)

-- ---- types

-- a Nmtoken with white space round it, in front of a rest
pub record IsToken (text token rest : List ℕ) : Type 0 where
  pub before : List ℕ
  pub after : List ℕ
  pub form : text ≡ before ++ (token ++ (after ++ rest))
  pub left : IsBlank before
  pub right : IsBlank after
  pub is_token : IsTrue (is_nmtoken token)

-- such tokens, at least one, with `|` between two and `)` behind the last
abbrev pub AreTokens : List ℕ → List (List ℕ) → Type 0
AreTokens text [] = ⊥
AreTokens text (t ∷ []) = IsToken text t (0x29 ∷ [])
AreTokens text (t ∷ u ∷ ts) = (rest : List ℕ) × IsToken text t (0x7C ∷ rest) × AreTokens rest (u ∷ ts)

-- tokens in parentheses
pub record IsGroup (text : List ℕ) (tokens : List (List ℕ)) : Type 0 where
  pub inside : List ℕ
  pub form : text ≡ 0x28 ∷ inside
  pub are_tokens : AreTokens inside tokens

-- `NOTATION` S and names in parentheses
pub record IsNotation (text : List ℕ) (names : List (List ℕ)) : Type 0 where
  pub space : List ℕ
  pub group : List ℕ
  pub form : text ≡ codes "NOTATION" ++ (space ++ group)
  pub is_space : IsSpace space
  pub is_group : IsGroup group names
  pub are_names : IsTrue (list_all is_name names)

abbrev pub IsType : List ℕ → AttType → Type 0
IsType text kind.Cdata = text ≡ codes "CDATA"
IsType text kind.Id = text ≡ codes "ID"
IsType text kind.Idref = text ≡ codes "IDREF"
IsType text kind.Idrefs = text ≡ codes "IDREFS"
IsType text kind.Entity = text ≡ codes "ENTITY"
IsType text kind.Entities = text ≡ codes "ENTITIES"
IsType text kind.Nmtoken = text ≡ codes "NMTOKEN"
IsType text kind.Nmtokens = text ≡ codes "NMTOKENS"
IsType text (kind.Notation names) = IsNotation text names
IsType text (kind.Enumeration tokens) = IsGroup text tokens

-- ---- presets

-- `#FIXED` S and a quoted value
pub record IsFixed (text value : List ℕ) : Type 0 where
  pub space : List ℕ
  pub quoted : List ℕ
  pub form : text ≡ codes "#FIXED" ++ (space ++ quoted)
  pub is_space : IsSpace space
  pub is_quoted : IsQuoted quoted value

abbrev pub IsPreset : List ℕ → RawPreset → Type 0
IsPreset text preset.Required = text ≡ codes "#REQUIRED"
IsPreset text preset.Implied = text ≡ codes "#IMPLIED"
IsPreset text (preset.Value value) = IsQuoted text value
IsPreset text (preset.Fixed value) = IsFixed text value

-- ---- definitions

-- S Name S type S preset
pub record IsDefinition (text : List ℕ) (att : RawAtt) : Type 0 where
  pub before : List ℕ
  pub middle : List ℕ
  pub kind : List ℕ
  pub after : List ℕ
  pub preset : List ℕ
  pub form : text ≡ before ++ (att.name ++ (middle ++ (kind ++ (after ++ preset))))
  pub is_before : IsSpace before
  pub is_name : IsTrue (is_name att.name)
  pub is_middle : IsSpace middle
  pub is_kind : IsType kind att.kind
  pub is_after : IsSpace after
  pub is_preset : IsPreset preset att.preset

-- any number of definitions, and S?
abbrev pub AreDefinitions : List ℕ → List RawAtt → Type 0
AreDefinitions text [] = IsBlank text
AreDefinitions text (att ∷ atts) = (front : List ℕ) × (rest : List ℕ) × (text ≡ front ++ rest) × IsDefinition front att × AreDefinitions rest atts

-- S Name, and the definitions
pub record IsAttlist (body : List ℕ) (raw : RawAttList) : Type 0 where
  pub before : List ℕ
  pub rest : List ℕ
  pub form : body ≡ before ++ (raw.element ++ rest)
  pub is_before : IsSpace before
  pub is_name : IsTrue (is_name raw.element)
  pub definitions : AreDefinitions rest raw.atts
