-- Where a reading stops, and why.
use Rattle.std.specs.Prelude.{ℕ, List, [], ◌∷◌, Option, Some, None}
use Rattle.jats_chars.specs.declared.decoding.DecodeFault.{DecodeFault}
use Rattle.jats_chars.specs.declared.decoding.DecodeFault.TheVariants as decoding
use Rattle.jats_fault.specs.declared.fault.Fault.{Fault}
use Rattle.entity_catalog.specs.declared.faults.CatalogFault.{CatalogFault}
use Rattle.entity_catalog.specs.declared.faults.CatalogFault.TheVariants as catalog
use Rattle.pe_expansion.specs.declared.faults.PeFault.{PeFault}
use Rattle.pe_expansion.specs.declared.faults.PeFault.TheVariants as pe
use Rattle.decl_set.specs.declared.faults.DeclFault.{DeclFault}
use Rattle.decl_set.specs.declared.faults.DeclFault.TheVariants as decl
use Rattle.std.specs.Fmt.{decimal}
use Rattle.module_reader.specs.declared.standing.Inner.{Inner}
use Rattle.module_reader.specs.declared.standing.Standing.{Standing}
use Rattle.jats_fault.specs.declared.numbers.TheConstants as number

-- a refusal by its number, with its place and details
abbrev pub refusal : ℕ → List ℕ → ℕ → List (List ℕ) → Fault
refusal number «module» offset details = record { number = number; place = record { «module» = «module»; offset = offset }; details = details }

-- the text of a module
abbrev pub module_text : List ℕ → Standing
module_text name = record { inmost = name; inner = None }

-- the place in the module of what begins at a place of the text
abbrev pub place_by : Option Inner → ℕ → ℕ
place_by None at = at
place_by (Some p) at = p.place

abbrev pub place_in : Standing → ℕ → ℕ
place_in c at = place_by c.inner at

-- a refusal of what begins at a place of the text
abbrev pub refused : Standing → ℕ → ℕ → List (List ℕ) → Fault
refused c at number details = refusal number c.inmost (place_in c at) details

abbrev pub not_ended_by : Standing → ℕ → Option Inner → Fault
not_ended_by c at None = refused c at number.MALFORMED []
not_ended_by c at (Some p) = refused c at number.PE_NESTING (p.name ∷ [])

-- an item that begins there does not end in the text
abbrev pub not_ended : Standing → ℕ → Fault
not_ended c at = not_ended_by c at c.inner

-- what stops an expansion
abbrev pub pe_stop : Standing → ℕ → PeFault → Fault
pe_stop c at (pe.UndeclaredPe name) = refused c at number.UNDECLARED_PE (name ∷ [])
pe_stop c at (pe.RecursivePe name) = refused c at number.RECURSIVE_PE (name ∷ [])
pe_stop c at (pe.PeNesting name) = refused c at number.PE_NESTING (name ∷ [])
pe_stop c at (pe.EntityTooDeep name) = refused c at number.ENTITY_TOO_DEEP (name ∷ [])
pe_stop c at (pe.ExpansionOver name) = refused c at number.EXPANSION_OVER (name ∷ [])
pe_stop c at (pe.NotLoaded name) = refused c at number.MALFORMED []
pe_stop c at pe.Malformed = refused c at number.MALFORMED []
pe_stop c at pe.NoMemory = refused c at number.MALFORMED []

-- why a declaration is refused
abbrev pub decl_stop : Standing → ℕ → DeclFault → Fault
decl_stop c at decl.Malformed = refused c at number.MALFORMED []
decl_stop c at (decl.EntityTooDeep entity) = refused c at number.ENTITY_TOO_DEEP (entity ∷ [])
decl_stop c at (decl.ExpansionOver entity) = refused c at number.EXPANSION_OVER (entity ∷ [])
decl_stop c at (decl.EntityUndeclared entity) = refused c at number.ENTITY_UNDECLARED (entity ∷ [])
decl_stop c at (decl.LessThanInValue name) = refused c at number.LESS_THAN_IN_VALUE (name ∷ [])
decl_stop c at (decl.RecursiveEntity entity) = refused c at number.RECURSIVE_ENTITY (entity ∷ [])
decl_stop c at (decl.DuplicateNotation name) = refused c at number.DUPLICATE_NOTATION (name ∷ [])
decl_stop c at (decl.DuplicateElement name) = refused c at number.DUPLICATE_ELEMENT (name ∷ [])
decl_stop c at (decl.Ambiguous name p q) = refused c at number.AMBIGUOUS (name ∷ decimal p ∷ decimal q ∷ [])
decl_stop c at (decl.IdPreset element name) = refused c at number.ID_PRESET (element ∷ name ∷ [])
decl_stop c at (decl.SecondId element name) = refused c at number.SECOND_ID (element ∷ name ∷ [])
decl_stop c at (decl.SecondNotation element name) = refused c at number.SECOND_NOTATION (element ∷ name ∷ [])
decl_stop c at (decl.NotationOnEmpty element name) = refused c at number.NOTATION_ON_EMPTY (element ∷ name ∷ [])
decl_stop c at (decl.NotationUndeclared owner notation) = refused c at number.NOTATION_UNDECLARED (owner ∷ notation ∷ [])
decl_stop c at (decl.DuplicateToken element name token) = refused c at number.DUPLICATE_TOKEN (element ∷ name ∷ token ∷ [])
decl_stop c at (decl.PresetNotInClass element name) = refused c at number.PRESET_NOT_IN_CLASS (element ∷ name ∷ [])
decl_stop c at (decl.ElementsOver name) = refused c at number.ELEMENTS_OVER (name ∷ [])
decl_stop c at (decl.FollowsOver name) = refused c at number.FOLLOWS_OVER (name ∷ [])
decl_stop c at decl.NoMemory = refused c at number.MALFORMED []

-- why the bytes of a file are no text
abbrev pub decode_stop : List ℕ → DecodeFault → Fault
decode_stop name (decoding.NotUtf8 byte) = refusal number.NOT_UTF8 name byte []
decode_stop name (decoding.NotChar byte) = refusal number.NOT_CHAR name byte []
decode_stop name decoding.BadTextDecl = refusal number.BAD_TEXT_DECL name 0 []
decode_stop name decoding.EncodingOther = refusal number.ENCODING_OTHER name 0 []
decode_stop name decoding.NoMemory = refusal number.BAD_TEXT_DECL name 0 []

-- why a text is no catalog
abbrev pub catalog_stop : List ℕ → CatalogFault → Fault
catalog_stop name (catalog.Malformed line) = refusal number.CATALOG_MALFORMED name line []
catalog_stop name (catalog.PathEscapes line) = refusal number.PATH_ESCAPES name line []
catalog_stop name catalog.NoMemory = refusal number.CATALOG_MALFORMED name 0 []
