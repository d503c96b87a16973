-- What the text of a module or entity does to a reading (XML 1.0, 2.8, 3.2 to 3.4, 4.2 and 4.7).
use Rattle.std.specs.Prelude.{ℕ, zero, suc, ◌+◌, ◌-◌, List, [], ◌∷◌, ◌++◌, length, take, drop, is_some, Bool, true, false, ◌&&◌, nat_lt, nat_eq, bytes_eq, codes, Option, Some, None, unwrap_or, slice_get, Result, Ok, Err, if◌then◌else◌}
use Rattle.std.specs.List.{starts_with}
use Rattle.dtd_scanner.specs.Scanning.{first_item}
use Rattle.dtd_scanner.specs.Parts.{contents_of}
use Rattle.dtd_scanner.specs.References.{named}
use Rattle.dtd_scanner.specs.Walk.{◌>>=◌, over}
use Rattle.dtd_scanner.specs.declared.item.Item.{Item}
use Rattle.dtd_scanner.specs.declared.item.ItemKind.{ItemKind}
use Rattle.dtd_scanner.specs.declared.item.ItemKind.TheVariants.{Blank, Comment, Pi, Reference, SectionStart, ElementDecl, AttlistDecl, EntityDecl, NotationDecl}
use Rattle.dtd_scanner.specs.declared.item.ScanFault.{ScanFault}
use Rattle.dtd_scanner.specs.declared.item.ScanFault.TheVariants.{Malformed, Unclosed}
use Rattle.jats_fault.specs.declared.fault.Fault.{Fault}
use Rattle.content_models.specs.declared.content.Content.{Content}
use Rattle.content_models.specs.Parses.{most_open, occurrences, repeated_in}
use Rattle.content_models.specs.Reading.{content_of}
use Rattle.attlist_merge.specs.declared.raw.RawAttList.{RawAttList}
use Rattle.attlist_merge.specs.Reading.{raw_list_of}
use Rattle.entity_catalog.specs.Resolution.{resolve}
use Rattle.entity_catalog.specs.declared.ids.Ids.{Ids}
use Rattle.pe_expansion.specs.Bound.{Bound, text_bound}
use Rattle.pe_expansion.specs.Expansion.{Written, literal_of, plain_body_of}
use Rattle.pe_expansion.specs.Ignored.{ignored_end}
use Rattle.pe_expansion.specs.Opening.{opening}
use Rattle.pe_expansion.specs.declared.bindings.PeText.{PeText}
use Rattle.pe_expansion.specs.declared.bindings.PeText.TheVariants.{Inner, Outer}
use Rattle.decl_set.specs.Declarations.{Declarations, entity_in}
use Rattle.decl_set.specs.Declaring.{with_element, with_attributes, with_entity, with_notation}
use Rattle.decl_set.specs.declared.entity.EntityDef.{EntityDef}
use Rattle.decl_set.specs.declared.entity.EntityDef.TheVariants as entity
use Rattle.decl_set.specs.declared.faults.DeclFault.{DeclFault}
use Rattle.declaration_bodies.specs.declared.entities.RawDef.{RawDef}
use Rattle.declaration_bodies.specs.declared.entities.RawDef.TheVariants.{Value, External, Unparsed}
use Rattle.declaration_bodies.specs.declared.entities.RawEntity.{RawEntity}
use Rattle.module_reader.specs.declared.standing.Standing.{Standing}
use Rattle.module_reader.specs.declared.state.State.{State}
use Rattle.text_fronts.specs.Fronts.{trimmed}
use Rattle.declaration_bodies.specs.Elements.{element_of}
use Rattle.declaration_bodies.specs.Entities.{entity_of}
use Rattle.declaration_bodies.specs.Notations.{notation_of}
use Rattle.module_reader.specs.Sources.{Source, asking}
use Rattle.module_reader.specs.Stops.{module_text, place_in, refused, not_ended, decl_stop}
use Rattle.jats_fault.specs.declared.numbers.TheConstants as number

abbrev pub Names : Type 0
Names = List (List ℕ)

-- ---- declarations, whose bodies are expanded: each either changes the state or stops the reading

abbrev pub declares : Standing → ℕ → State → Result Declarations DeclFault → Result State Fault
declares c at s (Ok set) = Ok (record s { set = set })
declares c at s (Err fault) = Err (decl_stop c at fault)

-- the names of a content are not too many, and a mixed content names none twice
abbrev pub element_named : Standing → ℕ → State → List ℕ → Content → Option (List ℕ) → Result State Fault
element_named c at s name content (Some again) = Err (refused c at number.DUPLICATE_MIXED_NAME (name ∷ again ∷ []))
element_named c at s name content None = declares c at s (with_element s.set name content)

abbrev pub element_spelled : Standing → ℕ → State → List ℕ → Option Content → Result State Fault
element_spelled c at s name None = Err (refused c at number.MALFORMED [])
element_spelled c at s name (Some content) =
    if nat_lt 1024 (occurrences content) then Err (refused c at number.POSITIONS_OVER (name ∷ [])) else element_named c at s name content (repeated_in content)

abbrev pub element_read : Standing → ℕ → State → Option (List ℕ × List ℕ) → Result State Fault
element_read c at s None = Err (refused c at number.MALFORMED [])
element_read c at s (Some x) = element_spelled c at s x.0 (content_of x.1)

-- no more than 64 parentheses are open, and the body has its form
unfoldable pub element_declared : Standing → ℕ → State → List ℕ → Result State Fault
element_declared c at s body = if nat_lt 64 (most_open 0 body) then Err (refused c at number.GROUP_TOO_DEEP []) else element_read c at s (element_of body)

abbrev pub counting : Standing → ℕ → State → Result (Declarations × ℕ) DeclFault → Result State Fault
counting c at s (Ok r) = Ok (record s { set = r.0; spent = r.1 })
counting c at s (Err fault) = Err (decl_stop c at fault)

abbrev pub attributes_read : Standing → ℕ → State → Option RawAttList → Result State Fault
attributes_read c at s None = Err (refused c at number.MALFORMED [])
attributes_read c at s (Some raw) = counting c at s (with_attributes s.set s.spent raw)

unfoldable pub attributes_declared : Standing → ℕ → State → List ℕ → Result State Fault
attributes_declared c at s body = attributes_read c at s (raw_list_of body)

-- what an entity value stands for, with these names open
abbrev pub valued : Source → Names → Standing → ℕ → State → List ℕ → Result (State × Written) Fault
valued source names c at s raw = asking source c at (λ t. literal_of t.bound names t.spent raw) s

-- a name that is new is bound, behind those that are
abbrev pub bound_as : State → List ℕ → PeText → State
bound_as s name text = if is_some (text_bound s.bound name) then s else record s { bound = s.bound ++ (name, text) ∷ [] }

-- a parameter entity that is new is bound; an outer one keeps the module in whose reading it is declared
abbrev pub bound_by : Source → Names → Standing → ℕ → State → List ℕ → RawDef → Result State Fault
bound_by source names c at s name (Value raw) = valued source names c at s raw >>= λ r. Ok (bound_as (record r.0 { spent = r.1.spent }) name (Inner r.1.text))
bound_by source names c at s name (External ids) = Ok (bound_as s name (Outer ids c.inmost None))
bound_by source names c at s name (Unparsed ids notation) = Ok s

abbrev pub declared_as : State → List ℕ → EntityDef → State
declared_as s name def = record s { set = with_entity s.set name def }

-- a general entity that is new is declared
abbrev pub declared_by : Source → Names → Standing → ℕ → State → List ℕ → RawDef → Result State Fault
declared_by source names c at s name (Value raw) = valued source names c at s raw >>= λ r. Ok (declared_as (record r.0 { spent = r.1.spent }) name (entity.Internal r.1.text))
declared_by source names c at s name (External ids) = Ok (declared_as s name (entity.External ids))
declared_by source names c at s name (Unparsed ids notation) = Ok (declared_as s name (entity.Unparsed ids notation))

-- a name that is there is passed over, since the first declaration binds
abbrev pub entity_new : Source → Names → Standing → ℕ → State → RawEntity → Bool → Result State Fault
entity_new source names c at s e true = if is_some (text_bound s.bound e.name) then Ok s else bound_by source names c at s e.name e.def
entity_new source names c at s e false = if is_some (entity_in s.set e.name) then Ok s else declared_by source names c at s e.name e.def

abbrev pub entity_read : Source → Names → Standing → ℕ → State → Option RawEntity → Result State Fault
entity_read source names c at s None = Err (refused c at number.MALFORMED [])
entity_read source names c at s (Some e) = entity_new source names c at s e e.parameter

unfoldable pub entity_declared : Source → Names → Standing → ℕ → State → List ℕ → Result State Fault
entity_declared source names c at s body = entity_read source names c at s (entity_of body)

abbrev pub notation_read : Standing → ℕ → State → Option (List ℕ × Ids) → Result State Fault
notation_read c at s None = Err (refused c at number.MALFORMED [])
notation_read c at s (Some x) = declares c at s (with_notation s.set x.0 x.1)

unfoldable pub notation_declared : Standing → ℕ → State → List ℕ → Result State Fault
notation_declared c at s body = notation_read c at s (notation_of body)

-- a declaration of a kind
abbrev pub declared : Source → Names → Standing → ℕ → ItemKind → State → List ℕ → Result State Fault
declared source names c at ElementDecl s body = element_declared c at s body
declared source names c at AttlistDecl s body = attributes_declared c at s body
declared source names c at EntityDecl s body = entity_declared source names c at s body
declared source names c at NotationDecl s body = notation_declared c at s body
declared source names c at kind s body = Ok s

-- a body without its references, and the count of characters that they included
abbrev pub expanded : Source → Names → Standing → ℕ → State → List ℕ → Result (State × Written) Fault
expanded source names c at s body = asking source c at (λ t. plain_body_of t.bound names t.spent body) s

-- a declaration, whose body is expanded first
abbrev pub declaration : Source → Names → Standing → ℕ → ItemKind → State → List ℕ → Result State Fault
declaration source names c at kind s body =
    expanded source names c at s body >>= λ r. declared source names c at kind (record r.0 { spent = r.1.spent }) r.1.text

-- ---- items

-- the state, and the places where the INCLUDE sections start that are open in this text
pub record Local : Type 0 where
  pub state : State
  pub sections : List ℕ

abbrev pub holding : Local → State → Local
holding l s = record { state = s; sections = l.sections }

-- what a text does, with these names open, standing there
abbrev pub Deeper : Type 0
Deeper = Names → Standing → State → List ℕ → Result State Fault

-- where the text of an entity stands: as a module's where it is outer
abbrev pub standing_of : Source → Standing → ℕ → List ℕ → Option PeText → Standing
standing_of source c at name (Some (Outer ids base text)) = module_text (unwrap_or (resolve source.catalog base ids) [])
standing_of source c at name (Some (Inner text)) = record { inmost = c.inmost; inner = Some (record { place = place_in c at; name = name }) }
standing_of source c at name None = record { inmost = c.inmost; inner = Some (record { place = place_in c at; name = name }) }

-- the text of a name, by the state in which it opened and the count of characters with it
abbrev pub entered : Source → Deeper → Names → Standing → ℕ → List ℕ → State × (List ℕ × ℕ) → Result State Fault
entered source deeper names c at name r =
    deeper (names ++ name ∷ []) (standing_of source c at name (text_bound r.0.bound name)) (record r.0 { spent = r.1.1 }) r.1.0

-- a reference between declarations: its text is read by itself, with its name open
abbrev pub referred : Source → Deeper → Names → Standing → ℕ → State → List ℕ → Result State Fault
referred source deeper names c at s name = asking source c at (λ t. opening t.bound names t.spent name) s >>= entered source deeper names c at name

-- the sections that are open: one more, or one less
abbrev pub section_opened : Local → ℕ → State → Local
section_opened l at s = record { state = s; sections = l.sections ++ at ∷ [] }

abbrev pub section_closed : Local → Local
section_closed l = record { state = l.state; sections = take (length l.sections - 1) l.sections }

-- an ignored section ends behind its contents
abbrev pub ignored : Standing → ℕ → Local → State → Option ℕ → Result (Local × ℕ) Fault
ignored c at l s None = Err (not_ended c at)
ignored c at l s (Some end) = Ok (holding l s, end)

-- a section by its keyword
abbrev pub section_by : Standing → ℕ → Local → List ℕ → ℕ → State → List ℕ → Result (Local × ℕ) Fault
section_by c at l text len s keyword =
    if bytes_eq keyword (codes "INCLUDE") then Ok (section_opened l at s, len)
    else if bytes_eq keyword (codes "IGNORE") then ignored c at l s (ignored_end text len)
    else Err (refused c at number.MALFORMED [])

-- the start of a section, whose keyword part is expanded as a body
abbrev pub section : Source → Names → Standing → ℕ → Local → List ℕ → ℕ → List ℕ → Result (Local × ℕ) Fault
section source names c at l text len keyword =
    expanded source names c at l.state keyword >>= λ r. section_by c at l text len (record r.0 { spent = r.1.spent }) (trimmed r.1.text)

abbrev pub after : Local → ℕ → Result State Fault → Result (Local × ℕ) Fault
after l len (Ok s) = Ok (holding l s, len)
after l len (Err fault) = Err fault

-- an item of a kind and length, with which the text begins
abbrev pub item_by : Source → Deeper → Names → Standing → ℕ → Local → List ℕ → ℕ → ItemKind → Result (Local × ℕ) Fault
item_by source deeper names c at l text len Blank = Ok (l, len)
item_by source deeper names c at l text len Comment = Ok (l, len)
item_by source deeper names c at l text len Pi = Ok (l, len)
item_by source deeper names c at l text len Reference = after l len (referred source deeper names c at l.state (named len text))
item_by source deeper names c at l text len SectionStart = section source names c at l text len (contents_of text 0 SectionStart len)
item_by source deeper names c at l text len kind = after l len (declaration source names c at kind l.state (contents_of text 0 kind len))

-- no item stands at the place
abbrev pub scan_stop : Standing → ℕ → ScanFault → Fault
scan_stop c at Malformed = refused c at number.MALFORMED []
scan_stop c at Unclosed = not_ended c at

abbrev pub item_at : Source → Deeper → Names → Standing → ℕ → Local → List ℕ → Result Item ScanFault → Result (Local × ℕ) Fault
item_at source deeper names c at l text (Ok item) = item_by source deeper names c at l text item.end item.kind
item_at source deeper names c at l text (Err fault) = Err (scan_stop c at fault)

-- whether the text begins with the end of an open section
abbrev pub ends_section : List ℕ → List ℕ → Bool
ends_section sections text = nat_lt 0 (length sections) && starts_with nat_eq text (codes "]]>")

-- at the first place where an item would begin and `]]>` stands a section ends; else an item stands there
abbrev pub item_step : Source → Deeper → Names → Standing → ℕ → Local → List ℕ → Result (Local × ℕ) Fault
item_step source deeper names c at l text =
    if ends_section l.sections text then Ok (section_closed l, 3) else item_at source deeper names c at l text (first_item text)

abbrev pub ended_by : Standing → State → Option ℕ → Result State Fault
ended_by c s None = Ok s
ended_by c s (Some start) = Err (not_ended c start)

-- at the end of a text no section is open
abbrev pub ended : Standing → Local → Result State Fault
ended c l = ended_by c l.state (slice_get l.sections (length l.sections - 1))

-- What a text does to the state, item by item, each text that it includes being one level deeper. A text at the last level
-- includes none, since 32 names are open there.
abbrev pub reading : ℕ → Source → Deeper
reading zero source names c s text = Err (refused c 0 20 [])
reading (suc levels) source names c s text =
    over (item_step source (reading levels source) names c) 0 (record { state = s; sections = [] }) text >>= ended c

-- what the text of a module does, with no names open
unfoldable pub module_read : Source → List ℕ → State → List ℕ → Result State Fault
module_read source name s text = reading 33 source [] (module_text name) s text
