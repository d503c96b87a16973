-- The bodies of entity declarations without references to parameter entities (XML 1.0, 4.2), read from the front.
use Rattle.std.specs.Prelude.{ℕ, List, [], ◌∷◌, drop, Bool, true, false, ◌==◌, ◌&&◌, is_some, bytes_eq, nat_eq, codes, Option, Some, None, option_map, option_and_then, if◌then◌else◌}
use Rattle.std.specs.List.{starts_with}
use Rattle.dtd_scanner.specs.Items.{first_is, is_quote}
use Rattle.dtd_scanner.specs.References.{begins_reference}
use Rattle.dtd_scanner.specs.Scanning.{reference_len}
use Rattle.text_fronts.specs.Fronts.{is_blank, read_space, read_name, spaced_name, word, after_word, read_literal}
use Rattle.entity_catalog.specs.declared.ids.Ids.{Ids}
use Rattle.declaration_bodies.specs.declared.entities.RawDef.{RawDef}
use Rattle.declaration_bodies.specs.declared.entities.RawDef.TheVariants.{Value, External, Unparsed}
use Rattle.declaration_bodies.specs.declared.entities.RawEntity.{RawEntity}
use Rattle.declaration_bodies.specs.Identifiers.{read_ids}

-- each `%` begins a reference to a parameter entity, and each `&` a general or character reference (production 9)
abbrev pub is_right : ℕ → List ℕ → Bool
is_right c text = if c == 38 then begins_reference text else if c == 37 then is_some (reference_len text) else true

unfoldable pub is_entity_value : List ℕ → Bool
is_entity_value [] = true
is_entity_value (c ∷ cs) = is_right c (c ∷ cs) && is_entity_value cs

-- a quoted value with S? behind
abbrev pub as_value : List ℕ × List ℕ → Option RawDef
as_value x = if is_entity_value x.0 && is_blank x.1 then Some (Value x.0) else None

-- behind S `NDATA`: S Name S?
abbrev pub notation_named : Ids → List ℕ × List ℕ → Option RawDef
notation_named ids x = if is_blank x.1 then Some (Unparsed ids x.0) else None

abbrev pub read_ndata : Ids → List ℕ → Option RawDef
read_ndata ids text = if bytes_eq (word text) (codes "NDATA") then option_and_then (notation_named ids) (spaced_name (after_word text)) else None

-- an external identifier with S? behind, or, of a general entity, with its notation
abbrev pub as_external : Bool → Ids × List ℕ → Option RawDef
as_external parameter x =
    if is_blank x.1 then Some (External x.0) else if parameter then None else option_and_then (read_ndata x.0) (read_space x.1)

abbrev pub read_def : Bool → List ℕ → Option RawDef
read_def parameter text =
    if first_is is_quote text then option_and_then as_value (read_literal text) else option_and_then (as_external parameter) (read_ids text)

-- behind the name: S and what it stands for
abbrev pub with_def : Bool → List ℕ × List ℕ → Option RawEntity
with_def parameter x = option_map (λ def. record { parameter = parameter; name = x.0; def = def }) (option_and_then (read_def parameter) (read_space x.1))

-- behind S: `%` S Name, or Name
abbrev pub entity_behind : List ℕ → Option RawEntity
entity_behind text =
    if starts_with nat_eq text (codes "%") then option_and_then (with_def true) (spaced_name (drop 1 text)) else option_and_then (with_def false) (read_name text)

-- the body of an entity declaration (productions 71 to 76)
unfoldable pub entity_of : List ℕ → Option RawEntity
entity_of body = option_and_then entity_behind (read_space body)
