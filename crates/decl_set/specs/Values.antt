-- What the value of an attribute stands for (XML 1.0, 3.3.3, 4.1, 4.4 and 4.6).
use Rattle.std.specs.Prelude.{ℕ, zero, suc, ◌+◌, ◌-◌, List, [], ◌∷◌, ◌++◌, length, ◌==◌, bytes_eq, Option, Some, None, option_map, Result, Ok, Err, nat_lt, nat_eq, codes, if◌then◌else◌}
use Rattle.std.specs.List.{starts_with}
use Rattle.std.specs.Map.{lookup}
use Rattle.jats_chars.specs.Classes.{is_space}
use Rattle.dtd_scanner.specs.References.{char_reference, named}
use Rattle.dtd_scanner.specs.Scanning.{reference_len}
use Rattle.dtd_scanner.specs.Walk.{◌>>=◌, over}
use Rattle.pe_expansion.specs.Expansion.{Written, with}
use Rattle.pe_expansion.specs.Opening.{is_open, most_open, most_included}
use Rattle.decl_set.specs.Declarations.{Entity}
use Rattle.decl_set.specs.declared.entity.EntityDef.{EntityDef}
use Rattle.decl_set.specs.declared.entity.EntityDef.TheVariants.{Internal, External, Unparsed}
use Rattle.decl_set.specs.declared.pieces.Kind.{Kind}
use Rattle.decl_set.specs.declared.pieces.Kind.TheVariants.{Char, LessThan, Named}
use Rattle.decl_set.specs.declared.pieces.Piece.{Piece}
use Rattle.decl_set.specs.declared.faults.ValueFault.{ValueFault}
use Rattle.decl_set.specs.declared.faults.ValueFault.TheVariants as fault

-- a reference to a character or to a general entity, with which the text begins
abbrev pub reference_piece : List ℕ → List ℕ → Option Piece
reference_piece after text =
    if starts_with nat_eq after (codes "#") then option_map (λ r. record { kind = Char r.0; len = r.1 }) (char_reference text)
    else option_map (λ n. record { kind = Named; len = n }) (reference_len text)

-- The first piece of a value: a reference, a white space character, which is a space, a `<`, or another character. There is
-- none where `&` begins no reference.
unfoldable pub value_piece : List ℕ → Option Piece
value_piece [] = None
value_piece (c ∷ cs) =
    if c == 38 then reference_piece cs (c ∷ cs)
    else if is_space c then Some (record { kind = Char 32; len = 1 })
    else if c == 60 then Some (record { kind = LessThan; len = 1 })
    else Some (record { kind = Char c; len = 1 })

-- the character of a predefined entity, whatever is declared
unfoldable pub predefined : List ℕ → Option ℕ
predefined name =
    if bytes_eq name (codes "lt") then Some 60
    else if bytes_eq name (codes "gt") then Some 62
    else if bytes_eq name (codes "amp") then Some 38
    else if bytes_eq name (codes "apos") then Some 39
    else if bytes_eq name (codes "quot") then Some 34
    else None

-- the text, and the count of included characters with it
abbrev pub counted : List ℕ → ℕ → List ℕ → Result (List ℕ × ℕ) ValueFault
counted name spent text = if nat_lt most_included (spent + length text) then Err (fault.ExpansionOver name) else Ok (text, spent + length text)

-- the text of an internal entity
abbrev pub entered : List (List ℕ) → ℕ → List ℕ → List ℕ → Result (List ℕ × ℕ) ValueFault
entered names spent name text =
    if is_open names name then Err (fault.RecursiveEntity name)
    else if nat_lt (length names) most_open then counted name spent text
    else Err (fault.EntityTooDeep name)

abbrev pub entity_opened : List (List ℕ) → ℕ → List ℕ → Option EntityDef → Result (List ℕ × ℕ) ValueFault
entity_opened names spent name None = Err (fault.EntityUnknown name)
entity_opened names spent name (Some (Internal text)) = entered names spent name text
entity_opened names spent name (Some (External ids)) = Err (fault.EntityExternal name)
entity_opened names spent name (Some (Unparsed ids notation)) = Err (fault.EntityExternal name)

-- The text of a general entity and the count of included characters with it, where these names are open: the entity is
-- declared, internal, and not open, fewer than 32 are open, and the count is not over.
unfoldable pub opening : List Entity → List (List ℕ) → ℕ → List ℕ → Result (List ℕ × ℕ) ValueFault
opening entities names spent name = entity_opened names spent name (lookup (bytes_eq name) entities)

-- how a text is read behind what is written, where these names are open
abbrev pub Valuing : Type 0
Valuing = List (List ℕ) → Written → List ℕ → Result Written ValueFault

-- a general reference: the character of a predefined entity, or what the text of the entity stands for, with its name open
abbrev pub by_name : Valuing → List Entity → List (List ℕ) → Written → List ℕ → Option ℕ → Result Written ValueFault
by_name deeper entities names w name (Some c) = Ok (with w (c ∷ []))
by_name deeper entities names w name None = opening entities names w.spent name >>= λ t. deeper (names ++ name ∷ []) (record { text = w.text; spent = t.1 }) t.0

abbrev pub by_kind : Valuing → List Entity → List (List ℕ) → Written → List ℕ → Kind → Result Written ValueFault
by_kind deeper entities names w name (Char c) = Ok (with w (c ∷ []))
by_kind deeper entities names w name LessThan = Err fault.LessThan
by_kind deeper entities names w name Named = by_name deeper entities names w name (predefined name)

abbrev pub by_piece : Valuing → List Entity → List (List ℕ) → Written → List ℕ → Option Piece → Result (Written × ℕ) ValueFault
by_piece deeper entities names w text None = Err fault.Malformed
by_piece deeper entities names w text (Some p) = by_kind deeper entities names w (named p.len text) p.kind >>= λ v. Ok (v, p.len)

-- one piece, wherever it stands
abbrev pub value_step : Valuing → List Entity → List (List ℕ) → ℕ → Written → List ℕ → Result (Written × ℕ) ValueFault
value_step deeper entities names at w text = by_piece deeper entities names w text (value_piece text)

-- What a text stands for behind what is written, piece by piece, each text that it includes being one level deeper. A text
-- at the last level includes none, since 32 names are open there.
abbrev pub valued : ℕ → List Entity → Valuing
valued zero entities names w text = Err fault.Malformed
valued (suc levels) entities names w text = over (value_step (valued levels entities) entities names) 0 w text

-- The value that a text between quotes stands for, where these entities are open and so many characters were included
-- before, with the new count, or the first thing that stops it.
unfoldable pub value_of : List Entity → List (List ℕ) → ℕ → List ℕ → Result Written ValueFault
value_of entities names spent raw = valued (suc (32 - length names)) entities names (record { text = []; spent = spent }) raw
