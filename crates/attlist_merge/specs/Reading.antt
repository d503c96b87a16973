-- The parts of an attribute-list declaration, read from the front of a text; None where nothing of the form begins it.
use Rattle.std.specs.Prelude.{◌≡◌, ℕ, zero, suc, ◌==◌, List, [], ◌∷◌, ◌++◌, length, codes, bytes_eq, nat_eq, Option, Some, None, option_and_then, option_map, if◌then◌else◌, Result, Ok, Err}
use Rattle.std.specs.List.{list_all, starts_with}
use Rattle.jats_chars.specs.Classes.{is_space}
use Rattle.jats_chars.specs.Names.{is_name, is_nmtoken}
use Rattle.text_fronts.specs.Fronts.{Read, skipped, read_space, word, after_word, spaced_name, read_literal}
use Rattle.attribute_types.specs.declared.types.AttType.{AttType}
use Rattle.attribute_types.specs.declared.types.AttType.TheVariants as kind
use Rattle.attlist_merge.specs.declared.raw.RawPreset.{RawPreset}
use Rattle.attlist_merge.specs.declared.raw.RawPreset.TheVariants as preset
use Rattle.attlist_merge.specs.declared.raw.RawAtt.{RawAtt}
use Rattle.attlist_merge.specs.declared.raw.RawAttList.{RawAttList}
use Rattle.attlist_merge.specs.declared.parse.ListFault.{ListFault}
use Rattle.attlist_merge.specs.declared.parse.ListFault.TheVariants as fault
use Rattle.attlist_merge.specs.Grammar.{is_value}

-- behind a token in parentheses: `)` ends them, and `|` goes on
unfoldable pub closes : (List (List ℕ) → List ℕ → Read (List (List ℕ))) → List (List ℕ) → List ℕ → Read (List (List ℕ))
closes go done [] = None
closes go done (c ∷ cs) = if c == 0x29 then Some (done, cs) else (if c == 0x7C then go done cs else None)

-- the tokens behind `(`, at most this many, after those that were read
unfoldable pub group : ℕ → List (List ℕ) → List ℕ → Read (List (List ℕ))
group zero done text = None
group (suc n) done text =
    if is_nmtoken (word (skipped text)) then closes (group n) (done ++ word (skipped text) ∷ []) (skipped (after_word (skipped text))) else None

-- Nmtokens parted by `|` in parentheses
unfoldable pub read_group : List ℕ → Read (List (List ℕ))
read_group [] = None
read_group (c ∷ cs) = if c == 0x28 then group (length cs) [] cs else None

-- the type that a keyword names alone
unfoldable pub keyword : List ℕ → Option AttType
keyword name =
    if bytes_eq name (codes "CDATA") then Some kind.Cdata
    else (if bytes_eq name (codes "ID") then Some kind.Id
    else (if bytes_eq name (codes "IDREF") then Some kind.Idref
    else (if bytes_eq name (codes "IDREFS") then Some kind.Idrefs
    else (if bytes_eq name (codes "ENTITY") then Some kind.Entity
    else (if bytes_eq name (codes "ENTITIES") then Some kind.Entities
    else (if bytes_eq name (codes "NMTOKEN") then Some kind.Nmtoken
    else (if bytes_eq name (codes "NMTOKENS") then Some kind.Nmtokens else None)))))))

-- the tokens, where they are Names
abbrev pub names_of : List (List ℕ) → Option (List (List ℕ))
names_of tokens = if list_all is_name tokens then Some tokens else None

abbrev pub as_notation : List (List ℕ) × List ℕ → Read AttType
as_notation x = option_map (λ names. (kind.Notation names, x.1)) (names_of x.0)

abbrev pub as_enumeration : List (List ℕ) × List ℕ → AttType × List ℕ
as_enumeration x = (kind.Enumeration x.0, x.1)

-- S and Names in parentheses
unfoldable pub read_notation : List ℕ → Read AttType
read_notation text = option_and_then as_notation (option_and_then read_group (read_space text))

-- the type of a keyword, or that of NOTATION
abbrev pub named_type : Option AttType → List ℕ → List ℕ → Read AttType
named_type (Some kind) name rest = Some (kind, rest)
named_type None name rest = if bytes_eq name (codes "NOTATION") then read_notation rest else None

unfoldable pub read_type : List ℕ → Read AttType
read_type text =
    if starts_with nat_eq text (codes "(") then option_map as_enumeration (read_group text) else named_type (keyword (word text)) (word text) (after_word text)

abbrev pub with_references : List ℕ × List ℕ → Read (List ℕ)
with_references x = if is_value x.0 then Some x else None

-- a literal in which each `&` begins a reference
unfoldable pub read_quoted : List ℕ → Read (List ℕ)
read_quoted text = option_and_then with_references (read_literal text)

abbrev pub as_fixed : List ℕ × List ℕ → RawPreset × List ℕ
as_fixed x = (preset.Fixed x.0, x.1)

abbrev pub as_value : List ℕ × List ℕ → RawPreset × List ℕ
as_value x = (preset.Value x.0, x.1)

-- S and a fixed value
abbrev pub read_fixed : List ℕ → Read RawPreset
read_fixed text = option_map as_fixed (option_and_then read_quoted (read_space text))

-- the preset of this word behind `#`
abbrev pub named_preset : List ℕ → List ℕ → Read RawPreset
named_preset name rest =
    if bytes_eq name (codes "REQUIRED") then Some (preset.Required, rest)
    else (if bytes_eq name (codes "IMPLIED") then Some (preset.Implied, rest)
    else (if bytes_eq name (codes "FIXED") then read_fixed rest else None))

unfoldable pub read_preset : List ℕ → Read RawPreset
read_preset [] = None
read_preset (c ∷ cs) = if c == 0x23 then named_preset (word cs) (after_word cs) else option_map as_value (read_quoted (c ∷ cs))

-- S type
abbrev pub spaced_type : List ℕ → Read AttType
spaced_type text = option_and_then read_type (read_space text)

-- S preset
abbrev pub spaced_preset : List ℕ → Read RawPreset
spaced_preset text = option_and_then read_preset (read_space text)

abbrev pub with_preset : List ℕ → AttType × List ℕ → Read RawAtt
with_preset name x = option_map (λ y. (record { name = name; kind = x.0; preset = y.0 }, y.1)) (spaced_preset x.1)

abbrev pub with_type : List ℕ × List ℕ → Read RawAtt
with_type x = option_and_then (with_preset x.0) (spaced_type x.1)

-- S Name S type S preset
unfoldable pub read_definition : List ℕ → Read RawAtt
read_definition text = option_and_then with_type (spaced_name text)

-- the definitions of the text with white space behind, at most this many, after those that were read
unfoldable pub definitions : ℕ → List RawAtt → List ℕ → Option (List RawAtt)
definitions zero done text = if list_all is_space text then Some done else None
definitions (suc n) done text =
    if list_all is_space text then Some done else option_and_then (λ x. definitions n (done ++ x.0 ∷ []) x.1) (read_definition text)

abbrev pub of_element : List ℕ × List ℕ → Option RawAttList
of_element x = option_map (λ atts. record { element = x.0; atts = atts }) (definitions (length x.1) [] x.1)

-- the declaration that a body writes
unfoldable pub raw_list_of : List ℕ → Option RawAttList
raw_list_of body = option_and_then of_element (spaced_name body)

-- the answer for what a body writes
abbrev pub Parses : Option RawAttList → Result RawAttList ListFault → Type 0
Parses written (Ok raw) = written ≡ Some raw
Parses written (Err fault.Malformed) = written ≡ None
Parses written (Err fault.NoMemory) = Unit {0}
