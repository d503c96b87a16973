-- The table of refusals, and which refusal a line tells.
use Rattle.std.specs.Prelude.{ℕ, Bool, true, not, ◌&&◌, ◌==◌, nat_le, nat_lt, List, [], ◌∷◌, ◌++◌, Option, codes, bytes_eq, nat_eq}
use Rattle.std.specs.Fmt.{decimal}
use Rattle.std.specs.Option.{option_map}
use Rattle.std.specs.List.{find, list_all, list_any, starts_with}
use Rattle.jats_fault.specs.declared.numbers.TheConstants as number

-- a refusal's number and its name
abbrev pub Row : Type 0
Row = ℕ × List ℕ

-- the refusals
abbrev pub table : List Row
table =
    (number.MODULE_ABSENT, codes "ModuleAbsent") ∷ (number.MODULE_LONG, codes "ModuleLong") ∷ (number.SET_OVER, codes "SetOver") ∷ (number.NOT_UTF8, codes "NotUtf8") ∷ (number.NOT_CHAR, codes "NotChar") ∷ (number.BAD_TEXT_DECL, codes "BadTextDecl")
    ∷ (number.ENCODING_OTHER, codes "EncodingOther") ∷ (number.MALFORMED, codes "Malformed") ∷ (number.UNDECLARED_PE, codes "UndeclaredPe") ∷ (number.RECURSIVE_PE, codes "RecursivePe")
    ∷ (number.PE_NESTING, codes "PeNesting") ∷ (number.ENTITY_TOO_DEEP, codes "EntityTooDeep") ∷ (number.EXPANSION_OVER, codes "ExpansionOver") ∷ (number.ENTITY_UNDECLARED, codes "EntityUndeclared") ∷ (number.LESS_THAN_IN_VALUE, codes "LessThanInValue")
    ∷ (number.RECURSIVE_ENTITY, codes "RecursiveEntity") ∷ (number.DUPLICATE_NOTATION, codes "DuplicateNotation") ∷ (number.DUPLICATE_ELEMENT, codes "DuplicateElement") ∷ (number.DUPLICATE_MIXED_NAME, codes "DuplicateMixedName")
    ∷ (number.AMBIGUOUS, codes "Ambiguous") ∷ (number.ID_PRESET, codes "IdPreset") ∷ (number.SECOND_ID, codes "SecondId") ∷ (number.SECOND_NOTATION, codes "SecondNotation") ∷ (number.NOTATION_ON_EMPTY, codes "NotationOnEmpty")
    ∷ (number.NOTATION_UNDECLARED, codes "NotationUndeclared") ∷ (number.DUPLICATE_TOKEN, codes "DuplicateToken") ∷ (number.PRESET_NOT_IN_CLASS, codes "PresetNotInClass") ∷ (number.ROOT_UNDECLARED, codes "RootUndeclared")
    ∷ (number.ELEMENTS_OVER, codes "ElementsOver") ∷ (number.POSITIONS_OVER, codes "PositionsOver") ∷ (number.FOLLOWS_OVER, codes "FollowsOver") ∷ (number.GROUP_TOO_DEEP, codes "GroupTooDeep") ∷ (number.PAIRS_OVER, codes "PairsOver")
    ∷ (number.OUTPUT_OVER, codes "OutputOver") ∷ (number.CATALOG_MALFORMED, codes "CatalogMalformed") ∷ (number.PATH_ESCAPES, codes "PathEscapes") ∷ (number.ARTICLE_MALFORMED, codes "ArticleMalformed") ∷ (number.TAG_MISMATCH, codes "TagMismatch")
    ∷ (number.REPEATED_ATTRIBUTE, codes "RepeatedAttribute") ∷ (number.ENTITY_UNKNOWN, codes "EntityUnknown") ∷ (number.ENTITY_EXTERNAL, codes "EntityExternal") ∷ (number.ELEMENT_TOO_DEEP, codes "ElementTooDeep")
    ∷ (number.REST_AFTER_ROOT, codes "RestAfterRoot") ∷ (number.INTERNAL_SUBSET, codes "InternalSubset") ∷ (number.ENTITY_NESTING, codes "EntityNesting") ∷ (number.CERT_MALFORMED, codes "CertMalformed") ∷ []

-- whether the number is that of a row
abbrev pub has_number : List Row → ℕ → Bool
has_number rows number = list_any (λ row. row.0 == number) rows

-- whether no two rows have one number or one name
abbrev pub is_distinct : List Row → Bool
is_distinct [] = true
is_distinct (row ∷ rows) = list_all (λ other. not (row.0 == other.0) && not (bytes_eq row.1 other.1)) rows && is_distinct rows

-- whether each number has two digits
abbrev pub is_of_two_digits : ℕ → Bool
is_of_two_digits number = nat_le 10 number && nat_lt number 100

abbrev pub have_two_digits : List Row → Bool
have_two_digits rows = list_all (λ row. is_of_two_digits row.0) rows

-- the name that rows give a number
abbrev pub name_in : List Row → ℕ → Option (List ℕ)
name_in rows number = option_map (λ row. row.1) (find (λ row. row.0 == number) rows)

-- the name of a refusal, or none where the table has no such number
unfoldable pub name_of : ℕ → Option (List ℕ)
name_of number = name_in table number

-- how a line of this number begins
abbrev pub head : ℕ → List ℕ
head number = codes "refused E" ++ (decimal number ++ codes " ")

-- the number of rows whose line's beginning stands at the beginning of these bytes
abbrev pub number_in : List Row → List ℕ → Option ℕ
number_in rows bytes = option_map (λ row. row.0) (find (λ row. starts_with nat_eq bytes (head row.0)) rows)

-- the number of the refusal that a line tells, or none where it tells none
unfoldable pub number_told : List ℕ → Option ℕ
number_told bytes = number_in table bytes
