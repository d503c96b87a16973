-- The join of a base name and an identifier, on lists of parts.
use Rattle.std.specs.Prelude.{ℕ, ◌-◌, Bool, not, ◌&&◌, ◌==◌, List, [], ◌∷◌, ◌++◌, length, take, fold, codes, nat_eq, bytes_eq, Option, Some, None, if◌then◌else◌}
use Rattle.std.specs.Option.{option_and_then}
use Rattle.std.specs.List.{list_any, starts_with, slice_split, suffix_len, join_with_byte}
use Rattle.entity_catalog.specs.Collapse.{is_empty}

abbrev pub Parts : Type 0
Parts = List (List ℕ)

abbrev pub is_slash : ℕ → Bool
is_slash c = c == 0x2F

abbrev pub is_colon : ℕ → Bool
is_colon c = c == 0x3A

-- an identifier that may be joined begins with no `/` and holds no `:`
abbrev pub is_relative : List ℕ → Bool
is_relative identifier = not (starts_with nat_eq identifier (codes "/")) && not (list_any is_colon identifier)

-- the base up to and with its last `/`, and nothing where it has none
abbrev pub folder : List ℕ → List ℕ
folder base = take (length base - suffix_len (λ c. not (is_slash c)) base) base

-- the folder's name and the identifier, written together and cut at each `/`
abbrev pub parts_of : List ℕ → List ℕ → Parts
parts_of base identifier = slice_split is_slash (folder base ++ identifier)

-- the parts without the last, where there is one
abbrev pub without_last : Parts → Option Parts
without_last [] = None
without_last (part ∷ parts) = Some (take (length parts) (part ∷ parts))

-- one part more: an empty part and `.` are dropped, and `..` drops the part before it
abbrev pub with_part : Parts → List ℕ → Option Parts
with_part kept part =
    if is_empty part then Some kept
    else if bytes_eq part (codes ".") then Some kept
    else if bytes_eq part (codes "..") then without_last kept
    else Some (kept ++ part ∷ [])

-- the parts that are kept of a list, or None where a `..` finds no part before it
abbrev pub kept_of : Parts → Option Parts
kept_of parts = fold (λ kept part. option_and_then (λ before. with_part before part) kept) (Some []) parts

-- parts as a name, where one is left
abbrev pub name_of : Parts → Option (List ℕ)
name_of [] = None
name_of (part ∷ parts) = Some (join_with_byte 0x2F (part ∷ parts))

-- a part that leads into a folder or names a file: neither empty nor `.` nor `..`
abbrev pub is_step : List ℕ → Bool
is_step part = not (is_empty part) && (not (bytes_eq part (codes ".")) && not (bytes_eq part (codes "..")))

-- the joined name, or None where the path escapes
unfoldable pub join : List ℕ → List ℕ → Option (List ℕ)
join base identifier = if is_relative identifier then option_and_then name_of (kept_of (parts_of base identifier)) else None
