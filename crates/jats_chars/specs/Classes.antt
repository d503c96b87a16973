-- Classes of characters (XML 1.0, 2.2 and 2.3), as rows of code points: first and last.
use Rattle.std.specs.Prelude.{ℕ, Bool, true, ◌||◌, ◌&&◌, nat_le, nat_lt, List, [], ◌∷◌}
use Rattle.std.specs.List.{list_any}

abbrev pub Rows : Type 0
Rows = List (ℕ × ℕ)

-- whether a row holds the number
abbrev pub in_row : ℕ → (ℕ × ℕ) → Bool
in_row c row = nat_le row.0 c && nat_le c row.1

-- whether one of the rows holds the number
abbrev pub in_rows : Rows → ℕ → Bool
in_rows rows c = list_any (in_row c) rows

-- whether all rows begin above this number, ascend and are disjoint
abbrev pub ascend_above : ℕ → Rows → Bool
ascend_above low [] = true
ascend_above low (row ∷ rows) = nat_lt low row.0 && (nat_le row.0 row.1 && ascend_above row.1 rows)

-- whether the rows ascend and are disjoint: no row is empty, and each begins above the end of the one before
abbrev pub is_ascending : Rows → Bool
is_ascending [] = true
is_ascending (row ∷ rows) = nat_le row.0 row.1 && ascend_above row.1 rows

-- Char (production 2)
abbrev pub char_rows : Rows
char_rows = (0x9, 0xA) ∷ (0xD, 0xD) ∷ (0x20, 0xD7FF) ∷ (0xE000, 0xFFFD) ∷ (0x10000, 0x10FFFF) ∷ []

-- white space (production 3)
abbrev pub space_rows : Rows
space_rows = (0x9, 0xA) ∷ (0xD, 0xD) ∷ (0x20, 0x20) ∷ []

-- NameStartChar (production 4)
abbrev pub name_start_rows : Rows
name_start_rows =
    (0x3A, 0x3A) ∷ (0x41, 0x5A) ∷ (0x5F, 0x5F) ∷ (0x61, 0x7A) ∷ (0xC0, 0xD6) ∷ (0xD8, 0xF6) ∷ (0xF8, 0x2FF) ∷ (0x370, 0x37D) ∷ (0x37F, 0x1FFF)
    ∷ (0x200C, 0x200D) ∷ (0x2070, 0x218F) ∷ (0x2C00, 0x2FEF) ∷ (0x3001, 0xD7FF) ∷ (0xF900, 0xFDCF) ∷ (0xFDF0, 0xFFFD) ∷ (0x10000, 0xEFFFF) ∷ []

-- what NameChar has besides NameStartChar (production 4a)
abbrev pub name_more_rows : Rows
name_more_rows = (0x2D, 0x2E) ∷ (0x30, 0x39) ∷ (0xB7, 0xB7) ∷ (0x300, 0x36F) ∷ (0x203F, 0x2040) ∷ []

-- PubidChar (production 13)
abbrev pub pubid_rows : Rows
pubid_rows =
    (0xA, 0xA) ∷ (0xD, 0xD) ∷ (0x20, 0x21) ∷ (0x23, 0x25) ∷ (0x27, 0x3B) ∷ (0x3D, 0x3D) ∷ (0x3F, 0x5A) ∷ (0x5F, 0x5F) ∷ (0x61, 0x7A) ∷ []

unfoldable pub is_char : ℕ → Bool
is_char c = in_rows char_rows c

unfoldable pub is_space : ℕ → Bool
is_space c = in_rows space_rows c

unfoldable pub is_name_start : ℕ → Bool
is_name_start c = in_rows name_start_rows c

unfoldable pub is_name_char : ℕ → Bool
is_name_char c = in_rows name_start_rows c || in_rows name_more_rows c

unfoldable pub is_pubid_char : ℕ → Bool
is_pubid_char c = in_rows pubid_rows c
