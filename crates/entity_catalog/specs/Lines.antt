-- The lines of a catalog.
use Rattle.std.specs.Prelude.{ℕ, Bool, true, not, ◌||◌, ◌&&◌, ◌==◌, List, [], ◌∷◌, codes, nat_eq, drop, length, map, if◌then◌else◌}
use Rattle.std.specs.List.{list_all, slice_split, starts_with, prefix_len}
use Rattle.entity_catalog.specs.Collapse.{is_empty}

-- blanks are spaces and tabs
abbrev pub is_blank : ℕ → Bool
is_blank c = c == 0x20 || c == 0x9

abbrev pub is_quote : ℕ → Bool
is_quote c = c == 0x22

abbrev pub are_blanks : List ℕ → Bool
are_blanks text = list_all is_blank text

-- at least one blank
abbrev pub is_gap : List ℕ → Bool
is_gap text = not (is_empty text) && are_blanks text

-- what a line says: nothing, which name stands for an identifier, or it has no form
pub data Line : Type 0 where
  nothing : Line
  system : List ℕ → List ℕ → Line
  public : List ℕ → List ℕ → Line
  malformed : Line

-- without the blanks at its beginning
abbrev pub unindented : List ℕ → List ℕ
unindented text = drop (prefix_len is_blank text) text

-- whether a comment or nothing begins here
abbrev pub is_comment : List ℕ → Bool
is_comment [] = true
is_comment (c ∷ cs) = c == 0x23

-- the word and at least one blank
abbrev pub is_keyword : List ℕ → List ℕ → Bool
is_keyword word text = starts_with nat_eq text word && is_gap (drop (length word) text)

abbrev pub entry_of : List ℕ → List ℕ → List ℕ → Line
entry_of keyword identifier name =
    if is_keyword (codes "SYSTEM") keyword then system identifier name
    else if is_keyword (codes "PUBLIC") keyword then public identifier name
    else malformed

-- the five parts that four quotes leave: keyword, identifier, blanks, name, blanks
abbrev pub line_of_parts : List (List ℕ) → Line
line_of_parts (keyword ∷ identifier ∷ between ∷ name ∷ end ∷ []) =
    if is_gap between && are_blanks end then entry_of (unindented keyword) identifier name else malformed
line_of_parts _ = malformed

-- what a line says
unfoldable pub line_of : List ℕ → Line
line_of line = if is_comment (unindented line) then nothing else line_of_parts (slice_split is_quote line)

abbrev pub is_line_feed : ℕ → Bool
is_line_feed c = c == 0xA

-- the lines of a text, cut at each line feed
abbrev pub lines_of : List ℕ → List Line
lines_of text = map line_of (slice_split is_line_feed text)
