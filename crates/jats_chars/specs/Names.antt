-- Words over the classes (XML 1.0, 2.3, productions 5 to 8).
use Rattle.std.specs.Prelude.{ℕ, Bool, false, ◌&&◌, ◌==◌, List, [], ◌∷◌}
use Rattle.std.specs.List.{list_all, slice_split}
use Rattle.jats_chars.specs.Classes.{is_name_start, is_name_char}

-- Name: a name start, and then any name characters
abbrev pub is_name : List ℕ → Bool
is_name [] = false
is_name (c ∷ cs) = is_name_start c && list_all is_name_char cs

-- Nmtoken: one or more name characters
abbrev pub is_nmtoken : List ℕ → Bool
is_nmtoken [] = false
is_nmtoken (c ∷ cs) = list_all is_name_char (c ∷ cs)

-- the words that single #x20 part
abbrev pub words : List ℕ → List (List ℕ)
words text = slice_split (λ c. c == 0x20) text

-- Names: such words parted by one #x20
abbrev pub is_names : List ℕ → Bool
is_names text = list_all is_name (words text)

-- Nmtokens
abbrev pub is_nmtokens : List ℕ → Bool
is_nmtokens text = list_all is_nmtoken (words text)
