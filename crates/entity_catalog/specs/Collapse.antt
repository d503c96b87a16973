-- Collapse of a public identifier (XML 1.0, 4.2.2).
use Rattle.std.specs.Prelude.{ℕ, Bool, true, false, not, ◌||◌, ◌==◌, List, [], ◌∷◌, filter}
use Rattle.std.specs.List.{slice_split, join_with_byte}

-- the white space of public identifiers: #x20, #xD and #xA
abbrev pub is_public_space : ℕ → Bool
is_public_space c = c == 0x20 || (c == 0xD || c == 0xA)

abbrev pub is_empty : List ℕ → Bool
is_empty [] = true
is_empty (c ∷ cs) = false

-- the words that runs of such white space part
abbrev pub public_words : List ℕ → List (List ℕ)
public_words text = filter (λ word. not (is_empty word)) (slice_split is_public_space text)

-- the words with one #x20 between each two, and none at the ends
unfoldable pub collapse_public : List ℕ → List ℕ
collapse_public text = join_with_byte 0x20 (public_words text)
