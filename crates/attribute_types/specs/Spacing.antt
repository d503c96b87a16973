-- Words of a value and its collapse (XML 1.0, 3.3.3): #x20 alone parts words.
use Rattle.std.specs.Prelude.{◌≡◌, ◌==◌, ℕ, Bool, true, false, List, [], ◌∷◌, ◌++◌, filter}
use Rattle.std.specs.List.{join_with_byte}
use Rattle.jats_chars.specs.Names.{words}

abbrev pub is_filled : {X : Type 0} → List X → Bool
is_filled [] = false
is_filled (x ∷ xs) = true

-- the words of a value: what stands between spaces and is not empty
unfoldable pub words_in : List ℕ → List (List ℕ)
words_in value = filter is_filled (words value)

-- the value without spaces at its ends, and with one between two words
abbrev pub collapsed : List ℕ → List ℕ
collapsed value = join_with_byte 0x20 (words_in value)

-- the text is empty or begins with a character of a word
abbrev pub BeginsWord : List ℕ → Type 0
BeginsWord [] = Unit {0}
BeginsWord (c ∷ cs) = (c == 0x20) ≡ false

-- a space and a word for each
abbrev pub tailed : List (List ℕ) → List ℕ
tailed [] = []
tailed (word ∷ more) = 0x20 ∷ (word ++ tailed more)
