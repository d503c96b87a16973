-- Texts that are written so that values stand for them.
use Rattle.std.specs.Prelude.{ℕ, List, [], ◌∷◌, ◌++◌, Bool, not, ◌==◌, ◌&&◌, ◌||◌, codes, if◌then◌else◌}
use Rattle.std.specs.List.{flat_map}
use Rattle.std.specs.Fmt.{decimal}
use Rattle.jats_chars.specs.Classes.{is_space}

-- whether a character stands for itself in a value (XML 1.0, 3.3.3): it is no `&`, no `<`, and no white space but a space
abbrev pub stands_for_itself : ℕ → Bool
stands_for_itself c = not (c == 38) && (not (c == 60) && (not (is_space c) || c == 32))

-- the decimal reference to a character (XML 1.0, 4.1, production 66)
abbrev pub decimal_reference : ℕ → List ℕ
decimal_reference c = codes "&#" ++ (decimal c ++ codes ";")

-- a character that passes the test as a decimal reference, and another as it is
abbrev pub escaped_char : (ℕ → Bool) → ℕ → List ℕ
escaped_char test c = if test c then decimal_reference c else c ∷ []

abbrev pub escaped : (ℕ → Bool) → List ℕ → List ℕ
escaped test text = flat_map (escaped_char test) text
