-- Texts of Chars (XML 1.0, 2.2).
use Rattle.std.specs.Prelude.{ℕ, Bool, List}
use Rattle.std.specs.List.{list_all}
use Rattle.jats_chars.specs.Classes.{is_char}

-- whether each character of the text is a Char (production 2)
abbrev pub are_chars : List ℕ → Bool
are_chars text = list_all is_char text
