-- How the lines of a catalog are spelled.
use Rattle.std.specs.Prelude.{◌≡◌, ℕ, Bool, not, List, ◌∷◌, ◌++◌, IsTrue}
use Rattle.std.specs.List.{list_all}
use Rattle.entity_catalog.specs.Lines.{is_quote, are_blanks, is_gap}

-- a part that may stand in quotes
abbrev pub is_unquoted : List ℕ → Bool
is_unquoted text = list_all (λ c. not (is_quote c)) text

-- what stands in quotes, and what follows
abbrev pub quoted : List ℕ → List ℕ → List ℕ
quoted text after = 0x22 ∷ (text ++ 0x22 ∷ after)

-- blanks, the keyword, at least one blank, an identifier in quotes, at least one blank, a name in quotes, blanks
pub record IsEntry (keyword identifier name line : List ℕ) : Type 0 where
  pub indent : List ℕ
  pub before : List ℕ
  pub between : List ℕ
  pub after : List ℕ
  pub spelled : line ≡ indent ++ (keyword ++ (before ++ quoted identifier (between ++ quoted name after)))
  pub indent_blank : IsTrue (are_blanks indent)
  pub before_gap : IsTrue (is_gap before)
  pub identifier_unquoted : IsTrue (is_unquoted identifier)
  pub between_gap : IsTrue (is_gap between)
  pub name_unquoted : IsTrue (is_unquoted name)
  pub after_blank : IsTrue (are_blanks after)
