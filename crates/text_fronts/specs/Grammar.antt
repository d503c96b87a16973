-- How parts of declarations and tags are written (XML 1.0, 2.3).
use Rattle.std.specs.Prelude.{◌≡◌, ◌==◌, ℕ, not, List, [], ◌∷◌, ◌++◌, IsTrue}
use Rattle.std.specs.List.{list_all}
use Rattle.jats_chars.specs.Classes.{is_space}
use Rattle.dtd_scanner.specs.Items.{is_quote}

-- S?: any white space
abbrev pub IsBlank : List ℕ → Type 0
IsBlank text = IsTrue (list_all is_space text)

-- S: some white space (production 3)
abbrev pub IsSpace : List ℕ → Type 0
IsSpace [] = ⊥
IsSpace (c ∷ cs) = IsTrue (list_all is_space (c ∷ cs))

-- what stands between two quotes of a kind, without that quote inside (productions 11 and 12)
pub record IsLiteral (text inside : List ℕ) : Type 0 where
  pub quote : ℕ
  pub is_quote : IsTrue (is_quote quote)
  pub form : text ≡ quote ∷ (inside ++ quote ∷ [])
  pub within : IsTrue (list_all (λ c. not (c == quote)) inside)
