-- The classes that accepted attributes have: a token list is not empty and holds Nmtokens, and the fixed text of a tokenised type is Nmtokens.
use Rattle.std.specs.Prelude.{ℕ, Bool, true, ◌&&◌, List, [], ◌∷◌, IsTrue}
use Rattle.std.specs.List.{list_all}
use Rattle.jats_chars.specs.Names.{is_nmtoken, is_nmtokens}
use Rattle.attribute_types.specs.Spacing.{is_filled}
use Rattle.attribute_types.specs.declared.classes.ValueClass.{ValueClass}
use Rattle.attribute_types.specs.declared.classes.ValueClass.TheVariants.{Any, Name, Names, Nmtoken, Nmtokens, Tokens, Fixed, FixedToken}

abbrev pub is_proper : ValueClass → Bool
is_proper Any = true
is_proper Name = true
is_proper Names = true
is_proper Nmtoken = true
is_proper Nmtokens = true
is_proper (Tokens tokens) = is_filled tokens && list_all is_nmtoken tokens
is_proper (Fixed text) = true
is_proper (FixedToken text) = is_nmtokens text

abbrev pub IsProper : ValueClass → Type 0
IsProper class = IsTrue (is_proper class)

-- the first of a list, or nothing where there is none
abbrev pub first_of : List (List ℕ) → List ℕ
first_of [] = []
first_of (token ∷ tokens) = token

-- a value of the class
abbrev pub sample_of : ValueClass → List ℕ
sample_of Any = []
sample_of Name = 0x61 ∷ []
sample_of Names = 0x61 ∷ []
sample_of Nmtoken = 0x61 ∷ []
sample_of Nmtokens = 0x61 ∷ []
sample_of (Tokens tokens) = first_of tokens
sample_of (Fixed text) = text
sample_of (FixedToken text) = text
