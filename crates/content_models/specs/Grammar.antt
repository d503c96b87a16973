-- How contents are spelled (XML 1.0, 3.2, productions 46 to 51), without a limit.
use Rattle.std.specs.Prelude.{◌≡◌, ℕ, List, [], ◌∷◌, ◌++◌, ◌⊎◌, IsTrue, codes}
use Rattle.std.specs.List.{list_all}
use Rattle.jats_chars.specs.Classes.{is_space}
use Rattle.jats_chars.specs.Names.{is_name}
use Rattle.content_models.specs.declared.content.Occurs.{Occurs}
use Rattle.content_models.specs.declared.content.Occurs.TheVariants.{Once, Opt, Star}
use Rattle.content_models.specs.declared.content.Occurs.TheVariants as sign
use Rattle.content_models.specs.declared.content.Particle.{Particle}
use Rattle.content_models.specs.declared.content.Particle.TheVariants.{One, Seq, Choice}
use Rattle.content_models.specs.declared.content.Content.{Content}
use Rattle.content_models.specs.declared.content.Content.TheVariants.{Empty, Any, Mixed, Children}
use Rattle.content_models.specs.Model.{Chars}
use Rattle.content_models.specs.Proper.{is_group}

-- white space, perhaps none
abbrev pub IsSpaces : Chars → Type 0
IsSpaces text = IsTrue (list_all is_space text)

-- the sign of an occurrence: none, `?`, `*` or `+`
abbrev pub mark : Occurs → Chars
mark Once = []
mark Opt = 63 ∷ []
mark Star = 42 ∷ []
mark sign.Plus = 43 ∷ []

mutual
  -- A part is a Name with its sign, or a group with its sign: `(`, parts with `,` or `|` between them and white space
  -- round each, `)`. With `|` there are at least two.
  pub data SpellsPart : Chars → Particle → Type 0 where
    a_name : (name : Chars) (occurs : Occurs) → IsTrue (is_name name) → SpellsPart (name ++ mark occurs) (One name occurs)
    a_sequence : (a s rest : Chars) (part : Particle) (parts : List Particle) (occurs : Occurs)
        → IsSpaces a → SpellsPart s part → SpellsRest 44 rest parts
        → SpellsPart (40 ∷ (a ++ (s ++ (rest ++ (41 ∷ mark occurs))))) (Seq (part ∷ parts) occurs)
    a_choice : (a s rest : Chars) (part next : Particle) (parts : List Particle) (occurs : Occurs)
        → IsSpaces a → SpellsPart s part → SpellsRest 124 rest (next ∷ parts)
        → SpellsPart (40 ∷ (a ++ (s ++ (rest ++ (41 ∷ mark occurs))))) (Choice (part ∷ next ∷ parts) occurs)

  -- the parts of a group after the first, each behind a separator, and the white space before `)`
  pub data SpellsRest : ℕ → Chars → List Particle → Type 0 where
    no_more : (separator : ℕ) (a : Chars) → IsSpaces a → SpellsRest separator a []
    one_more : (separator : ℕ) (a b s rest : Chars) (part : Particle) (parts : List Particle)
        → IsSpaces a → IsSpaces b → SpellsPart s part → SpellsRest separator rest parts
        → SpellsRest separator (a ++ (separator ∷ (b ++ (s ++ rest)))) (part ∷ parts)

-- names, each behind a `|` with white space round it, and the white space before `)`
abbrev pub SpellsNames : Chars → List Chars → Type 0
SpellsNames text [] = IsSpaces text
SpellsNames text (name ∷ names) =
    (a : Chars) × (b : Chars) × (rest : Chars) × (text ≡ a ++ (124 ∷ (b ++ (name ++ rest)))) × IsSpaces a × IsSpaces b × IsTrue (is_name name)
    × SpellsNames rest names

-- `(#PCDATA`, names, `)*`; without names also `)`
abbrev pub SpellsMixed : Chars → List Chars → Type 0
SpellsMixed text names =
    (a : Chars) × (rest : Chars) × (close : Chars) × (text ≡ 40 ∷ (a ++ (codes "#PCDATA" ++ (rest ++ close)))) × IsSpaces a × SpellsNames rest names
    × ((close ≡ codes ")*") ⊎ ((close ≡ codes ")") × (names ≡ [])))

-- the text spells the content
abbrev pub Spells : Chars → Content → Type 0
Spells text Empty = text ≡ codes "EMPTY"
Spells text Any = text ≡ codes "ANY"
Spells text (Mixed names) = SpellsMixed text names
Spells text (Children part) = IsTrue (is_group part) × SpellsPart text part
