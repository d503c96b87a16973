-- The flat spelling of contents, without white space (XML 1.0, 3.2).
use Rattle.std.specs.Prelude.{ℕ, List, [], ◌∷◌, ◌++◌, codes}
use Rattle.content_models.specs.declared.content.Occurs.{Occurs}
use Rattle.content_models.specs.declared.content.Particle.{Particle, fold-Particle}
use Rattle.content_models.specs.declared.content.Particle.TheOpen.{Particle-F}
use Rattle.content_models.specs.declared.content.Content.{Content}
use Rattle.content_models.specs.declared.content.Content.TheVariants.{Empty, Any, Mixed, Children}
use Rattle.content_models.specs.Model.{Chars}
use Rattle.content_models.specs.Grammar.{mark}

-- texts, each behind a separator
abbrev pub behind : ℕ → List Chars → Chars
behind separator [] = []
behind separator (text ∷ texts) = separator ∷ (text ++ behind separator texts)

-- texts with separators between them
abbrev pub joined : ℕ → List Chars → Chars
joined separator [] = []
joined separator (text ∷ texts) = text ++ behind separator texts

-- a group from the texts of its parts
abbrev pub group : ℕ → List Chars → Occurs → Chars
group separator texts occurs = 40 ∷ (joined separator texts ++ (41 ∷ mark occurs))

abbrev pub spell_layer : Particle-F Chars → Chars
spell_layer (Particle-F.One name occurs) = name ++ mark occurs
spell_layer (Particle-F.Seq texts occurs) = group 44 texts occurs
spell_layer (Particle-F.Choice texts occurs) = group 124 texts occurs

-- the flat spelling of a part
unfoldable pub spelled : Particle → Chars
spelled = fold-Particle Chars spell_layer

-- how a mixed content closes: with a star where it has names
abbrev pub mixed_close : List Chars → Chars
mixed_close [] = codes ")"
mixed_close (name ∷ names) = codes ")*"

-- the flat spelling of a content
unfoldable pub flat : Content → Chars
flat Empty = codes "EMPTY"
flat Any = codes "ANY"
flat (Mixed names) = codes "(#PCDATA" ++ (behind 124 names ++ mixed_close names)
flat (Children part) = spelled part
