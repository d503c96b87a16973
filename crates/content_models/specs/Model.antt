-- What a content derives (XML 1.0, 3.2.1).
use Rattle.std.specs.Prelude.{◌≡◌, ℕ, Bool, List, [], ◌∷◌, IsTrue, bytes_eq}
use Rattle.std.specs.List.{list_any, list_all}
use Rattle.content_models.specs.declared.content.Occurs.{Occurs}
use Rattle.content_models.specs.declared.content.Occurs.TheVariants.{Once, Opt, Star}
use Rattle.content_models.specs.declared.content.Occurs.TheVariants as sign
use Rattle.content_models.specs.declared.content.Particle.{Particle, fold-Particle}
use Rattle.content_models.specs.declared.content.Particle.TheOpen.{Particle-F}
use Rattle.content_models.specs.declared.content.Content.{Content}
use Rattle.content_models.specs.declared.content.Content.TheVariants.{Empty, Any, Mixed, Children}
use Rattle.content_models.specs.Re.{Re, Eps, Sym, Cat, Alt, Plus, Generates}

-- the characters of a name or a text
abbrev pub Chars : Type 0
Chars = List ℕ

-- the model as often as the sign says
abbrev pub occurring : {A : Type 0} → Occurs → Re A → Re A
occurring Once r = r
occurring Opt r = Alt Eps r
occurring Star r = Alt Eps (Plus r)
occurring sign.Plus r = Plus r

-- these models in order after a first one
abbrev pub in_order : {A : Type 0} → Re A → List (Re A) → Re A
in_order first [] = first
in_order first (r ∷ rs) = in_order (Cat first r) rs

-- a first model, or one of these
abbrev pub one_of : {A : Type 0} → Re A → List (Re A) → Re A
one_of first [] = first
one_of first (r ∷ rs) = one_of (Alt first r) rs

-- one of these models; no choice is empty, so the first case never comes
abbrev pub choice_of : {A : Type 0} → List (Re A) → Re A
choice_of [] = Eps
choice_of (r ∷ rs) = one_of r rs

-- a part's model from those of its parts
abbrev pub model_layer : Particle-F (Re Chars) → Re Chars
model_layer (Particle-F.One name occurs) = occurring occurs (Sym name)
model_layer (Particle-F.Seq parts occurs) = occurring occurs (in_order Eps parts)
model_layer (Particle-F.Choice parts occurs) = occurring occurs (choice_of parts)

-- the regular model of a part, over names
unfoldable pub model : Particle → Re Chars
model = fold-Particle (Re Chars) model_layer

-- whether the name stands in the list
abbrev pub among : List Chars → Chars → Bool
among names name = list_any (bytes_eq name) names

-- the content derives this list of names
abbrev pub Derives : Content → List Chars → Type 0
Derives Empty names = names ≡ []
Derives Any names = Unit {0}
Derives (Mixed listed) names = IsTrue (list_all (among listed) names)
Derives (Children part) names = Generates (model part) names
