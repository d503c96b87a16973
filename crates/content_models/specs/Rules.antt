-- The rules of derivation in the words of the standard (XML 1.0, 3.2.1).
use Rattle.std.specs.Prelude.{◌≡◌, ℕ, List, [], ◌∷◌, ◌++◌, ◌⊎◌, ◌↔◌}
use Rattle.content_models.specs.declared.content.Occurs.{Occurs}
use Rattle.content_models.specs.declared.content.Occurs.TheVariants.{Once, Opt, Star}
use Rattle.content_models.specs.declared.content.Occurs.TheVariants as sign
use Rattle.content_models.specs.declared.content.Particle.{Particle}
use Rattle.content_models.specs.declared.content.Particle.TheVariants.{One, Seq, Choice}
use Rattle.content_models.specs.Re.{Generates, Times}
use Rattle.content_models.specs.Model.{Chars, model}

-- the part derives this list of names
abbrev pub PartDerives : Particle → List Chars → Type 0
PartDerives part names = Generates (model part) names

-- a list of each part, joined in order
abbrev pub InOrder : List Particle → List Chars → Type 0
InOrder [] names = names ≡ []
InOrder (part ∷ parts) names = (u : List Chars) × (v : List Chars) × (names ≡ u ++ v) × PartDerives part u × InOrder parts v

-- a list of one of the parts
abbrev pub OfOne : List Particle → List Chars → Type 0
OfOne [] names = ⊥
OfOne (part ∷ parts) names = PartDerives part names ⊎ OfOne parts names

-- lists of L as often as the sign says: once; none or one; any number; one or more
abbrev pub Repeated : Occurs → (List Chars → Type 0) → List Chars → Type 0
Repeated Once L names = L names
Repeated Opt L names = (names ≡ []) ⊎ L names
Repeated Star L names = (names ≡ []) ⊎ ((n : ℕ) × Times L n names)
Repeated sign.Plus L names = (n : ℕ) × Times L n names

abbrev pub NameRule : Type 0
NameRule = (name : Chars) (occurs : Occurs) (names : List Chars) → PartDerives (One name occurs) names ↔ Repeated occurs (λ u. u ≡ name ∷ []) names

abbrev pub SequenceRule : Type 0
SequenceRule = (parts : List Particle) (occurs : Occurs) (names : List Chars) → PartDerives (Seq parts occurs) names ↔ Repeated occurs (InOrder parts) names

abbrev pub ChoiceRule : Type 0
ChoiceRule =
    (part : Particle) (parts : List Particle) (occurs : Occurs) (names : List Chars)
    → PartDerives (Choice (part ∷ parts) occurs) names ↔ Repeated occurs (OfOne (part ∷ parts)) names
