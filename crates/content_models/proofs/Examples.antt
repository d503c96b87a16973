-- Examples of the definitions.
use Rattle.std.proofs.Common.{◌≡◌, [], ◌∷◌, refl, inl, false, Some}
use Rattle.content_models.specs.declared.content.Occurs.TheVariants.{Once, Opt}
use Rattle.content_models.specs.declared.content.Particle.TheVariants.{One, Seq}
use Rattle.content_models.specs.declared.content.Content.TheVariants.{Mixed, Children}
use Rattle.jats_chars.specs.Classes.{is_name_start, is_name_char}
use Rattle.content_models.specs.Model.{Chars, Derives}
use Rattle.content_models.specs.Proper.{is_proper, repeated}
use Rattle.content_models.proofs.Readable.{name_rule, sequence_rule}

a : Chars
a = 97 ∷ []

b : Chars
b = 98 ∷ []

-- (a,b?) derives a
optional : Derives (Children (Seq (One a Once ∷ One b Opt ∷ []) Once)) (a ∷ [])
optional =
    (sequence_rule (One a Once ∷ One b Opt ∷ []) Once (a ∷ [])).1
    (a ∷ [], [], refl, (name_rule a Once (a ∷ [])).1 refl, ([], [], refl, (name_rule b Opt []).1 (inl refl), refl))

-- mixed content derives its names in any order and number
any_order : Derives (Mixed (a ∷ b ∷ [])) (b ∷ a ∷ b ∷ [])
unfolding a b
any_order = refl

-- the first name that equals an earlier one
first_twice : repeated (a ∷ b ∷ b ∷ a ∷ []) ≡ Some b
unfolding a b
first_twice = refl

-- a name that stands twice is not proper
twice : is_proper (Mixed (a ∷ a ∷ [])) ≡ false
unfolding is_proper is_name_start is_name_char a
twice = refl
