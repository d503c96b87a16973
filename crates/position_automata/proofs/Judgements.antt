-- Examples of the judgement.
use Rattle.std.proofs.Common.{◌≡◌, ℕ, [], ◌∷◌, Ok, Err, refl, ap}
use Rattle.content_models.specs.declared.content.Occurs.TheVariants.{Once}
use Rattle.content_models.specs.declared.content.Occurs.TheVariants as sign
use Rattle.content_models.specs.declared.content.Particle.{Particle}
use Rattle.content_models.specs.declared.content.Particle.TheVariants.{One, Seq, Choice}
use Rattle.content_models.specs.declared.content.Content.TheVariants.{Mixed, Children}
use Rattle.content_models.specs.Model.{Chars, model}
use Rattle.content_models.specs.Re.{Re, Eps, Sym, Cat, Alt, Plus}
use Rattle.content_models.proofs.Layers.{model-One, model-Seq, model-Choice}
use Rattle.position_automata.specs.Judged.{judged, judged_model}

abbrev name : ℕ → Particle
name c = One (c ∷ []) Once

abbrev letter : ℕ → Re Chars
letter c = Sym (c ∷ [])

-- ((a,b)|(a,c))
abbrev choice : Particle
choice = Choice (Seq (name 97 ∷ name 98 ∷ []) Once ∷ Seq (name 97 ∷ name 99 ∷ []) Once ∷ []) Once

choice_model : model choice ≡ Alt (Cat (Cat Eps (letter 97)) (letter 98)) (Cat (Cat Eps (letter 97)) (letter 99))
choice_model = simp (model-One, model-Seq, model-Choice)

-- the first a and the second
pub twice : judged (Children choice) ≡ Err (1, 3)
unfolding judged
twice = ap judged_model choice_model

-- (a,(b|c))
abbrev sequence : Particle
sequence = Seq (name 97 ∷ Choice (name 98 ∷ name 99 ∷ []) Once ∷ []) Once

sequence_model : model sequence ≡ Cat (Cat Eps (letter 97)) (Alt (letter 98) (letter 99))
sequence_model = simp (model-One, model-Seq, model-Choice)

-- from the start to a, and from there to b and to c
pub each_once : judged (Children sequence) ≡ Ok 3
unfolding judged
each_once = ap judged_model sequence_model

-- (p+)
abbrev repeated : Particle
repeated = Seq (One (112 ∷ []) sign.Plus ∷ []) Once

repeated_model : model repeated ≡ Cat Eps (Plus (letter 112))
repeated_model = simp (model-One, model-Seq)

-- from the start to p, and from there to p again
pub again : judged (Children repeated) ≡ Ok 2
unfolding judged
again = ap judged_model repeated_model

-- mixed content of two names
pub two_names : judged (Mixed ((97 ∷ []) ∷ (98 ∷ []) ∷ [])) ≡ Ok 2
unfolding judged
two_names = refl
