-- The names of a part are those of its parts.
use Rattle.std.proofs.Common.{◌≡◌, List, [], ◌∷◌, ◌++◌, refl, sym, ap, ◌∙◌}
use Rattle.std.proofs.lemmas.List.{append_assoc, append-nil}
use Rattle.content_models.specs.declared.content.Occurs.{Occurs}
use Rattle.content_models.specs.declared.content.Occurs.TheVariants.{Once, Opt, Star}
use Rattle.content_models.specs.declared.content.Occurs.TheVariants as sign
use Rattle.content_models.specs.declared.content.Particle.{Particle}
use Rattle.content_models.specs.declared.content.Particle.TheVariants.{One, Seq, Choice}
use Rattle.content_models.specs.Model.{Chars, model, occurring, in_order, one_of, choice_of}
use Rattle.content_models.specs.Re.{Re, Eps, Sym, Cat, Alt}
use Rattle.content_models.proofs.Layers.{model-One, model-Seq, model-Choice}
use Rattle.position_automata.specs.Places.{letters, all_letters, models}

letters-occurring : (o : Occurs) (r : Re Chars) → letters (occurring o r) ≡ letters r
letters-occurring Once r = refl
letters-occurring Opt r = refl
letters-occurring Star r = refl
letters-occurring sign.Plus r = refl

letters-in_order : (q : Re Chars) (rs : List (Re Chars)) → letters (in_order q rs) ≡ letters q ++ all_letters rs
letters-in_order q [] = sym (append-nil (letters q))
letters-in_order q (r ∷ rs) = letters-in_order (Cat q r) rs ∙ append_assoc (letters q) (letters r) (all_letters rs)

letters-one_of : (q : Re Chars) (rs : List (Re Chars)) → letters (one_of q rs) ≡ letters q ++ all_letters rs
letters-one_of q [] = sym (append-nil (letters q))
letters-one_of q (r ∷ rs) = letters-one_of (Alt q r) rs ∙ append_assoc (letters q) (letters r) (all_letters rs)

letters-choice_of : (rs : List (Re Chars)) → letters (choice_of rs) ≡ all_letters rs
letters-choice_of [] = refl
letters-choice_of (r ∷ rs) = letters-one_of r rs

pub letters-One : (n : Chars) (o : Occurs) → letters (model (One n o)) ≡ n ∷ []
letters-One n o = ap letters (model-One n o) ∙ letters-occurring o (Sym n)

pub letters-Seq : (ps : List Particle) (o : Occurs) → letters (model (Seq ps o)) ≡ all_letters (models ps)
letters-Seq ps o = ap letters (model-Seq ps o) ∙ letters-occurring o (in_order Eps (models ps)) ∙ letters-in_order Eps (models ps)

pub letters-Choice : (ps : List Particle) (o : Occurs) → letters (model (Choice ps o)) ≡ all_letters (models ps)
letters-Choice ps o = ap letters (model-Choice ps o) ∙ letters-occurring o (choice_of (models ps)) ∙ letters-choice_of (models ps)

pub ruleset spellings = (letters-One, letters-Seq, letters-Choice)
