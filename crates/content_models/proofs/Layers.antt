-- The equations of the functions on parts, and induction over parts.
use Rattle.std.proofs.Common.{◌≡◌, List, [], ◌∷◌, map, subst, sym, ap, ◌∙◌}
use Rattle.content_models.specs.Model.{Chars, model, model_layer, occurring, in_order, choice_of}
use Rattle.content_models.specs.Re.{Eps, Sym}
use Rattle.content_models.specs.declared.content.Occurs.{Occurs}
use Rattle.content_models.specs.declared.content.Particle.{Particle, map-Particle, roll-Particle}
use Rattle.content_models.specs.declared.content.Particle.TheOpen.{Particle-F}
use Rattle.content_models.specs.declared.content.Particle.TheVariants.{One, Seq, Choice, rolls-One, rolls-Seq, rolls-Choice}
use Rattle.content_models.specs.declared.content.Particle.TheFolds.{fold-Particle, fold-roll-Particle, ind-Particle}

module _ {A : Type 0} (f : Particle-F A → A) where
  pub fold-One : (n : Chars) (o : Occurs) → fold-Particle A f (One n o) ≡ f (Particle-F.One n o)
  fold-One n o = ap (fold-Particle A f) (sym (rolls-One n o)) ∙ fold-roll-Particle A f (Particle-F.One n o)

  pub fold-Seq : (ps : List Particle) (o : Occurs) → fold-Particle A f (Seq ps o) ≡ f (Particle-F.Seq (map (fold-Particle A f) ps) o)
  fold-Seq ps o = ap (fold-Particle A f) (sym (rolls-Seq ps o)) ∙ fold-roll-Particle A f (Particle-F.Seq ps o)

  pub fold-Choice : (ps : List Particle) (o : Occurs) → fold-Particle A f (Choice ps o) ≡ f (Particle-F.Choice (map (fold-Particle A f) ps) o)
  fold-Choice ps o = ap (fold-Particle A f) (sym (rolls-Choice ps o)) ∙ fold-roll-Particle A f (Particle-F.Choice ps o)

pub model-One : (n : Chars) (o : Occurs) → model (One n o) ≡ occurring o (Sym n)
unfolding model
model-One = fold-One model_layer

pub model-Seq : (ps : List Particle) (o : Occurs) → model (Seq ps o) ≡ occurring o (in_order Eps (map model ps))
unfolding model
model-Seq = fold-Seq model_layer

pub model-Choice : (ps : List Particle) (o : Occurs) → model (Choice ps o) ≡ occurring o (choice_of (map model ps))
unfolding model
model-Choice = fold-Choice model_layer

-- induction in the words of the variants
abbrev pub Each : {A : Type 0} → (A → Type 0) → List A → Type 0
Each P [] = Unit {0}
Each P (x ∷ xs) = P x × Each P xs

pub induct : (P : Particle → Type 0)
    → ((n : Chars) (o : Occurs) → P (One n o))
    → ((ps : List Particle) (o : Occurs) → Each P ps → P (Seq ps o))
    → ((ps : List Particle) (o : Occurs) → Each P ps → P (Choice ps o))
    → (p : Particle) → P p
induct P one seq choice = ind-Particle P (λ x y is. subst (λ k. P (roll-Particle k)) is (go y))
  where
    each : (es : List ((p : Particle) × P p)) → Each P (map (λ e. e.0) es)
    each [] = tt
    each (e ∷ es) = (e.1, each es)

    go : (y : Particle-F ((p : Particle) × P p)) → P (roll-Particle (map-Particle ((p : Particle) × P p) Particle (λ e. e.0) y))
    go (Particle-F.One n o) = subst P (sym (rolls-One n o)) (one n o)
    go (Particle-F.Seq es o) = subst P (sym (rolls-Seq (map (λ e. e.0) es) o)) (seq (map (λ e. e.0) es) o (each es))
    go (Particle-F.Choice es o) = subst P (sym (rolls-Choice (map (λ e. e.0) es) o)) (choice (map (λ e. e.0) es) o (each es))
