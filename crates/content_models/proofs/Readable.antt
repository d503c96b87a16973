-- What a part derives, in the words of the standard.
use Rattle.std.proofs.Common.{◌≡◌, List, [], ◌∷◌, ◌++◌, ℕ, zero, suc, ◌⊎◌, inl, inr, map, refl, sym, ap, ◌∙◌, subst}
use Rattle.std.proofs.lemmas.List.{append_assoc, append-nil}
use Rattle.content_models.specs.declared.content.Occurs.{Occurs}
use Rattle.content_models.specs.declared.content.Occurs.TheVariants.{Once, Opt, Star}
use Rattle.content_models.specs.declared.content.Occurs.TheVariants as sign
use Rattle.content_models.specs.declared.content.Particle.{Particle}
use Rattle.content_models.specs.Re.{Re, Eps, Sym, Cat, Alt, Times, Generates}
use Rattle.content_models.specs.Model.{Chars, model, occurring, in_order, one_of}
use Rattle.content_models.specs.Rules.{InOrder, OfOne, Repeated, NameRule, SequenceRule, ChoiceRule}
use Rattle.content_models.proofs.Layers.{model-One, model-Seq, model-Choice}

abbrev Then : Re Chars → List Particle → List Chars → Type 0
Then first ps w = (u : List Chars) × (v : List Chars) × (w ≡ u ++ v) × Generates first u × InOrder ps v

in_order-to : (first : Re Chars) (ps : List Particle) (w : List Chars) → Generates (in_order first (map model ps)) w → Then first ps w
in_order-to first [] w d = (w, [], sym (append-nil w), d, refl)
in_order-to first (p ∷ ps) w d =
    let t = in_order-to (Cat first (model p)) ps w d in
    let c = t.3 in
    (c.0, c.1 ++ t.1, t.2 ∙ ap (λ k. k ++ t.1) c.2 ∙ append_assoc c.0 c.1 t.1, c.3, (c.1, t.1, refl, c.4, t.4))

in_order-from : (first : Re Chars) (ps : List Particle) (w : List Chars) → Then first ps w → Generates (in_order first (map model ps)) w
in_order-from first [] w t = subst (Generates first) (sym (t.2 ∙ ap (λ k. t.0 ++ k) t.4 ∙ append-nil t.0)) t.3
in_order-from first (p ∷ ps) w t =
    let s = t.4 in
    in_order-from (Cat first (model p)) ps w
    (t.0 ++ s.0, s.1, t.2 ∙ ap (λ k. t.0 ++ k) s.2 ∙ sym (append_assoc t.0 s.0 s.1), (t.0, s.0, refl, t.3, s.3), s.4)

sequence_to : (ps : List Particle) (w : List Chars) → Generates (in_order Eps (map model ps)) w → InOrder ps w
sequence_to ps w d = let t = in_order-to Eps ps w d in subst (InOrder ps) (sym (t.2 ∙ ap (λ k. k ++ t.1) t.3)) t.4

sequence_from : (ps : List Particle) (w : List Chars) → InOrder ps w → Generates (in_order Eps (map model ps)) w
sequence_from ps w j = in_order-from Eps ps w ([], w, refl, refl, j)

one_of-to : (first : Re Chars) (ps : List Particle) (w : List Chars) → Generates (one_of first (map model ps)) w → Generates first w ⊎ OfOne ps w
one_of-to first [] w d = inl d
one_of-to first (p ∷ ps) w d = elim (one_of-to (Alt first (model p)) ps w d) [
  | inl (inl e) ↦ inl e
  | inl (inr e) ↦ inr (inl e)
  | inr e ↦ inr (inr e)
]

one_of-from : (first : Re Chars) (ps : List Particle) (w : List Chars) → Generates first w ⊎ OfOne ps w → Generates (one_of first (map model ps)) w
one_of-from first [] w (inl d) = d
one_of-from first [] w (inr d) = elim d [ ]
one_of-from first (p ∷ ps) w (inl d) = one_of-from (Alt first (model p)) ps w (inl (inl d))
one_of-from first (p ∷ ps) w (inr (inl d)) = one_of-from (Alt first (model p)) ps w (inl (inr d))
one_of-from first (p ∷ ps) w (inr (inr d)) = one_of-from (Alt first (model p)) ps w (inr d)

-- what holds of each list of L holds of lists of L joined
times_each : (L M : List Chars → Type 0) → ((w : List Chars) → L w → M w) → (n : ℕ) (w : List Chars) → Times L n w → Times M n w
times_each L M f zero w t = f w t
times_each L M f (suc n) w t = (t.0, t.1, t.2, f t.0 t.3, times_each L M f n t.1 t.4)

repeated_each : (L M : List Chars → Type 0) → ((w : List Chars) → L w → M w) → (o : Occurs) (w : List Chars) → Repeated o L w → Repeated o M w
repeated_each L M f Once w d = f w d
repeated_each L M f Opt w (inl e) = inl e
repeated_each L M f Opt w (inr d) = inr (f w d)
repeated_each L M f Star w (inl e) = inl e
repeated_each L M f Star w (inr d) = inr (d.0, times_each L M f d.0 w d.1)
repeated_each L M f sign.Plus w d = (d.0, times_each L M f d.0 w d.1)

occurring-to : (o : Occurs) (r : Re Chars) (w : List Chars) → Generates (occurring o r) w → Repeated o (Generates r) w
occurring-to Once r w d = d
occurring-to Opt r w d = d
occurring-to Star r w d = d
occurring-to sign.Plus r w d = d

occurring-from : (o : Occurs) (r : Re Chars) (w : List Chars) → Repeated o (Generates r) w → Generates (occurring o r) w
occurring-from Once r w d = d
occurring-from Opt r w d = d
occurring-from Star r w d = d
occurring-from sign.Plus r w d = d

pub name_rule : NameRule
name_rule n o w = (
  (λ d. occurring-to o (Sym n) w (subst (λ r. Generates r w) (model-One n o) d)),
  (λ d. subst (λ r. Generates r w) (sym (model-One n o)) (occurring-from o (Sym n) w d)),
)

pub sequence_rule : SequenceRule
sequence_rule ps o w =
    let r = in_order Eps (map model ps) in (
      (λ d. repeated_each (Generates r) (InOrder ps) (sequence_to ps) o w (occurring-to o r w (subst (λ r. Generates r w) (model-Seq ps o) d))),
      (λ d. subst (λ r. Generates r w) (sym (model-Seq ps o)) (occurring-from o r w (repeated_each (InOrder ps) (Generates r) (sequence_from ps) o w d))),
    )

pub choice_rule : ChoiceRule
choice_rule p ps o w =
    let r = one_of (model p) (map model ps) in (
      (λ d. repeated_each (Generates r) (OfOne (p ∷ ps)) (one_of-to (model p) ps) o w (occurring-to o r w (subst (λ r. Generates r w) (model-Choice (p ∷ ps) o) d))),
      (λ d. subst (λ r. Generates r w) (sym (model-Choice (p ∷ ps) o)) (occurring-from o r w (repeated_each (OfOne (p ∷ ps)) (Generates r) (one_of-from (model p) ps) o w d))),
    )
