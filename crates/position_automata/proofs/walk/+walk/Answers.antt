use Rattle.std.proofs.Common.{rules, arith, List, ℕ, ◌≡◌, ◌+◌, ◌++◌, ◌∷◌, ◌<◌, ◌==◌, length, [], take, get_or, sym, ap, ◌∙◌, subst, refl}
use Rattle.std.proofs.lemmas.List.{take_all}
use Rattle.content_models.specs.declared.content.Particle.{the_lemmas}
use Rattle.content_models.specs.Model.{model, occurring, in_order, choice_of}
use Rattle.content_models.proofs.Layers.{model-One, model-Seq, model-Choice}
use Rattle.content_models.specs.Re.{Eps, Sym, Cat}
use Rattle.position_automata.specs.Marked.{count}
use Rattle.position_automata.specs.Owed.{IsListed}
use Rattle.position_automata.specs.Places.{IsEnds, models, edges}
use Rattle.position_automata.proofs.Listing.{listed-occurring, listed-none, listed-cat, listed-either}
use Rattle.position_automata.proofs.Steps.{count-occurring, ends-occurring, ends-join, order_more, part_within}
use Rattle.position_automata.proofs.Choices.{IsPartly, partly-whole, partly-more, models_more, choice-count, choice-edges, choice_within}
use Rattle.position_automata.proofs.walk.+walk.Goals as goal

pub walk-walk_seq-requires : goal.walk-walk_seq-requires
walk-walk_seq-requires t c =
    let e : count (model c.args.particle.now) ≡ count (in_order Eps (models c.as_slice.result.now)) =
    ap (λ p. count (model p)) c.in-Seq.is ∙ ap count (model-Seq c.in-Seq.parts c.in-Seq.occurs)
    ∙ count-occurring c.in-Seq.occurs (in_order Eps (models c.in-Seq.parts)) ∙ ap (λ k. count (in_order Eps (models k))) (sym c.as_slice.ensures) in
    (search (rules, the_lemmas), omega (arith, e))

pub walk-returns-in_ok-repeat-in-One-clause-ends : goal.walk-returns-in_ok-repeat-in-One-clause-ends
walk-returns-in_ok-repeat-in-One-clause-ends t c =
    let k = c.args.k in
    let e : model c.args.particle.now ≡ occurring c.in-One.occurs (Sym c.in-One.field-0) = ap model c.in-One.is ∙ model-One c.in-One.field-0 c.in-One.occurs in
    let I : IsEnds k (Sym c.in-One.field-0) c.in_ok-one-in-One.field-0 =
    record { nullable_is = c.in_ok-one-in-One.ensures.ends.0; first_is = c.in_ok-one-in-One.ensures.ends.1; last_is = c.in_ok-one-in-One.ensures.ends.2 } in (
      subst (λ x. IsEnds k x c.in_ok-repeat-in-One.field-0) (sym e)
          (ends-occurring k (Sym c.in-One.field-0) c.in-One.occurs c.in_ok-one-in-One.field-0 c.in_ok-repeat-in-One.field-0 I
          c.in_ok-repeat-in-One.ensures.ends.0 c.in_ok-repeat-in-One.ensures.ends.1 c.in_ok-repeat-in-One.ensures.ends.2),
      ap (λ x. k + x) (sym (ap count e ∙ count-occurring c.in-One.occurs (Sym c.in-One.field-0))),
    )

pub walk-returns-in_ok-repeat-in-One-clause-listed : goal.walk-returns-in_ok-repeat-in-One-clause-listed
walk-returns-in_ok-repeat-in-One-clause-listed t c =
    let k = c.args.k in
    let now = c.args.edges.now.items in
    let e : model c.args.particle.now ≡ occurring c.in-One.occurs (Sym c.in-One.field-0) = ap model c.in-One.is ∙ model-One c.in-One.field-0 c.in-One.occurs in
    let b = c.in_ok-one-in-One in
    let I : IsEnds k (Sym c.in-One.field-0) b.field-0 =
    record { nullable_is = b.ensures.ends.0; first_is = b.ensures.ends.1; last_is = b.ensures.ends.2 } in
    subst (λ x. IsListed (edges k x) now now c.in_ok-repeat-in-One.field-0) (sym e)
    (listed-occurring k (Sym c.in-One.field-0) c.in-One.occurs b.field-0 c.in_ok-repeat-in-One.field-0 now now I (listed-none b.field-0 now b.ensures.owed)
    c.in_ok-repeat-in-One.ensures.ends.1 c.in_ok-repeat-in-One.ensures.ends.2 c.in_ok-repeat-in-One.ensures.owed)

pub walk-returns-in_ok-repeat-in-Seq-clause-ends : goal.walk-returns-in_ok-repeat-in-Seq-clause-ends
walk-returns-in_ok-repeat-in-Seq-clause-ends t c =
    let k = c.args.k in
    let r = in_order Eps (models c.as_slice.result.now) in
    let e : model c.args.particle.now ≡ occurring c.in-Seq.occurs r =
    ap model c.in-Seq.is ∙ model-Seq c.in-Seq.parts c.in-Seq.occurs ∙ ap (λ x. occurring c.in-Seq.occurs (in_order Eps (models x))) (sym c.as_slice.ensures) in
    let I : IsEnds k r c.in_ok-ends-in-Seq.ends = c.in_ok-ends-in-Seq.ensures.ends.0 in (
      subst (λ x. IsEnds k x c.in_ok-repeat-in-Seq.field-0) (sym e)
          (ends-occurring k r c.in-Seq.occurs c.in_ok-ends-in-Seq.ends c.in_ok-repeat-in-Seq.field-0 I
          c.in_ok-repeat-in-Seq.ensures.ends.0 c.in_ok-repeat-in-Seq.ensures.ends.1 c.in_ok-repeat-in-Seq.ensures.ends.2),
      c.in_ok-ends-in-Seq.ensures.ends.1 ∙ ap (λ x. k + x) (sym (ap count e ∙ count-occurring c.in-Seq.occurs r)),
    )

pub walk-returns-in_ok-repeat-in-Seq-clause-listed : goal.walk-returns-in_ok-repeat-in-Seq-clause-listed
walk-returns-in_ok-repeat-in-Seq-clause-listed t c =
    let k = c.args.k in
    let r = in_order Eps (models c.as_slice.result.now) in
    let e : model c.args.particle.now ≡ occurring c.in-Seq.occurs r =
    ap model c.in-Seq.is ∙ model-Seq c.in-Seq.parts c.in-Seq.occurs ∙ ap (λ x. occurring c.in-Seq.occurs (in_order Eps (models x))) (sym c.as_slice.ensures) in
    subst (λ x. IsListed (edges k x) c.args.edges.now.items c.walk_seq.new.edges.items c.in_ok-repeat-in-Seq.field-0) (sym e)
    (listed-occurring k r c.in-Seq.occurs c.in_ok-ends-in-Seq.ends c.in_ok-repeat-in-Seq.field-0 c.args.edges.now.items c.walk_seq.new.edges.items
    c.in_ok-ends-in-Seq.ensures.ends.0 c.in_ok-ends-in-Seq.ensures.listed
    c.in_ok-repeat-in-Seq.ensures.ends.1 c.in_ok-repeat-in-Seq.ensures.ends.2 c.in_ok-repeat-in-Seq.ensures.owed)

pub walk_seq-walk-requires : goal.walk_seq-walk-requires
walk_seq-walk-requires t c =
    let d = c.part-item.result in
    let w : c.loop-part.part-index < length c.args.parts.now = omega arith in
    let e : count (model d) ≡ count (model (get_or c.args.parts.now c.loop-part.part-index d)) = ap (λ x. count (model x)) c.part-item.is in
    (search (rules, the_lemmas), omega (arith, part_within c.args.parts.now c.loop-part.part-index d w, e, c.loop-part.invariant.next))

pub walk_seq-loop-part-preserved : goal.walk_seq-loop-part-preserved
walk_seq-loop-part-preserved t c =
    let k = c.args.k in
    let d = c.part-item.result in
    let i = c.loop-part.part-index in
    let w : i < length c.args.parts.now = omega arith in
    let r = in_order Eps (models (take i c.args.parts.now)) in
    let s = model d in
    let e : in_order Eps (models (take (i + 1) c.args.parts.now)) ≡ Cat r s =
    order_more c.args.parts.now i d w ∙ ap (λ x. Cat r (model x)) (sym c.part-item.is) in
    let B : IsEnds (k + count r) s c.in_ok-ends.ends = subst (λ x. IsEnds x s c.in_ok-ends.ends) c.loop-part.invariant.next c.in_ok-ends.ensures.ends.0 in
    let J : IsListed (edges (k + count r) s) c.loop-part.edges.items c.walk.new.edges.items c.in_ok-ends.ends =
    subst (λ x. IsListed (edges x s) c.loop-part.edges.items c.walk.new.edges.items c.in_ok-ends.ends) c.loop-part.invariant.next c.in_ok-ends.ensures.listed in
    record {
      ends = subst (λ x. IsEnds k x c.in_ok-acc.acc) (sym e)
          (ends-join k r s c.loop-part.acc c.in_ok-ends.ends c.in_ok-acc.acc c.loop-part.invariant.ends B
          c.in_ok-acc.ensures.ends.0 c.in_ok-acc.ensures.ends.1 c.in_ok-acc.ensures.ends.2);
      next =
          let n : c.in_ok-ends.after ≡ k + (count r + count s) = omega (arith, c.in_ok-ends.ensures.ends.1, c.loop-part.invariant.next) in
          n ∙ ap (λ x. k + count x) (sym e);
      listed = subst (λ x. IsListed (edges k x) c.args.edges.now.items c.join.new.edges.items c.in_ok-acc.acc) (sym e)
          (listed-cat k r s c.loop-part.acc c.in_ok-ends.ends c.in_ok-acc.acc c.args.edges.now.items c.loop-part.edges.items c.walk.new.edges.items c.join.new.edges.items
          c.loop-part.invariant.ends B c.loop-part.invariant.listed J
          c.in_ok-acc.ensures.ends.1 c.in_ok-acc.ensures.ends.2 c.in_ok-acc.ensures.kept c.in_ok-acc.ensures.listed);
    }

pub walk-walk_choice-requires : goal.walk-walk_choice-requires
walk-walk_choice-requires t c =
    let e : count (model c.args.particle.now) ≡ count (choice_of (models c.as_slice-in-Choice.result.now)) =
    ap (λ p. count (model p)) c.in-Choice.is ∙ ap count (model-Choice c.in-Choice.parts c.in-Choice.occurs)
    ∙ count-occurring c.in-Choice.occurs (choice_of (models c.in-Choice.parts)) ∙ ap (λ k. count (choice_of (models k))) (sym c.as_slice-in-Choice.ensures) in
    (search (rules, the_lemmas), omega (arith, e))

pub walk-returns-in_ok-repeat-in-Choice-clause-ends : goal.walk-returns-in_ok-repeat-in-Choice-clause-ends
walk-returns-in_ok-repeat-in-Choice-clause-ends t c =
    let k = c.args.k in
    let r = choice_of (models c.as_slice-in-Choice.result.now) in
    let e : model c.args.particle.now ≡ occurring c.in-Choice.occurs r =
    ap model c.in-Choice.is ∙ model-Choice c.in-Choice.parts c.in-Choice.occurs ∙ ap (λ x. occurring c.in-Choice.occurs (choice_of (models x))) (sym c.as_slice-in-Choice.ensures) in
    let I : IsEnds k r c.in_ok-ends-in-Choice.ends = c.in_ok-ends-in-Choice.ensures.ends.0 in (
      subst (λ x. IsEnds k x c.in_ok-repeat-in-Choice.field-0) (sym e)
          (ends-occurring k r c.in-Choice.occurs c.in_ok-ends-in-Choice.ends c.in_ok-repeat-in-Choice.field-0 I
          c.in_ok-repeat-in-Choice.ensures.ends.0 c.in_ok-repeat-in-Choice.ensures.ends.1 c.in_ok-repeat-in-Choice.ensures.ends.2),
      c.in_ok-ends-in-Choice.ensures.ends.1 ∙ ap (λ x. k + x) (sym (ap count e ∙ count-occurring c.in-Choice.occurs r)),
    )

pub walk-returns-in_ok-repeat-in-Choice-clause-listed : goal.walk-returns-in_ok-repeat-in-Choice-clause-listed
walk-returns-in_ok-repeat-in-Choice-clause-listed t c =
    let k = c.args.k in
    let r = choice_of (models c.as_slice-in-Choice.result.now) in
    let e : model c.args.particle.now ≡ occurring c.in-Choice.occurs r =
    ap model c.in-Choice.is ∙ model-Choice c.in-Choice.parts c.in-Choice.occurs ∙ ap (λ x. occurring c.in-Choice.occurs (choice_of (models x))) (sym c.as_slice-in-Choice.ensures) in
    subst (λ x. IsListed (edges k x) c.args.edges.now.items c.walk_choice.new.edges.items c.in_ok-repeat-in-Choice.field-0) (sym e)
    (listed-occurring k r c.in-Choice.occurs c.in_ok-ends-in-Choice.ends c.in_ok-repeat-in-Choice.field-0 c.args.edges.now.items c.walk_choice.new.edges.items
    c.in_ok-ends-in-Choice.ensures.ends.0 c.in_ok-ends-in-Choice.ensures.listed
    c.in_ok-repeat-in-Choice.ensures.ends.1 c.in_ok-repeat-in-Choice.ensures.ends.2 c.in_ok-repeat-in-Choice.ensures.owed)

pub walk_choice-walk-requires : goal.walk_choice-walk-requires
walk_choice-walk-requires t c =
    let d = c.part-item.result in
    let w : c.loop-part.part-index < length c.args.parts.now = omega arith in
    let e : count (model d) ≡ count (model (get_or c.args.parts.now c.loop-part.part-index d)) = ap (λ x. count (model x)) c.part-item.is in
    (search (rules, the_lemmas), omega (arith, choice_within c.args.parts.now c.loop-part.part-index d w, e, c.loop-part.invariant.next))

pub walk_choice-loop-part-preserved : goal.walk_choice-loop-part-preserved
walk_choice-loop-part-preserved t c =
    let k = c.args.k in
    let d = c.part-item.result in
    let i = c.loop-part.part-index in
    let w : i < length c.args.parts.now = omega arith in
    let rs = models (take i c.args.parts.now) in
    let s = model d in
    let e : models (take (i + 1) c.args.parts.now) ≡ rs ++ s ∷ [] =
    models_more c.args.parts.now i d w ∙ ap (λ x. rs ++ model x ∷ []) (sym c.part-item.is) in
    let B : IsEnds (k + count (choice_of rs)) s c.in_ok-ends.ends = subst (λ x. IsEnds x s c.in_ok-ends.ends) c.loop-part.invariant.next c.in_ok-ends.ensures.ends.0 in
    let J : IsListed (edges (k + count (choice_of rs)) s) c.loop-part.edges.items c.walk.new.edges.items c.in_ok-ends.ends =
    subst (λ x. IsListed (edges x s) c.loop-part.edges.items c.walk.new.edges.items c.in_ok-ends.ends) c.loop-part.invariant.next c.in_ok-ends.ensures.listed in
    record {
      ends = subst (λ x. IsPartly k (length c.args.parts.now == 0) x c.in_ok-acc.acc) (sym e)
          (partly-more k (length c.args.parts.now == 0) rs s c.loop-part.acc c.in_ok-ends.ends c.in_ok-acc.acc c.loop-part.invariant.ends B
          c.in_ok-acc.ensures.ends.0 c.in_ok-acc.ensures.ends.1 c.in_ok-acc.ensures.ends.2);
      next =
          let n : c.in_ok-ends.after ≡ k + (count (choice_of rs) + count s) = omega (arith, c.in_ok-ends.ensures.ends.1, c.loop-part.invariant.next) in
          n ∙ ap (λ x. k + x) (sym (choice-count rs s)) ∙ ap (λ x. k + count (choice_of x)) (sym e);
      listed = subst (λ (x : List (ℕ × ℕ)). IsListed x c.args.edges.now.items c.walk.new.edges.items c.in_ok-acc.acc)
          (sym (ap (λ x. edges k (choice_of x)) e ∙ choice-edges k rs s))
          (listed-either c.loop-part.acc c.in_ok-ends.ends c.in_ok-acc.acc (edges k (choice_of rs)) (edges (k + count (choice_of rs)) s)
          c.args.edges.now.items c.loop-part.edges.items c.walk.new.edges.items c.loop-part.invariant.listed J
          c.in_ok-acc.ensures.ends.1 c.in_ok-acc.ensures.ends.2 c.in_ok-acc.ensures.owed);
    }

pub walk_choice-returns-clause-ends : goal.walk_choice-returns-clause-ends
walk_choice-returns-clause-ends t c =
    let ps = c.args.parts.now in
    let e : take c.loop-part.part-index ps ≡ ps = take_all c.loop-part.part-index ps (omega arith) in (
      partly-whole c.args.k ps (length ps == 0) c.loop-part.acc refl
          (subst (λ x. IsPartly c.args.k (length ps == 0) (models x) c.loop-part.acc) e c.loop-part.invariant.ends),
      c.loop-part.invariant.next ∙ ap (λ x. c.args.k + count (choice_of (models x))) e,
    )
