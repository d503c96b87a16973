-- The steps of a tree under way, and all of them.
use Rattle.std.proofs.Common.{◌≡◌, ◌∙◌, ◌<◌, ◌≤◌, ℕ, ◌+◌, ◌-◌, ◌*◌, List, [], ◌∷◌, ◌++◌, Bool, true, false, cond, refl, sym, ap, subst, arith, Some, None, Ok, Err, slice_get, IfSome}
use Rattle.std.specs.Bool.{OnTrue, OnFalse}
use Rattle.content_models.specs.declared.content.Content.{Content}
use Rattle.content_models.specs.Model.{Chars}
use Rattle.document_trees.specs.Trees.{nothing, element, elements_in}
use Rattle.tree_costs.specs.Beside.{Front, put}
use Rattle.separating_article.specs.Choosing.{next_step}
use Rattle.separating_article.specs.ChosenSteps.{AreChosen}
use Rattle.separating_article.specs.Guides.{IsGuide}
use Rattle.separating_article.specs.Openings.{way_of, front_of}
use Rattle.separating_article.specs.Sizes.{written_size}
use Rattle.separating_article.specs.Growing.{Starts, Stands, steps_of, done, ComesTo, IsUnderWay, Keeps, GoesOn, IsWhole, Steps, Enters, Grown, with_child, Leaves}
use Rattle.separating_article.specs.declared.choosing.Step.{Step}
use Rattle.separating_article.specs.declared.fault.BuildOver.{BuildOver}
use Rattle.separating_article.specs.declared.fault.BuildOver.TheVariants.{TextOver, NoMemory}
use Rattle.separating_article.specs.declared.guide.Guide.{Guide}
use Rattle.separating_article.specs.declared.growing.Started.{Started}
use Rattle.separating_article.specs.declared.growing.Growing.{Growing}
use Rattle.separating_article.proofs.UnderWay.{joined_size, steps_last, done_within, started_of, entered, entered_over, entered_at, left_stands, whole_is}

-- one element more is started
enter_nearer : (old w new : Started) (outer more : List Started) → elements_in new.node.items ≡ 0 → elements_in w.node.items ≡ elements_in old.node.items → more ≡ outer ++ w ∷ []
    → steps_of more + (2 * elements_in new.node.items + 1) ≡ steps_of outer + (2 * elements_in old.node.items + 1) + 1
enter_nearer old w new outer more bare same behind =
    let s = ap steps_of behind ∙ steps_last outer w in
    omega (arith, s)

-- one is ended
leave_nearer : (old w new : Started) (outer more : List Started) → new ≡ with_child w old.node → more ≡ outer ++ w ∷ []
    → steps_of outer + (2 * elements_in new.node.items + 1) ≡ steps_of more + (2 * elements_in old.node.items + 1) + 1
leave_nearer old w new outer more with behind =
    let s = ap steps_of behind ∙ steps_last outer w in
    let i = old.node in
    let e : elements_in new.node.items ≡ elements_in w.node.items + elements_in (element i.name i.atts i.items nothing) =
    ap (λ (v : Started). elements_in v.node.items) with ∙ joined_size w.node.items (element i.name i.atts i.items nothing) in
    omega (arith, s, e)

-- nothing is an element in front
put_none : (front : Front) → elements_in (put front nothing) ≡ 0
put_none None = refl
put_none (Some run) = refl

module _ (guide : Guide) where
  pub enters : (old new : Growing) (s : Step) (w : Started) → old.inner.step ≡ Some s → IsUnderWay guide old
      → IfSome (slice_get guide.first.now.elements s.place) (λ e. Starts guide e.0 s.place s.separates old.left (Ok (new.inner, new.left)))
      → w ≡ record old.inner { step = next_step guide old.inner.place s.path } → new.outer.items ≡ old.outer.items ++ w ∷ [] → AreChosen guide new.steps
      → GoesOn guide old new
  unfolding done
  enters old new s w is way started with_step behind chosen =
      let ok = way.0 in
      let x = entered_at guide ok way.1.0 way.1.1 old.left s old.inner old.outer.items is way.1.2 in
      let h = started_of guide s.place s.separates old.left x.0 (Ok (new.inner, new.left)) x.1 started in (
        λ limit tree S. entered guide ok limit tree old.left s old.inner old.outer.items is S new.left new.inner w new.outer.items started with_step behind,
        enter_nearer old.inner w new.inner old.outer.items new.outer.items
            (ap (λ (v : Started). elements_in v.node.items) h.0 ∙ put_none (front_of guide x.0.0 (way_of guide s.place x.0.0 s.separates)))
            (ap (λ (v : Started). elements_in v.node.items) with_step) behind,
        chosen,
      )

  pub enters_over : (old new : Growing) (s : Step) (over : BuildOver) → IsGuide guide → old.inner.step ≡ Some s
      → IfSome (slice_get guide.first.now.elements s.place) (λ e. Starts guide e.0 s.place s.separates old.left (Err over)) → Enters guide old new (Err over)
  enters_over old new s TextOver ok is started =
      λ limit tree S. entered_over guide ok limit tree old.left s old.inner old.outer.items is S started
  enters_over old new s NoMemory ok is started = tt

  -- the element of the step is declared
  pub step_declared : (old : Growing) (s : Step) → old.inner.step ≡ Some s → IsUnderWay guide old
      → (x : Chars × Content) × (slice_get guide.first.now.elements s.place ≡ Some x)
  step_declared old s is way = entered_at guide way.0 way.1.0 way.1.1 old.left s old.inner old.outer.items is way.1.2

  pub leaves : (old new : Growing) (more : Bool) → IsUnderWay guide old → old.inner.step ≡ None → Leaves old new more → Steps guide old new (Ok more)
  unfolding done
  leaves old new true way is h = (
    λ limit tree S. subst (λ (n : ℕ). Stands guide limit tree n new.inner new.outer.items) (sym h.3)
        (left_stands guide limit tree old.left old.inner is h.0 new.inner new.outer.items old.outer.items h.1 h.2 S),
    leave_nearer old.inner h.0 new.inner new.outer.items old.outer.items h.2 h.1,
    subst (AreChosen guide) (sym h.4) way.2,
  )
  leaves old new false way is h =
      λ limit tree S.
      let t = whole_is guide limit tree old.left old.inner is old.outer.items h.0 S in
      (h.1 ∙ t.0, ap (λ (n : ℕ). n + written_size tree) h.2 ∙ t.1)

  pub enters_on : (old new : Growing) → Enters guide old new (Ok tt) → Steps guide old new (Ok true)
  enters_on old new h = h

  pub enters_stop : (old new : Growing) (over : BuildOver) → Enters guide old new (Err over) → Steps guide old new (Err over)
  enters_stop old new TextOver h = h
  enters_stop old new NoMemory h = tt

  -- ---- all steps

  still : (old new : Growing) → Keeps guide old new → ComesTo guide old → ComesTo guide new
  still old new keeps h = (h.0, h.1, keeps h.0 h.1 h.2)

  -- what the loop keeps
  pub record Loops (more : Bool) (start now : Growing) : Type 0 where
    pub goes : OnTrue more (Keeps guide start now × IsUnderWay guide now)
    pub ends : OnFalse more (IsWhole guide start now)

  pub loops_on : (more : Bool) (start now new : Growing) → Steps guide now new (Ok more) → Loops true start now → Loops more start new
  loops_on true start now new h k =
      let way = k.goes.1 in
      record { goes = (λ limit tree S. h.0 limit tree (k.goes.0 limit tree S), (way.0, still now new h.0 way.1, h.2)); ends = tt }
  loops_on false start now new h k = record { goes = tt; ends = λ limit tree S. h limit tree (k.goes.0 limit tree S) }

  pub loops_start : (start : Growing) → IsUnderWay guide start → Loops true start start
  loops_start start way = record { goes = (λ limit tree S. S, way); ends = tt }

  pub done_small : (now : Growing) → IsUnderWay guide now → done now ≤ 2 * guide.cap
  unfolding done
  done_small now way = done_within guide way.1.0 way.1.1 now.left now.inner now.outer.items way.1.2

  -- how many steps there may still be
  abbrev pub left_of : Bool → Growing → ℕ
  left_of more now = cond more (2 * guide.cap + 1 - done now) 0

  pub loops_fall : (more : Bool) (start now new : Growing) → Steps guide now new (Ok more) → Loops true start now → left_of more new < left_of true now
  loops_fall true start now new h k =
      let way = k.goes.1 in
      let small = done_small new (way.0, still now new h.0 way.1, h.2) in
      let near = h.1 in
      omega (arith, small, near)
  loops_fall false start now new h k =
      let small = done_small now k.goes.1 in
      omega (arith, small)

  pub loops_over : (over : BuildOver) (start now new last : Growing) → Steps guide now new (Err over) → Loops true start now → Grown guide start last (Err over)
  loops_over TextOver start now new last h k = λ limit tree S. h limit tree (k.goes.0 limit tree S)
  loops_over NoMemory start now new last h k = tt
