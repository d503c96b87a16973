-- What a build answers, by the tree that is the chosen one.
use Rattle.std.proofs.Common.{◌≡◌, ◌∙◌, ◌≤◌, ℕ, List, [], Bool, sym, ap, subst, arith, Some, None, Ok, Err, slice_get, IfSome, IsTrue}
use Rattle.std.specs.Prelude.{is_some}
use Rattle.content_models.specs.Model.{Chars}
use Rattle.tree_costs.specs.Leasts.{place_of}
use Rattle.tree_costs.proofs.Places.{stands_at, has_place}
use Rattle.decl_set.specs.Declarations.{Element}
use Rattle.separating_article.specs.Building.{HasTree, Begins, Tells}
use Rattle.separating_article.specs.ChosenSteps.{AreChosen}
use Rattle.separating_article.specs.Growing.{Starts, Stands, IsUnderWay, Grown}
use Rattle.separating_article.specs.Guides.{IsGuide}
use Rattle.separating_article.specs.Sizes.{written_size}
use Rattle.separating_article.specs.declared.fault.BuildOver.{BuildOver}
use Rattle.separating_article.specs.declared.fault.BuildOver.TheVariants.{TextOver, NoMemory}
use Rattle.separating_article.specs.declared.guide.Guide.{Guide}
use Rattle.separating_article.specs.declared.growing.Started.{Started}
use Rattle.separating_article.specs.declared.growing.Growing.{Growing}
use Rattle.separating_article.proofs.Opened.{top_has}
use Rattle.separating_article.proofs.UnderWay.{begun, begun_over}

module _ (guide : Guide) (separates : Bool) (root : Chars) (limit : ℕ) (ok : IsGuide guide) where
  -- the element has a place
  pub at_place : (place : ℕ) → Some place ≡ place_of guide.first.now root → (x : Element) × (slice_get guide.first.now.elements place ≡ Some x)
  at_place place q = let t = stands_at guide.first.now root place (sym q) in ((root, t.0), t.2)

  pub at_some : (place : ℕ) → Some place ≡ place_of guide.first.now root → IsTrue (is_some (slice_get guide.first.now.elements place))
  at_some place q = ap is_some (at_place place q).1

  pub no_place : None ≡ place_of guide.first.now root → HasTree guide separates root → ⊥
  no_place q h =
      let t = top_has guide separates root h.0.atts h.0.items h.1.0.1 in
      let p = has_place guide.first.now root t.0 t.1 in
      let e : None ≡ Some p.0 = q ∙ p.1 in
      cc

  module _ (place : ℕ) (q : Some place ≡ place_of guide.first.now root) where
    -- nothing is started
    pub start_over : (over : BuildOver) → IfSome (slice_get guide.first.now.elements place) (λ e. Starts guide e.0 place separates limit (Err over)) → Begins guide separates root limit (Err over)
    start_over TextOver started = λ tree h.
        let t = stands_at guide.first.now root place (sym q) in
        begun_over guide ok limit place separates root t.0 tree t.2 h.0 started
    start_over NoMemory started = λ tree h. tt

    pub start_stands : (work : Growing) → work.outer.items ≡ []
        → IfSome (slice_get guide.first.now.elements place) (λ e. Starts guide e.0 place separates limit (Ok (work.inner, work.left))) → AreChosen guide work.steps
        → Begins guide separates root limit (Ok work)
    start_stands work none started chosen = λ tree h.
        let t = stands_at guide.first.now root place (sym q) in (
          subst (λ (l : List Started). Stands guide limit tree work.left work.inner l) (sym none)
              (begun guide ok limit place separates root t.0 tree t.2 h.0 work.left work.inner h.1 started),
          chosen,
        )

  pub under_way : (work : Growing) → Begins guide separates root limit (Ok work) → HasTree guide separates root → IsUnderWay guide work
  under_way work begins h = let b = begins h.0 h.1 in (ok, (limit, h.0, b.0), b.1)

  pub begun_not : (over : BuildOver) → Begins guide separates root limit (Err over) → Tells guide separates root limit (Err over)
  begun_not TextOver h = h
  begun_not NoMemory h = λ tree is. tt

  pub grown_over : (over : BuildOver) (work new : Growing) → Begins guide separates root limit (Ok work) → Grown guide work new (Err over) → Tells guide separates root limit (Err over)
  grown_over TextOver work new begins g = λ tree h. g limit tree (begins tree h).0
  grown_over NoMemory work new begins g = λ tree h. tt

  pub grown_whole : (work new : Growing) → Begins guide separates root limit (Ok work) → Grown guide work new (Ok tt) → Tells guide separates root limit (Ok new.inner.node)
  grown_whole work new begins g = λ tree h.
      let t = g limit tree (begins tree h).0 in
      let sum = t.1 in
      (t.0, (let small : written_size tree ≤ limit = omega (arith, sum) in small))
