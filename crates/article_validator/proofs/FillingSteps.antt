-- Elements that are filled one item at a time.
use Rattle.std.proofs.Common.{◌≡◌, ◌∙◌, ℕ, ◌+◌, ◌<◌, List, [], ◌∷◌, ◌++◌, length, Bool, true, false, cond, refl, ap, sym, arith}
use Rattle.std.specs.Bool.{OnTrue, OnFalse}
use Rattle.document_trees.specs.Trees.{Attribute, Items, Node, nothing, element, chars, comment, pi, joined}
use Rattle.document_trees.specs.Seen.{items_of, put}
use Rattle.document_trees.specs.declared.nodes.Item.{Item}
use Rattle.document_trees.specs.declared.nodes.Item.TheVariants.{Element}
use Rattle.decl_set.specs.Declarations.{Declarations}
use Rattle.article_validator.specs.Filling.{filled, filled_atts, filled_items}
use Rattle.article_validator.specs.FillingSteps.{filled_on, put_in, around, steps_in, all_steps, whole, steps, whole_of, steps_of, Fills}
use Rattle.article_validator.specs.declared.filling.Waiting.{Waiting}
use Rattle.article_validator.specs.declared.filling.Filling.{Filling}

joined_nothing : (a : Items) → joined a nothing ≡ a
joined_nothing nothing = refl
joined_nothing (element name atts inside later) = ap (element name atts inside) (joined_nothing later)
joined_nothing (chars text plain later) = ap (chars text plain) (joined_nothing later)
joined_nothing (comment text later) = ap (comment text) (joined_nothing later)
joined_nothing (pi target body later) = ap (pi target body) (joined_nothing later)

joined_assoc : (a b c : Items) → joined (joined a b) c ≡ joined a (joined b c)
joined_assoc nothing b c = refl
joined_assoc (element name atts inside later) b c = ap (element name atts inside) (joined_assoc later b c)
joined_assoc (chars text plain later) b c = ap (chars text plain) (joined_assoc later b c)
joined_assoc (comment text later) b c = ap (comment text) (joined_assoc later b c)
joined_assoc (pi target body later) b c = ap (pi target body) (joined_assoc later b c)

abbrev holding : List ℕ → List Attribute → Items → Node
holding name atts items = record { name = name; atts = atts; items = items }

module _ (set : Declarations) where
  around_last : (ws : List Waiting) (w : Waiting) (inner : Node) → around set (ws ++ w ∷ []) inner ≡ around set ws (put_in set w inner)
  around_last [] w inner = refl
  around_last (v ∷ ws) w inner = ap (put_in set v) (around_last ws w inner)

  steps_last : (ws : List Waiting) (w : Waiting) → all_steps (ws ++ w ∷ []) ≡ all_steps ws + (1 + steps_in (items_of w.later.now))
  steps_last [] w = omega arith
  steps_last (v ∷ ws) w = let e = steps_last ws w in omega (arith, e)

  -- an item that is put behind the others as it is
  pub item_put : (node now : Node) (one : Items) (item : Item) (items after : List Item) (ws : List Waiting) → items ≡ item ∷ after → now ≡ record node { items = joined node.items one }
      → joined one (filled_items set (items_of after)) ≡ filled_items set (put item (items_of after)) → steps_in (put item (items_of after)) ≡ 1 + steps_in (items_of after)
      → (whole set now after ws ≡ whole set node items ws) × (steps after ws < steps items ws)
  item_put node now one item items after ws split is same more = (
    ap (λ (n : Node). whole set n after ws) is
        ∙ ap (λ (x : Items). around set ws (holding node.name node.atts x)) (joined_assoc node.items one (filled_items set (items_of after)) ∙ ap (joined node.items) same)
        ∙ ap (λ (x : List Item). whole set node x ws) (sym split),
    rw split (omega (arith, more)),
  )

  pub element_entered : (node inner : Node) (outer : Node) (items after inside : List Item) (ws more : List Waiting) (w : Waiting) → items ≡ Element node ∷ after → items_of inside ≡ node.items
      → inner ≡ holding node.name (filled_atts set node.name node.atts) nothing → w.node ≡ outer → w.later.now ≡ after → more ≡ ws ++ w ∷ []
      → (whole set inner inside more ≡ whole set outer items ws) × (steps inside more < steps items ws)
  element_entered node inner outer items after inside ws more w split is begun same later behind =
      let e = steps_last ws w in (
        ap (λ (x : List Waiting). around set x (filled_on set inner inside)) behind
            ∙ around_last ws w (filled_on set inner inside)
            ∙ ap (λ (n : Node). around set ws (put_in set w (filled_on set n inside))) begun
            ∙ ap (λ (x : Items). around set ws (put_in set w (holding node.name (filled_atts set node.name node.atts) (filled_items set x)))) is
            ∙ ap (λ (n : Node). around set ws (holding n.name n.atts (joined n.items (element node.name (filled_atts set node.name node.atts) (filled_items set node.items) (filled_items set (items_of w.later.now)))))) same
            ∙ ap (λ (x : List Item). around set ws (holding outer.name outer.atts (joined outer.items (element node.name (filled_atts set node.name node.atts) (filled_items set node.items) (filled_items set (items_of x)))))) later
            ∙ ap (λ (x : List Item). whole set outer x ws) (sym split),
        rw (split, behind, is) (omega (arith, e, ap (λ (x : List Item). steps_in (items_of x)) later)),
      )

  -- the same, where the element is known by its parts
  pub element_put : (node inner outer now : Node) (items after inside held : List Item) (ws more : List Waiting) (w : Waiting) (name : List ℕ) (atts : List Attribute) → items ≡ Element node ∷ after
      → node ≡ holding name atts (items_of held) → inside ≡ held → inner ≡ holding node.name (filled_atts set node.name node.atts) nothing → now ≡ inner → w.node ≡ outer → w.later.now ≡ after → more ≡ ws ++ w ∷ []
      → (whole set now inside more ≡ whole set outer items ws) × (steps inside more < steps items ws)
  element_put node inner outer now items after inside held ws more w name atts split parts lent begun is same later behind =
      element_entered node now outer items after inside ws more w split (ap items_of lent ∙ ap (λ (n : Node). n.items) (sym parts)) (is ∙ begun) same later behind

  pub element_left : (node outer now : Node) (items later : List Item) (ws more : List Waiting) (w : Waiting) → items ≡ [] → more ≡ ws ++ w ∷ [] → w.node ≡ outer → w.later.now ≡ later
      → now ≡ record outer { items = joined outer.items (element node.name node.atts node.items nothing) }
      → (whole set now later ws ≡ whole set node items more) × (steps later ws < steps items more)
  element_left node outer now items later ws more w none behind same is put_behind =
      let e = steps_last ws w in (
        ap (λ (n : Node). whole set n later ws) put_behind
            ∙ ap (λ (x : Items). around set ws (holding outer.name outer.atts x)) (joined_assoc outer.items (element node.name node.atts node.items nothing) (filled_items set (items_of later)))
            ∙ ap (λ (n : Node). around set ws (holding n.name n.atts (joined n.items (element node.name node.atts node.items (filled_items set (items_of later)))))) (sym same)
            ∙ ap (λ (x : List Item). around set ws (holding w.node.name w.node.atts (joined w.node.items (element node.name node.atts node.items (filled_items set (items_of x)))))) (sym is)
            ∙ ap (λ (x : Items). around set ws (put_in set w (holding node.name node.atts x))) (sym (joined_nothing node.items))
            ∙ sym (around_last ws w (filled_on set node []))
            ∙ ap (λ (x : List Waiting). around set x (filled_on set node [])) (sym behind)
            ∙ ap (λ (x : List Item). whole set node x more) (sym none),
        rw (none, behind) (omega (arith, e, ap (λ (x : List Item). steps_in (items_of x)) is)),
      )

  pub all_filled : (node : Node) (items : List Item) (ws : List Waiting) → items ≡ [] → ws ≡ [] → whole set node items ws ≡ node
  all_filled node items ws none over =
      ap (λ (x : List Item). whole set node x ws) none ∙ ap (λ (x : List Waiting). whole set node [] x) over ∙ ap (holding node.name node.atts) (joined_nothing node.items)

  pub fill_begun : (node inner : Node) (inside : List Item) (ws : List Waiting) → items_of inside ≡ node.items → inner ≡ holding node.name (filled_atts set node.name node.atts) nothing → ws ≡ [] → whole set inner inside ws ≡ filled set node
  fill_begun node inner inside ws is begun none =
      ap (λ (x : List Waiting). whole set inner inside x) none
      ∙ ap (λ (n : Node). whole set n inside []) begun
      ∙ ap (λ (x : Items). holding node.name (filled_atts set node.name node.atts) (filled_items set x)) is

  pub fill_put : (node inner : Node) (inside held : List Item) (ws : List Waiting) (name : List ℕ) (atts : List Attribute) → node ≡ holding name atts (items_of held) → inside ≡ held
      → inner ≡ holding node.name (filled_atts set node.name node.atts) nothing → ws ≡ [] → whole set inner inside ws ≡ filled set node
  fill_put node inner inside held ws name atts parts lent begun none =
      fill_begun node inner inside ws (ap items_of lent ∙ ap (λ (n : Node). n.items) (sym parts)) begun none

pub none_waits : (ws : List Waiting) → length ws ≡ 0 → ws ≡ []
none_waits [] none = refl
none_waits (w ∷ ws) none = absurd (omega (arith, none))

pub step_keeps : (set : Declarations) (old new : Filling) (said : Node) (more : Bool) → OnTrue more (Fills set old new) → OnFalse more (whole_of set old ≡ new.node) → whole_of set old ≡ said
    → OnTrue more (whole_of set new ≡ said) × OnFalse more (new.node ≡ said)
step_keeps set old new said true goes all is = (goes.0 ∙ is, tt)
step_keeps set old new said false goes all is = (tt, sym all ∙ is)

pub step_falls : (set : Declarations) (old new : Filling) (more : Bool) → OnTrue more (Fills set old new) → cond more (steps_of new + 1) 0 < steps_of old + 1
step_falls set old new true goes = omega (arith, goes.1)
step_falls set old new false goes = omega arith
