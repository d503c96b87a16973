-- Documents from forests.
use Rattle.std.proofs.Common.{◌≡◌, List, [], ◌∷◌, ◌++◌, ℕ, ◌+◌, ◌⊎◌, inl, inr, refl, sym, ap, ◌∙◌, subst, Bool, cond, Option, Some, None, IsTrue, true≢false, bytes_eq}
use Rattle.std.specs.Prelude.{is_some}
use Rattle.std.specs.List.{AllByRecursion}
use Rattle.std.specs.Map.{lookup}
use Rattle.content_models.specs.declared.content.Content.{Content}
use Rattle.content_models.specs.Model.{Chars}
use Rattle.document_trees.specs.Trees.{Attribute, Items, nothing, element, chars, comment, pi, Node, IsDocument, EachBelow, child_names, elements_in, size}
use Rattle.attribute_types.proofs.TextTests.{on_test, bytes_same}
use Rattle.decl_set.specs.Declarations.{Declarations, Element, content_in}
use Rattle.decl_set.specs.Asked.{IsKept, IsElement}
use Rattle.decl_set.specs.Validity.{Meets, IsValid}
use Rattle.tree_costs.specs.declared.cost.Cost.{Cost}
use Rattle.tree_costs.specs.declared.cost.Cost.TheVariants.{Inf}
use Rattle.decl_set.specs.declared.breaks.Odd.{Odd}
use Rattle.tree_costs.specs.Costs.{cut, sum, total}
use Rattle.exact_tables.specs.Families.{total_with, OfSeparating}
use Rattle.position_automata.specs.Runs.{Runs}
use Rattle.tree_costs.specs.Beside.{Front, put, IsRight}
use Rattle.bound_checker.specs.Beside.{IsWrong, TellsOdd}
use Rattle.decl_set.specs.Oddness.{odd_in}
use Rattle.tree_costs.specs.Families.{OfDocument}
use Rattle.tree_costs.specs.Forests.{IsForest}
use Rattle.exact_tables.specs.Forests.{HasWrong}
use Rattle.tree_costs.proofs.Costs.{sum-inf, sum-cut, cut-zero}
use Rattle.bound_checker.proofs.Running.{runs-of, derives-of}
use Rattle.decl_set.proofs.Suiting.{met, meets}
use Rattle.tree_costs.proofs.Beside.{each_has_right}
use Rattle.tree_costs.proofs.Building.{node_with, topped, put_size, document_of as document_over}
use Rattle.bound_checker.proofs.Oddly.{element_tells}

module _ (first second : Declarations) (cap : ℕ) (kf : IsKept first) where
  pub document_of : (e : Chars) (a : Content) (items : Items) → content_in first e ≡ Some a → IsForest first items → Runs a 0 (child_names items)
      → OfDocument cap first e (cut cap (1 + elements_in items))
  document_of e a items d f r = document_over first cap e a items kf d f r

  -- one that is wrong in the second for what is below
  pub wrong_below : (e : Chars) (a : Content) (items : Items) → content_in first e ≡ Some a → IsForest first items → Runs a 0 (child_names items)
      → (EachBelow (Meets second) items → ⊥) → OfSeparating cap first second e (cut cap (1 + elements_in items))
  wrong_below e a items d f r w =
      let h = each_has_right first e a kf d in
      let t = topped first e a items h.0 None kf d h.1 f r in
      (node_with e h.0 None items, (t.document, t.valid, λ k. w k.1.1), refl)

  -- one that is wrong in the second for its names
  pub wrong_names : (e : Chars) (a b : Content) (items : Items) → content_in first e ≡ Some a → content_in second e ≡ Some b → IsForest first items
      → Runs a 0 (child_names items) → (Runs b 0 (child_names items) → ⊥) → OfSeparating cap first second e (cut cap (1 + elements_in items))
  wrong_names e a b items d s f r w =
      let h = each_has_right first e a kf d in
      let t = topped first e a items h.0 None kf d h.1 f r in (
        node_with e h.0 None items,
        (
          t.document,
          t.valid,
          λ k.
              let m = met second e h.0 items k.1.0 in
              let q : Some m.content ≡ Some b = sym m.declared ∙ s in
              let same : m.content ≡ b = cc in
              w (subst (λ x. Runs x 0 (child_names items)) same (runs-of m.content (child_names items) m.derived)),
        ),
        refl,
      )

  -- one that is wrong in the second for what is beside
  wrong_beside : (e : Chars) (a : Content) (items : Items) (atts : List Attribute) (front : Front) → content_in first e ≡ Some a → IsForest first items
      → Runs a 0 (child_names items) → IsRight first e atts front → IsWrong second e atts front → OfSeparating cap first second e (cut cap (1 + elements_in items))
  wrong_beside e a items atts front d f r h w =
      let t = topped first e a items atts front kf d h f r in (
        node_with e atts front items,
        (t.document, t.valid, λ k. w items f.alone (met second e atts (put front items) k.1.0).suits),
        ap (λ n. cut cap (1 + n)) (sym (put_size front items)),
      )

  pub wrong_odd : (ks : IsKept second) (e : Chars) (a : Content) (items : Items) → content_in first e ≡ Some a → IsForest first items
      → Runs a 0 (child_names items) → IsTrue (is_some (odd_in first second e)) → OfSeparating cap first second e (cut cap (1 + elements_in items))
  wrong_odd ks e a items d f r o = by (odd_in first second e) (element_tells first second e kf ks) o
    where
      by : (x : Option Odd) → TellsOdd first second e x → IsTrue (is_some x) → OfSeparating cap first second e (cut cap (1 + elements_in items))
      by None t o = absurd (true≢false (sym o))
      by (Some x) t o = wrong_beside e a items t.0 t.1 d f r t.2 t.3

  -- ---- forests from the documents of their names

  module _ (m v : Chars → Cost) (own : (e : Chars) → (m e ≡ Inf) ⊎ OfDocument cap first e (m e))
      (wrong : (e : Chars) → (v e ≡ Inf) ⊎ OfSeparating cap first second e (v e)) where
    -- a forest of these names that is as large as their costs together
    abbrev pub Grown : List Chars → Cost → Type 0
    Grown names c = (items : Items) × IsForest first items × (child_names items ≡ names) × (c ≡ cut cap (elements_in items))

    abbrev pub WrongGrown : List Chars → Cost → Type 0
    WrongGrown names c = (items : Items) × IsForest first items × (child_names items ≡ names) × (c ≡ cut cap (elements_in items)) × HasWrong second items

    with_node : (node : Node) (name : Chars) (names : List Chars) (items : Items) → IsDocument node → IsValid first name node → IsForest first items
        → child_names items ≡ names
        → IsForest first (element node.name node.atts node.items items) × (node.name ∷ child_names items ≡ name ∷ names)
    with_node node name names items d n f q = (
      record { alone = f.alone; made = (d.0, d.1, f.made); met = (n.1.0, n.1.1, f.met) },
      ap (λ x. x ∷ child_names items) n.0 ∙ ap (λ x. name ∷ x) q,
    )

    sizes : (c d : Cost) (n k : ℕ) → c ≡ cut cap n → d ≡ cut cap k → sum cap c d ≡ cut cap (n + k)
    sizes c d n k p q = ap (λ x. sum cap x d) p ∙ ap (sum cap (cut cap n)) q ∙ sum-cut cap n k

    pub grown : (names : List Chars) → (total cap m names ≡ Inf) ⊎ Grown names (total cap m names)
    grown [] = inr (nothing, record { alone = refl; made = tt; met = tt }, refl, cut-zero cap)
    grown (name ∷ names) = by (own name) (grown names)
      where
        by : (m name ≡ Inf) ⊎ OfDocument cap first name (m name) → (total cap m names ≡ Inf) ⊎ Grown names (total cap m names)
            → (sum cap (m name) (total cap m names) ≡ Inf) ⊎ Grown (name ∷ names) (sum cap (m name) (total cap m names))
        by (inl q) g = inl (ap (λ x. sum cap x (total cap m names)) q)
        by (inr t) (inl q) = inl (ap (sum cap (m name)) q ∙ sum-inf cap (m name))
        by (inr t) (inr g) =
            let w = with_node t.0 name names g.0 t.1 t.2 g.1 g.2 in
            inr (element (t.0).name (t.0).atts (t.0).items g.0, w.0, w.1, sizes (m name) (total cap m names) (size t.0) (elements_in g.0) t.3 g.3)

    pub wrong_grown : (before : List Chars) (name : Chars) (after : List Chars)
        → (total_with cap m v before name after ≡ Inf) ⊎ WrongGrown (before ++ name ∷ after) (total_with cap m v before name after)
    wrong_grown [] name after = by (wrong name) (grown after)
      where
        by : (v name ≡ Inf) ⊎ OfSeparating cap first second name (v name) → (total cap m after ≡ Inf) ⊎ Grown after (total cap m after)
            → (sum cap (v name) (total cap m after) ≡ Inf) ⊎ WrongGrown (name ∷ after) (sum cap (v name) (total cap m after))
        by (inl q) g = inl (ap (λ x. sum cap x (total cap m after)) q)
        by (inr t) (inl q) = inl (ap (sum cap (v name)) q ∙ sum-inf cap (v name))
        by (inr t) (inr g) =
            let w = with_node t.0 name after g.0 t.1.0 t.1.1 g.1 g.2 in
            inr (
              element (t.0).name (t.0).atts (t.0).items g.0,
              w.0,
              w.1,
              sizes (v name) (total cap m after) (size t.0) (elements_in g.0) t.2 g.3,
              inl (λ x y. t.1.2 (t.1.1.0, (x, y))),
            )
    wrong_grown (x ∷ before) name after = by (own x) (wrong_grown before name after)
      where
        by : (m x ≡ Inf) ⊎ OfDocument cap first x (m x)
            → (total_with cap m v before name after ≡ Inf) ⊎ WrongGrown (before ++ name ∷ after) (total_with cap m v before name after)
            → (sum cap (m x) (total_with cap m v before name after) ≡ Inf) ⊎ WrongGrown (x ∷ (before ++ name ∷ after)) (sum cap (m x) (total_with cap m v before name after))
        by (inl q) g = inl (ap (λ y. sum cap y (total_with cap m v before name after)) q)
        by (inr t) (inl q) = inl (ap (sum cap (m x)) q ∙ sum-inf cap (m x))
        by (inr t) (inr g) =
            let w = with_node t.0 x (before ++ name ∷ after) g.0 t.1 t.2 g.1 g.2 in
            inr (
              element (t.0).name (t.0).atts (t.0).items g.0,
              w.0,
              w.1,
              sizes (m x) (total_with cap m v before name after) (size t.0) (elements_in g.0) t.3 g.3,
              inr g.4,
            )

-- a forest with a wrong element is wrong
pub wrong-each : (set : Declarations) (items : Items) → HasWrong set items → EachBelow (Meets set) items → ⊥
wrong-each set nothing w h = w
wrong-each set (element name atts inside later) (inl w) h = w h.0 h.1
wrong-each set (element name atts inside later) (inr w) h = wrong-each set later w h.2
wrong-each set (chars text plain later) w h = wrong-each set later w h
wrong-each set (comment text later) w h = wrong-each set later w h
wrong-each set (pi target body later) w h = wrong-each set later w h
