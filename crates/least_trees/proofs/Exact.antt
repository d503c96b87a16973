-- The lowest costs of the spots are the exact ones of the graph.
use Rattle.std.proofs.Common.{◌≡◌, ◌≤◌, ◌<◌, ◌+◌, ◌⊎◌, ◌==◌, ◌&&◌, ℕ, zero, suc, List, [], ◌∷◌, length, min, Bool, true, false, cond, Some, IsTrue, Contains, inl, inr, refl, sym, ap, ◌∙◌, subst, arith, true≢false, nat_lt, if◌then◌else◌}
use Rattle.std.proofs.lemmas.Bool.{cases_eq, cases_lt, ltb-true, lt-ltb}
use Rattle.tree_costs.specs.declared.cost.Cost.{Cost}
use Rattle.tree_costs.specs.declared.cost.Cost.TheVariants.{Fin, Inf}
use Rattle.tree_costs.specs.Costs.{Bounds, AtMost, IsSmall, IsLeast, cut, sum, total}
use Rattle.tree_costs.specs.Graphs.{Graph, Forest, bare, tree, Grows, weights, OfTree, Path, OfPath, IsSolved}
use Rattle.tree_costs.specs.Numbered.{Numbers, graph_of}
use Rattle.tree_costs.proofs.Costs.{at_most-refl, at_most-inf, at_most-trans, at_most-antisym, bounds-below, bounds-step, sum-inf, sum-cut, cut-zero, below-cut, attained-is, total-is, sum-mono, zero-least}
use Rattle.least_trees.specs.declared.rules.Rule.{Rule}
use Rattle.least_trees.specs.Plans.{Plan, IsState, IsOn, IsWithin, IsPlan}
use Rattle.least_trees.specs.Rules.{at, sum_of, Member}
use Rattle.least_trees.specs.Solving.{Built, start, by, root, value, IsBuilt, OfSpot, IsLowest}
use Rattle.least_trees.specs.Spots.{base, all_starts, all_rules, top_rule, start_of}
use Rattle.least_trees.specs.Rows.{m_in, p_in}
use Rattle.least_trees.proofs.Origins.{IsTop, IsOfStep, origin, has-top, has-step, at-weight, at-top, at-state, one-spot, below-mono}
use Rattle.least_trees.proofs.Turn.{sum-le}

by-test : (b : Bool) → (b ≡ true) ⊎ (b ≡ false)
by-test true = inl refl
by-test false = inr refl

weight-cut : (cap w k : ℕ) → sum cap (Fin w) (cut cap k) ≡ cut cap (w + k)
weight-cut cap w k = let e : min (w + min k (cap + 1)) (cap + 1) ≡ min (w + k) (cap + 1) = omega arith in ap Fin e

module _ (plan : Plan) (costs : List Cost) (P : IsPlan plan) (L : IsLowest plan.numbers.cap (all_rules plan) (all_starts plan) costs) where
  abbrev cap : ℕ
  cap = plan.numbers.cap

  abbrev G : Graph ℕ ℕ
  G = graph_of plan.numbers

  abbrev val : Built → Cost
  val t = value cap (all_starts plan) t

  abbrev mm : ℕ → Cost
  mm e = at costs (plan.count + e)

  abbrev pp : ℕ → ℕ → Cost
  pp e i = at costs (base plan e + i)

  -- ---- what the rules build is of the graph

  -- a forest from a state, and a path whose sum is no more
  OfState : ℕ → ℕ → Cost → Type 0
  OfState e i c = (c ≡ Inf) ⊎ ((f : Forest ℕ) × Grows G e i f × (c ≡ cut cap (weights G f)))

  Along : ℕ → ℕ → Cost → Type 0
  Along e i c = (c ≡ Inf) ⊎ ((ys : List ℕ) × Path G e i ys × AtMost (total cap mm ys) c)

  OfTop : ℕ → Cost → Type 0
  OfTop e c = (c ≡ Inf) ⊎ ((f : Forest ℕ) × Grows G e 0 f × (c ≡ cut cap (plan.numbers.weight e + weights G f)))

  record Says (t : Built) : Type 0 where
    states : (e i : ℕ) → e < plan.count → i < plan.states e → root t ≡ base plan e + i → OfState e i (val t) × Along e i (val t)
    tops : (e : ℕ) → e < plan.count → root t ≡ plan.count + e → OfTop e (val t)
    lights : (e : ℕ) → e < plan.count → root t ≡ e → val t ≡ Fin (plan.numbers.weight e)

  ends : (e i : ℕ) (b : Bool) → plan.numbers.accepts e i ≡ b → OfState e i (cond b (Fin 0) Inf) × Along e i (cond b (Fin 0) Inf)
  unfolding OfState Along
  ends e i true q = (inr (bare, q, cut-zero cap), inr ([], q, at_most-refl (Fin 0)))
  ends e i false q = (inl refl, inl refl)

  says-start : (y : ℕ) → Says (start y)
  unfolding OfTop
  says-start y = record {
    states = λ e i h g q. subst (λ c. OfState e i c × Along e i c) (sym (ap (at (all_starts plan)) q ∙ at-state plan e i h g)) (ends e i (plan.numbers.accepts e i) refl);
    tops = λ e h q. inl (ap (at (all_starts plan)) q ∙ at-top plan e h);
    lights = λ e h q. ap (at (all_starts plan)) q ∙ at-weight plan e h;
  }

  -- a step to what is built
  step-state : (e i x j : ℕ) (c d : Cost) → G.step e i x j → OfTop x c → OfState e j d → OfState e i (sum cap c d)
  unfolding OfTop OfState
  step-state e i x j c d s (inl q) o = inl (ap (λ k. sum cap k d) q)
  step-state e i x j c d s (inr t) (inl q) = inl (ap (sum cap c) q ∙ sum-inf cap c)
  step-state e i x j c d s (inr t) (inr o) = inr (
    tree x t.0 o.0,
    (j, s, t.1, o.1),
    ap (λ k. sum cap k d) t.2 ∙ ap (sum cap (cut cap (plan.numbers.weight x + weights G t.0))) o.2
        ∙ sum-cut cap (plan.numbers.weight x + weights G t.0) (weights G o.0),
  )

  step-along : (e i x j : ℕ) (c d : Cost) → G.step e i x j → AtMost (mm x) c → Along e j d → Along e i (sum cap c d)
  unfolding Along
  step-along e i x j c d s h (inl q) = inl (ap (sum cap c) q ∙ sum-inf cap c)
  step-along e i x j c d s h (inr a) = inr (x ∷ a.0, (j, s, a.1), sum-le cap (mm x) (total cap mm a.0) c d h a.2)

  step-top : (e : ℕ) (d : Cost) → OfState e 0 d → OfTop e (sum cap (Fin (plan.numbers.weight e)) d)
  unfolding OfTop OfState
  step-top e d (inl q) = inl (ap (sum cap (Fin (plan.numbers.weight e))) q)
  step-top e d (inr o) = inr (o.0, o.1, ap (sum cap (Fin (plan.numbers.weight e))) o.2 ∙ weight-cut cap (plan.numbers.weight e) (weights G o.0))

  -- the rule of an element
  by-top : (r : Rule) (a b : Built) → (t : IsTop plan r) → root a ≡ r.left → root b ≡ r.right → Says a → Says b → Says (by r a b)
  by-top r a b t l q A B = record {
    states = λ e i h g s.
        let u : r.target ≡ plan.count + t.e = ap (λ z. z.target) t.is in
        let w = t.within in
        absurd (omega (arith, u, s, w));
    tops = λ e h s.
        let u : r.target ≡ plan.count + t.e = ap (λ z. z.target) t.is in
        let same : t.e ≡ e = omega (arith, u, s) in
        let left : root a ≡ t.e = l ∙ ap (λ z. z.left) t.is in
        let right : root b ≡ base plan t.e + 0 = q ∙ ap (λ z. z.right) t.is ∙ plus0 (base plan t.e) in
        subst (λ k. OfTop k (sum cap (val a) (val b))) same
        (subst (λ c. OfTop t.e (sum cap c (val b))) (sym (A.lights t.e t.within left))
        (step-top t.e (val b) ((B.states t.e 0 t.within (P.starts t.e t.within) right).0)));
    lights = λ e h s.
        let u : r.target ≡ plan.count + t.e = ap (λ z. z.target) t.is in
        absurd (omega (arith, u, s, h));
  }
    where
      plus0 : (n : ℕ) → n ≡ n + 0
      plus0 n = omega arith

  -- the rule of a step
  by-step : (r : Rule) (a b : Built) → (t : IsOfStep plan r) → root a ≡ r.left → root b ≡ r.right → IsBuilt (all_rules plan) a → Says a → Says b → Says (by r a b)
  by-step r a b t l q k A B = record {
    states = λ e i h g s.
        let u : r.target ≡ base plan t.e + t.i = ap (λ z. z.target) t.is in
        let o = one-spot plan t.e t.i e i t.state g (sym u ∙ s) in
        let left : root a ≡ plan.count + t.x = l ∙ ap (λ z. z.left) t.is in
        let right : root b ≡ base plan t.e + t.j = q ∙ ap (λ z. z.right) t.is in
        let w = P.within t.e t.i (Some t.x, t.j) t.step in
        let T = A.tops t.x w.1 left in
        let S = B.states t.e t.j t.element w.0 right in
        let low : AtMost (mm t.x) (val a) = subst (λ z. AtMost (at costs z) (val a)) left (L.least a k) in
        subst (λ z. OfState z i (sum cap (val a) (val b)) × Along z i (sum cap (val a) (val b))) o.0
        (subst (λ z. OfState t.e z (sum cap (val a) (val b)) × Along t.e z (sum cap (val a) (val b))) o.1
        (step-state t.e t.i t.x t.j (val a) (val b) t.step T S.0, step-along t.e t.i t.x t.j (val a) (val b) t.step low S.1));
    tops = λ e h s.
        let u : r.target ≡ base plan t.e + t.i = ap (λ z. z.target) t.is in
        absurd (omega (arith, u, s, h));
    lights = λ e h s.
        let u : r.target ≡ base plan t.e + t.i = ap (λ z. z.target) t.is in
        absurd (omega (arith, u, s, h));
  }

  says-by : (r : Rule) (a b : Built) → IsTop plan r ⊎ IsOfStep plan r → root a ≡ r.left → root b ≡ r.right → IsBuilt (all_rules plan) a → Says a → Says b → Says (by r a b)
  says-by r a b (inl t) l q k A B = by-top r a b t l q A B
  says-by r a b (inr t) l q k A B = by-step r a b t l q k A B

  says : (t : Built) → IsBuilt (all_rules plan) t → Says t
  says (start y) h = says-start y
  says (by r a b) h = says-by r a b (origin plan plan.count r (omega arith) h.0) h.1 h.2 h.3 (says a h.3) (says b h.4)

  -- ---- no cost of the graph is lower

  ends-low : (e i : ℕ) → e < plan.count → i < plan.states e → plan.numbers.accepts e i ≡ true → AtMost (pp e i) (Fin 0)
  ends-low e i h g q =
      subst (AtMost (pp e i)) (at-state plan e i h g ∙ ap (λ b. cond b (Fin 0) Inf) q) (L.below_start (base plan e + i))

  top-low : (e : ℕ) → e < plan.count → AtMost (mm e) (sum cap (Fin (plan.numbers.weight e)) (pp e 0))
  top-low e h =
      let r = L.closed (top_rule plan e) (has-top plan e h) in
      let w : AtMost (at costs e) (Fin (plan.numbers.weight e)) = subst (AtMost (at costs e)) (at-weight plan e h) (L.below_start e) in
      let z : base plan e ≡ base plan e + 0 = omega arith in
      at_most-trans (mm e) (sum cap (at costs e) (at costs (base plan e))) (sum cap (Fin (plan.numbers.weight e)) (pp e 0)) r
      (sum-le cap (at costs e) (at costs (base plan e)) (Fin (plan.numbers.weight e)) (pp e 0) w
      (subst (λ k. AtMost (at costs (base plan e)) (at costs k)) z (at_most-refl (at costs (base plan e)))))

  step-low : (e i x j : ℕ) → G.step e i x j → AtMost (pp e i) (sum cap (mm x) (pp e j))
  step-low e i x j s = go (plan.numbers.accepts e i) refl
    where
      at-state-of : IsState plan e i
      at-state-of = P.stepping e i (Some x, j) s

      go : (b : Bool) → plan.numbers.accepts e i ≡ b → AtMost (pp e i) (sum cap (mm x) (pp e j))
      go true q = at_most-trans (pp e i) (Fin 0) (sum cap (mm x) (pp e j)) (ends-low e i at-state-of.0 at-state-of.1 q) (zero-least (sum cap (mm x) (pp e j)))
      go false q = L.closed (record { target = base plan e + i; left = plan.count + x; right = base plan e + j }) (has-step plan e i x j at-state-of.0 at-state-of.1 q s)

  forest-low : (f : Forest ℕ) (e i : ℕ) → Grows G e i f → Bounds (pp e i) (weights G f)
  forest-low bare e i h =
      let s = P.accepting e i h in
      bounds-below (pp e i) (Fin 0) 0 (ends-low e i s.0 s.1 h) (omega arith)
  forest-low (tree x inside later) e i h =
      let w = P.within e i (Some x, h.0) h.1 in
      bounds-step cap (pp e i) (mm x) (pp e h.0) (plan.numbers.weight x + weights G inside) (weights G later) (step-low e i x h.0 h.1)
      (bounds-step cap (mm x) (Fin (plan.numbers.weight x)) (pp x 0) (plan.numbers.weight x) (weights G inside) (top-low x w.1) (omega arith) (forest-low inside x 0 h.2))
      (forest-low later e h.0 h.3)

  path-low : (ys : List ℕ) (e i : ℕ) → Path G e i ys → AtMost (pp e i) (total cap mm ys)
  path-low [] e i h = let s = P.accepting e i h in ends-low e i s.0 s.1 h
  path-low (y ∷ ys) e i h =
      at_most-trans (pp e i) (sum cap (mm y) (pp e h.0)) (sum cap (mm y) (total cap mm ys)) (step-low e i y h.0 h.1)
      (sum-mono cap (mm y) (pp e h.0) (total cap mm ys) (path-low ys e h.0 h.2))

  -- ---- exact

  top-attained : (e : ℕ) → e < plan.count → (mm e ≡ Inf) ⊎ OfTree G e (mm e)
  unfolding OfTop
  top-attained e h =
      let a = L.attained (plan.count + e) in
      subst (λ c. (c ≡ Inf) ⊎ OfTree G e c) (sym a.3) ((says a.0 a.2).tops e h a.1)

  trees-least : (e : ℕ) → e < plan.count → IsLeast (OfTree G e) (mm e)
  trees-least e h = (
    (λ d o. subst (AtMost (mm e)) (sym o.2)
        (below-cut cap (mm e) (plan.numbers.weight e + weights G o.0)
        (attained-is cap (mm e) (elim (top-attained e h) [ inl q ↦ inl q | inr t ↦ inr (plan.numbers.weight e + weights G t.0, t.2) ]))
        (bounds-step cap (mm e) (Fin (plan.numbers.weight e)) (pp e 0) (plan.numbers.weight e) (weights G o.0) (top-low e h) (omega arith) (forest-low o.0 e 0 o.1)))),
    top-attained e h,
  )

  path-of : (e i : ℕ) → Along e i (pp e i) → (pp e i ≡ Inf) ⊎ OfPath G mm e i (pp e i)
  unfolding Along
  path-of e i (inl q) = inl q
  path-of e i (inr a) = inr (a.0, a.1, at_most-antisym (pp e i) (total cap mm a.0) (path-low a.0 e i a.1) a.2)

  paths-least : (e i : ℕ) → e < plan.count → i < plan.states e → IsLeast (OfPath G mm e i) (pp e i)
  paths-least e i h g =
      let a = L.attained (base plan e + i) in (
        (λ d o. subst (AtMost (pp e i)) (sym o.2) (path-low o.0 e i o.1)),
        path-of e i (subst (Along e i) (sym a.3) (((says a.0 a.2).states e i h g a.1).1)),
      )

  -- ---- what is no element or state

  no-tree : (x : ℕ) (c : Cost) → (x < plan.count → ⊥) → OfTree G x c → ⊥
  no-tree x c n (bare, h, q) = n ((P.accepting x 0 h).0)
  no-tree x c n (tree y inside later, h, q) = n ((P.stepping x 0 (Some y, h.0) h.1).0)

  no-path : (m : ℕ → Cost) (x s : ℕ) (c : Cost) → (IsState plan x s → ⊥) → OfPath G m x s c → ⊥
  no-path m x s c n ([], h, q) = n (P.accepting x s h)
  no-path m x s c n (y ∷ ys, h, q) = n (P.stepping x s (Some y, h.0) h.1)

  none-least : (K : Cost → Type 0) → ((c : Cost) → K c → ⊥) → IsLeast K Inf
  none-least K n = ((λ d k. absurd (n d k)), inl refl)

  abbrev m : ℕ → Cost
  m e = m_in plan costs e

  abbrev p : ℕ → ℕ → Cost
  p e i = p_in plan costs e i

  m-is : (e : ℕ) → e < plan.count → m e ≡ mm e
  m-is e h = ap (λ b. cond b (mm e) Inf) (lt-ltb e plan.count h)

  total-same : (ys : List ℕ) (e i : ℕ) → Path G e i ys → total cap m ys ≡ total cap mm ys
  total-same [] e i h = refl
  total-same (y ∷ ys) e i h =
      ap (λ z. sum cap z (total cap m ys)) (m-is y ((P.within e i (Some y, h.0) h.1).1)) ∙ ap (sum cap (mm y)) (total-same ys e h.0 h.2)

  trees-by : (x : ℕ) (b : Bool) → nat_lt x plan.count ≡ b → IsLeast (OfTree G x) (cond b (mm x) Inf)
  trees-by x true q = trees-least x (ltb-true x plan.count q)
  trees-by x false q = none-least (OfTree G x) (λ c t. no-tree x c (λ h. true≢false (sym (lt-ltb x plan.count h) ∙ q)) t)

  path-to : (e i : ℕ) (c : Cost) → OfPath G mm e i c → OfPath G m e i c
  path-to e i c t = (t.0, t.1, t.2 ∙ sym (total-same t.0 e i t.1))

  path-back : (e i : ℕ) (c : Cost) → OfPath G m e i c → OfPath G mm e i c
  path-back e i c t = (t.0, t.1, t.2 ∙ total-same t.0 e i t.1)

  paths-in : (e i : ℕ) → e < plan.count → i < plan.states e → IsLeast (OfPath G m e i) (pp e i)
  paths-in e i h g =
      let a = paths-least e i h g in
      ((λ d t. a.0 d (path-back e i d t)), elim a.1 [ inl q ↦ inl q | inr t ↦ inr (path-to e i (pp e i) t) ])

  paths-by : (x s : ℕ) (b d : Bool) → nat_lt x plan.count ≡ b → nat_lt s (plan.states x) ≡ d → IsLeast (OfPath G m x s) (cond (b && d) (pp x s) Inf)
  paths-by x s true true q r = paths-in x s (ltb-true x plan.count q) (ltb-true s (plan.states x) r)
  paths-by x s true false q r = none-least (OfPath G m x s) (λ c t. no-path m x s c (λ h. true≢false (sym (lt-ltb s (plan.states x) h.1) ∙ r)) t)
  paths-by x s false d q r = none-least (OfPath G m x s) (λ c t. no-path m x s c (λ h. true≢false (sym (lt-ltb x plan.count h.0) ∙ q)) t)

  pub exact : IsSolved G m p
  exact = record {
    trees = λ x. trees-by x (nat_lt x plan.count) refl;
    paths = λ x s. paths-by x s (nat_lt x plan.count) (nat_lt s (plan.states x)) refl refl;
  }
