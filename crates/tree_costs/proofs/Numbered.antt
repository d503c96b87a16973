-- The least costs of a numbered graph are those of the graph that it stands for.
use Rattle.std.proofs.Common.{◌≡◌, List, [], ◌∷◌, map, ◌+◌, ◌⊎◌, inl, inr, refl, sym, ap, ◌∙◌, subst}
use Rattle.tree_costs.specs.declared.cost.Cost.{Cost}
use Rattle.tree_costs.specs.declared.cost.Cost.TheVariants.{Inf}
use Rattle.tree_costs.specs.Costs.{AtMost, cut, sum, total, IsLeast}
use Rattle.tree_costs.specs.Graphs.{Graph, Forest, bare, tree, Grows, weights, OfTree, Path, OfPath, IsSolved}
use Rattle.tree_costs.specs.Numbered.{StandsFor, AreCarried}
use Rattle.tree_costs.proofs.Costs.{at_most-inf, sum-inf}

-- families that have the same costs but for Inf have one least cost
pub same_least : (L M : Cost → Type 0) (c : Cost) → ((d : Cost) → L d → M d) → ((d : Cost) → M d → L d ⊎ (d ≡ Inf)) → IsLeast L c → IsLeast M c
same_least L M c to from h = (
  (λ d k. elim (from d k) [ inl l ↦ h.0 d l | inr q ↦ subst (AtMost c) (sym q) (at_most-inf c) ]),
  elim h.1 [ inl q ↦ inl q | inr l ↦ inr (to c l) ],
)

pub none_least : (L : Cost → Type 0) → ((d : Cost) → L d → ⊥) → IsLeast L Inf
none_least L n = ((λ d l. absurd (n d l)), inl refl)

module _ {E S F T : Type 0} (N : Graph E S) (G : Graph F T) (label : E → F) (state : E → S → T) (R : StandsFor N G label state) where
  relabel : Forest E → Forest F
  relabel bare = bare
  relabel (tree y inside later) = tree (label y) (relabel inside) (relabel later)

  relabel-weights : (f : Forest E) → weights G (relabel f) ≡ weights N f
  unfolding relabel
  relabel-weights bare = refl
  relabel-weights (tree y inside later) =
      ap (λ k. k + weights G (relabel inside) + weights G (relabel later)) (sym (R.weight y))
      ∙ ap (λ k. N.weight y + k + weights G (relabel later)) (relabel-weights inside) ∙ ap (λ k. N.weight y + weights N inside + k) (relabel-weights later)

  relabel-grows : (f : Forest E) (x : E) (s : S) → Grows N x s f → Grows G (label x) (state x s) (relabel f)
  unfolding relabel
  relabel-grows bare x s h = (R.ends x s).0 h
  relabel-grows (tree y inside later) x s h = (
    state x h.0,
    R.steps x s y h.0 h.1,
    subst (λ w. Grows G (label y) w (relabel inside)) (R.start y) (relabel-grows inside y (N.start y) h.2),
    relabel-grows later x h.0 h.3,
  )

  back : (f : Forest F) (x : E) (s : S) → Grows G (label x) (state x s) f → (k : Forest E) × Grows N x s k × (weights N k ≡ weights G f)
  back bare x s h = (bare, (R.ends x s).1 h, refl)
  back (tree v inside later) x s h = elim (R.back x s v h.0 h.1) [
    | inl t ↦
        let g = subst (λ w. Grows G (label t.0) w inside) (sym (R.start t.0)) (subst (λ u. Grows G u (G.start u) inside) (sym t.3) h.2) in
        let a = back inside t.0 (N.start t.0) g in
        let b = back later x t.1 (subst (λ w. Grows G (label x) w later) (sym t.4) h.3) in (
          tree t.0 a.0 b.0,
          (t.1, t.2, a.1, b.1),
          ap (λ k. k + weights N a.0 + weights N b.0) (R.weight t.0 ∙ ap G.weight t.3)
              ∙ ap (λ k. G.weight v + k + weights N b.0) a.2 ∙ ap (λ k. G.weight v + weights G inside + k) b.2,
        )
    | inr n ↦ absurd (n inside h.2)
  ]

  pub tree-to : (x : E) (c : Cost) → OfTree N x c → OfTree G (label x) c
  tree-to x c t = (
    relabel t.0,
    subst (λ w. Grows G (label x) w (relabel t.0)) (R.start x) (relabel-grows t.0 x (N.start x) t.1),
    t.2 ∙ ap (λ k. cut k (N.weight x + weights N t.0)) R.cap ∙ ap (λ k. cut G.cap (k + weights N t.0)) (R.weight x)
        ∙ ap (λ k. cut G.cap (G.weight (label x) + k)) (sym (relabel-weights t.0)),
  )

  tree-from : (x : E) (c : Cost) → OfTree G (label x) c → OfTree N x c
  tree-from x c t =
      let b = back t.0 x (N.start x) (subst (λ w. Grows G (label x) w t.0) (sym (R.start x)) t.1) in (
        b.0,
        b.1,
        t.2 ∙ ap (λ k. cut G.cap (k + weights G t.0)) (sym (R.weight x)) ∙ ap (λ k. cut k (N.weight x + weights G t.0)) (sym R.cap)
            ∙ ap (λ k. cut N.cap (N.weight x + k)) (sym b.2),
      )

  pub path-to : (ys : List E) (x : E) (s : S) → Path N x s ys → Path G (label x) (state x s) (map label ys)
  path-to [] x s h = (R.ends x s).0 h
  path-to (y ∷ ys) x s h = (state x h.0, R.steps x s y h.0 h.1, path-to ys x h.0 h.2)

  module _ (m : E → Cost) (p : E → S → Cost) (c : F → Cost) (d : F → T → Cost) (K : AreCarried G label state m p c d) where
    total-to : (ys : List E) → total G.cap c (map label ys) ≡ total N.cap m ys
    total-to [] = refl
    total-to (y ∷ ys) =
        ap (λ k. sum G.cap k (total G.cap c (map label ys))) (K.elements y) ∙ ap (sum G.cap (m y)) (total-to ys) ∙ ap (λ k. sum k (m y) (total N.cap m ys)) (sym R.cap)

    path-from : (vs : List F) (x : E) (s : S) → Path G (label x) (state x s) vs
        → ((ys : List E) × Path N x s ys × (total G.cap c vs ≡ total N.cap m ys)) ⊎ (total G.cap c vs ≡ Inf)
    path-from [] x s h = inl ([], (R.ends x s).1 h, refl)
    path-from (v ∷ vs) x s h = elim (R.back x s v h.0 h.1) [
      | inl t ↦ elim (path-from vs x t.1 (subst (λ w. Path G (label x) w vs) (sym t.4) h.2)) [
        | inl a ↦ inl (
          t.0 ∷ a.0,
          (t.1, t.2, a.1),
          ap (λ k. sum G.cap k (total G.cap c vs)) (ap c (sym t.3) ∙ K.elements t.0) ∙ ap (sum G.cap (m t.0)) a.2 ∙ ap (λ k. sum k (m t.0) (total N.cap m a.0)) (sym R.cap),
        )
        | inr q ↦ inr (ap (sum G.cap (c v)) q ∙ sum-inf G.cap (c v))
      ]
      | inr n ↦ inr (ap (λ k. sum G.cap k (total G.cap c vs)) (K.dead v n))
    ]

    pub solved : IsSolved N m p → IsSolved G c d
    solved X = record { trees = trees; paths = paths }
      where
        trees : (v : F) → IsLeast (OfTree G v) (c v)
        trees v = elim (R.elements v) [
          | inl t ↦ subst (λ u. IsLeast (OfTree G u) (c u)) t.1
              (subst (IsLeast (OfTree G (label t.0))) (sym (K.elements t.0))
              (same_least (OfTree N t.0) (OfTree G (label t.0)) (m t.0) (tree-to t.0) (λ k a. inl (tree-from t.0 k a)) (X.trees t.0)))
          | inr n ↦ subst (IsLeast (OfTree G v)) (sym (K.dead v n)) (none_least (OfTree G v) (λ k a. n a.0 a.1))
        ]

        paths : (v : F) (w : T) → IsLeast (OfPath G c v w) (d v w)
        paths v w = elim (R.states v w) [
          | inl t ↦ subst (λ u. IsLeast (OfPath G c u w) (d u w)) t.2
              (subst (λ z. IsLeast (OfPath G c (label t.0) z) (d (label t.0) z)) t.3
              (subst (IsLeast (OfPath G c (label t.0) (state t.0 t.1))) (sym (K.states t.0 t.1))
              (same_least (OfPath N m t.0 t.1) (OfPath G c (label t.0) (state t.0 t.1)) (p t.0 t.1)
              (λ k a. (map label a.0, path-to a.0 t.0 t.1 a.1, a.2 ∙ sym (total-to a.0)))
              (λ k a. elim (path-from a.0 t.0 t.1 a.1) [ inl b ↦ inl (b.0, b.1, a.2 ∙ b.2) | inr q ↦ inr (a.2 ∙ q) ])
              (X.paths t.0 t.1))))
          | inr n ↦ subst (IsLeast (OfPath G c v w)) (sym (K.stuck v w n)) (none_least (OfPath G c v w) (λ k a. n a.0 a.1))
        ]
