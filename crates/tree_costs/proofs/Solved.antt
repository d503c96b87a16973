-- Least costs of a graph meet every inequality of it.
use Rattle.std.proofs.Common.{◌≡◌, List, [], ◌∷◌, ℕ, ◌+◌, min, ◌⊎◌, inl, inr, refl, ap, ◌∙◌, arith}
use Rattle.tree_costs.specs.declared.cost.Cost.{Cost}
use Rattle.tree_costs.specs.declared.cost.Cost.TheVariants.{Fin, Inf}
use Rattle.tree_costs.specs.Costs.{AtMost, cut, sum, total}
use Rattle.tree_costs.specs.Graphs.{Graph, Forest, bare, tree, Grows, weights, OfTree, Path, OfPath, IsSolved}
use Rattle.tree_costs.proofs.Costs.{least-below, sum-inf, sum-cut, cut-zero}

-- no cost can be lowered any more
pub record IsClosed {E S : Type 0} (G : Graph E S) (m : E → Cost) (p : E → S → Cost) : Type 0 where
  pub ends : (x : E) (s : S) → G.accepts x s → AtMost (p x s) (Fin 0)
  pub steps : (x : E) (s : S) (y : E) (t : S) → G.step x s y t → AtMost (p x s) (sum G.cap (m y) (p x t))
  pub tops : (x : E) → AtMost (m x) (sum G.cap (Fin (G.weight x)) (p x (G.start x)))

weight-cut : (cap w k : ℕ) → sum cap (Fin w) (cut cap k) ≡ cut cap (w + k)
weight-cut cap w k = let e : min (w + min k (cap + 1)) (cap + 1) ≡ min (w + k) (cap + 1) = omega arith in ap Fin e

module _ {E S : Type 0} (G : Graph E S) (m : E → Cost) (p : E → S → Cost) (X : IsSolved G m p) where
  -- trees along a path, as heavy as its sum
  Along : E → S → Cost → Type 0
  Along x s c = (f : Forest E) × Grows G x s f × (c ≡ cut G.cap (weights G f))

  sums : (c d : Cost) (n k : ℕ) → c ≡ cut G.cap n → d ≡ cut G.cap k → sum G.cap c d ≡ cut G.cap (n + k)
  sums c d n k h g = ap (λ x. sum G.cap x d) h ∙ ap (sum G.cap (cut G.cap n)) g ∙ sum-cut G.cap n k

  along : (ys : List E) (x : E) (s : S) → Path G x s ys → (total G.cap m ys ≡ Inf) ⊎ Along x s (total G.cap m ys)
  unfolding Along
  along [] x s h = inr (bare, h, cut-zero G.cap)
  along (y ∷ ys) x s h = by (X.trees y).1 (along ys x h.0 h.2)
    where
      by : (m y ≡ Inf) ⊎ OfTree G y (m y) → (total G.cap m ys ≡ Inf) ⊎ Along x h.0 (total G.cap m ys)
          → (sum G.cap (m y) (total G.cap m ys) ≡ Inf) ⊎ Along x s (sum G.cap (m y) (total G.cap m ys))
      by (inl q) a = inl (ap (λ k. sum G.cap k (total G.cap m ys)) q)
      by (inr t) (inl q) = inl (ap (sum G.cap (m y)) q ∙ sum-inf G.cap (m y))
      by (inr t) (inr a) =
          inr (tree y t.0 a.0, (h.0, h.1, t.1, a.1), sums (m y) (total G.cap m ys) (G.weight y + weights G t.0) (weights G a.0) t.2 a.2)

  pub closed : IsClosed G m p
  unfolding Along
  closed = record {
    ends = λ x s h. (X.paths x s).0 (Fin 0) ([], h, refl);
    steps = λ x s y t h. least-below (OfPath G m x s) (p x s) (sum G.cap (m y) (p x t)) (X.paths x s) (elim (X.paths x t).1 [
      | inl q ↦ inl (ap (sum G.cap (m y)) q ∙ sum-inf G.cap (m y))
      | inr a ↦ inr (y ∷ a.0, (t, h, a.1), ap (sum G.cap (m y)) a.2)
    ]);
    tops = λ x. least-below (OfTree G x) (m x) (sum G.cap (Fin (G.weight x)) (p x (G.start x))) (X.trees x) (elim (X.paths x (G.start x)).1 [
      | inl q ↦ inl (ap (sum G.cap (Fin (G.weight x))) q ∙ sum-inf G.cap (Fin (G.weight x)))
      | inr a ↦ elim (along a.0 x (G.start x) a.1) [
        | inl q ↦ inl (ap (sum G.cap (Fin (G.weight x))) (a.2 ∙ q) ∙ sum-inf G.cap (Fin (G.weight x)))
        | inr f ↦ inr (f.0, f.1, ap (sum G.cap (Fin (G.weight x))) (a.2 ∙ f.2) ∙ weight-cut G.cap (G.weight x) (weights G f.0))
      ]
    ]);
  }

  -- a state that has the paths of another costs no more
  pub no_more : (x y : E) (s t : S) → ((ys : List E) → Path G y t ys → Path G x s ys) → AtMost (p x s) (p y t)
  no_more x y s t h = least-below (OfPath G m x s) (p x s) (p y t) (X.paths x s) (elim (X.paths y t).1 [
    | inl q ↦ inl q
    | inr a ↦ inr (a.0, h a.0 a.1, a.2)
  ])
