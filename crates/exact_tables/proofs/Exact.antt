-- Costs that are feasible and attained are exact.
use Rattle.std.proofs.Common.{◌≡◌, List, [], ◌∷◌, ◌++◌, ℕ, ◌+◌, inl, inr, refl, sym, ap, subst, Some, arith, ◌≤◌}
use Rattle.content_models.specs.declared.content.Content.{Content}
use Rattle.content_models.specs.Model.{Chars}
use Rattle.document_trees.specs.Trees.{Items, nothing, element, chars, comment, pi, IsWellMade, EachBelow, child_names, elements_in, size}
use Rattle.decl_set.specs.Declarations.{Declarations, content_in}
use Rattle.decl_set.specs.Asked.{IsKept}
use Rattle.decl_set.specs.Validity.{Meets}
use Rattle.tree_costs.specs.declared.cost.Cost.{Cost}
use Rattle.tree_costs.specs.Costs.{Bounds, AtMost, cut, sum, total, IsSmall}
use Rattle.exact_tables.specs.Families.{total_with, OfOneName, IsReached, IsExact}
use Rattle.position_automata.specs.Runs.{Runs}
use Rattle.bound_checker.specs.Tabled.{Costs}
use Rattle.bound_checker.specs.Kinds.{Feasible}
use Rattle.exact_tables.specs.Forests.{HasWrong, IsAttained}
use Rattle.exact_tables.specs.Laws.{ReachedIsExact, AttainedIsExact}
use Rattle.tree_costs.proofs.Costs.{bounds-sum, at_most-trans, at_most-antisym, at_most-stable, sum-mono, total-is, below-cut, attained-is}
use Rattle.exact_tables.proofs.Sums.{total_with-is}
use Rattle.bound_checker.proofs.Sound.{m-bounds, document-bounds, separating-bounds, v-bounds}

module _ (first second : Declarations) (cap : ℕ) (c : Costs) (kf : IsKept first) (ks : IsKept second) (F : Feasible first second cap c) where
  -- ---- each row is at most the sums along its names

  p-below : (e : Chars) (a : Content) (i : ℕ) (names : List Chars) → content_in first e ≡ Some a → Runs a i names → AtMost (c.p e i) (total cap c.m names)
  p-below e a i [] d r = F.k1 e a i d r
  p-below e a i (name ∷ names) d r =
      at_most-trans (c.p e i) (sum cap (c.m name) (c.p e r.0)) (sum cap (c.m name) (total cap c.m names)) (F.k2 e name a i r.0 d r.1)
      (sum-mono cap (c.m name) (c.p e r.0) (total cap c.m names) (p-below e a r.0 names d r.2))

  f-below : (e : Chars) (a : Content) (i : ℕ) (before : List Chars) (name : Chars) (after : List Chars) → content_in first e ≡ Some a
      → Runs a i (before ++ name ∷ after) → AtMost (c.f e i) (total_with cap c.m c.v before name after)
  f-below e a i [] name after d r =
      at_most-trans (c.f e i) (sum cap (c.v name) (c.p e r.0)) (sum cap (c.v name) (total cap c.m after)) (F.k3 e name a i r.0 d r.1)
      (sum-mono cap (c.v name) (c.p e r.0) (total cap c.m after) (p-below e a r.0 after d r.2))
  f-below e a i (x ∷ before) name after d r =
      at_most-trans (c.f e i) (sum cap (c.m x) (c.f e r.0)) (sum cap (c.m x) (total_with cap c.m c.v before name after)) (F.k4 e x a i r.0 d r.1)
      (sum-mono cap (c.m x) (c.f e r.0) (total_with cap c.m c.v before name after) (f-below e a r.0 before name after d r.2))

  g-below : (e : Chars) (a b : Content) (i j : ℕ) (names : List Chars) → content_in first e ≡ Some a → content_in second e ≡ Some b
      → Runs a i names → (Runs b j names → ⊥) → AtMost (c.g e i j) (total cap c.m names)
  g-below e a b i j [] d s r w = F.k5 e a b i j d s r w
  g-below e a b i j (name ∷ names) d s r w =
      at_most-stable (c.g e i j) (sum cap (c.m name) (total cap c.m names))
      (λ n. n (at_most-trans (c.g e i j) (sum cap (c.m name) (c.p e r.0)) (sum cap (c.m name) (total cap c.m names))
      (F.k7 e name a b i j r.0 d s r.1 (λ l q. n
      (at_most-trans (c.g e i j) (sum cap (c.m name) (c.g e r.0 l)) (sum cap (c.m name) (total cap c.m names)) (F.k6 e name a b i j r.0 l d s r.1 q)
      (sum-mono cap (c.m name) (c.g e r.0 l) (total cap c.m names) (g-below e a b r.0 l names d s r.2 (λ k. w (l, q, k)))))))
      (sum-mono cap (c.m name) (c.p e r.0) (total cap c.m names) (p-below e a r.0 names d r.2))))

  -- ---- the sums over a forest's names bound it

  total-bounds : (items : Items) → EachBelow (Meets first) items → Bounds (total cap c.m (child_names items)) (elements_in items)
  total-bounds nothing h = let q : 0 ≤ 0 = omega arith in q
  total-bounds (element name atts inside later) h =
      bounds-sum cap (c.m name) (total cap c.m (child_names later)) (1 + elements_in inside) (elements_in later)
      (m-bounds first second cap c F name atts inside h.0 h.1) (total-bounds later h.2)
  total-bounds (chars text plain later) h = total-bounds later h
  total-bounds (comment text later) h = total-bounds later h
  total-bounds (pi target body later) h = total-bounds later h

  -- the names of a forest with one that is wrong, parted there
  record Parted (items : Items) : Type 0 where
    before : List Chars
    name : Chars
    after : List Chars
    names : child_names items ≡ before ++ name ∷ after
    bounds : Bounds (total_with cap c.m c.v before name after) (elements_in items)

  parted : (items : Items) → EachBelow IsWellMade items → EachBelow (Meets first) items → HasWrong second items → Parted items
  parted nothing w h n = elim n [ ]
  parted (element name atts inside later) w h (inl n) = record {
    before = [];
    name = name;
    after = child_names later;
    names = refl;
    bounds = bounds-sum cap (c.v name) (total cap c.m (child_names later)) (1 + elements_in inside) (elements_in later)
        (v-bounds first second cap c F kf ks (record { name = name; atts = atts; items = inside }) (h.0, h.1) (λ k. n k.0 k.1)) (total-bounds later h.2);
  }
  parted (element name atts inside later) w h (inr n) =
      let t = parted later w.2 h.2 n in
      record {
        before = name ∷ t.before;
        name = t.name;
        after = t.after;
        names = ap (λ x. name ∷ x) t.names;
        bounds = bounds-sum cap (c.m name) (total_with cap c.m c.v t.before t.name t.after) (1 + elements_in inside) (elements_in later)
            (m-bounds first second cap c F name atts inside h.0 h.1) t.bounds;
      }
  parted (chars text plain later) w h n = let t = parted later w h n in record { before = t.before; name = t.name; after = t.after; names = t.names; bounds = t.bounds }
  parted (comment text later) w h n = let t = parted later w h n in record { before = t.before; name = t.name; after = t.after; names = t.names; bounds = t.bounds }
  parted (pi target body later) w h n = let t = parted later w h n in record { before = t.before; name = t.name; after = t.after; names = t.names; bounds = t.bounds }

  -- a cost that is at most a sum that bounds the size that it is, is that sum
  squeezed : (x s : Cost) (n : ℕ) → AtMost x s → IsSmall cap s → Bounds s n → x ≡ cut cap n → x ≡ s
  squeezed x s n l i b q = at_most-antisym x s l (subst (AtMost s) (sym q) (below-cut cap s n i b))

  -- ---- costs that are reached

  module _ (R : IsReached first second cap c) where
    m-cut : (e : Chars) → IsSmall cap (c.m e)
    m-cut e = attained-is cap (c.m e) (elim (R.m e) [ inl q ↦ inl q | inr t ↦ inr (size t.0, t.3) ])

    v-cut : (e : Chars) → IsSmall cap (c.v e)
    v-cut e = attained-is cap (c.v e) (elim (R.v e) [ inl q ↦ inl q | inr t ↦ inr (size t.0, t.2) ])

    pub exact : IsExact first second cap c
    exact = record {
      m = λ e. ((λ x t. subst (AtMost (c.m e)) (sym t.3) (below-cut cap (c.m e) (size t.0) (m-cut e) (document-bounds first second cap c F e t.0 t.2))), R.m e);
      v = λ e. ((λ x t. subst (AtMost (c.v e)) (sym t.2) (below-cut cap (c.v e) (size t.0) (v-cut e) (separating-bounds first second cap c F kf ks e t.0 t.1))), R.v e);
      p = λ e a i d. ((λ x t. subst (AtMost (c.p e i)) (sym t.2) (p-below e a i t.0 d t.1)), R.p e a i d);
      f = λ e a i d. ((λ x t. subst (AtMost (c.f e i)) (sym t.4) (f-below e a i t.0 t.1 t.2 d t.3)), R.f e a i d);
      g = λ e a b i j d s l. ((λ x t. subst (AtMost (c.g e i j)) (sym t.3) (g-below e a b i j t.0 d s t.1 t.2)), R.g e a b i j d s l);
      unlisted = R.unlisted;
    }

  -- ---- costs of forests are those of their names

  of_parted : (e : Chars) (a : Content) (i : ℕ) (items : Items) → c.f e i ≡ cut cap (elements_in items) → content_in first e ≡ Some a
      → Runs a i (child_names items) → Parted items → OfOneName cap c.m c.v a i (c.f e i)
  of_parted e a i items q d r t =
      let run = subst (Runs a i) t.names r in (
        t.before,
        t.name,
        t.after,
        run,
        squeezed (c.f e i) (total_with cap c.m c.v t.before t.name t.after) (elements_in items) (f-below e a i t.before t.name t.after d run)
            (total_with-is cap c.m c.v t.before t.name t.after) t.bounds q,
      )

  pub reached : IsAttained first second cap c → IsReached first second cap c
  reached A = record {
    m = A.m;
    v = A.v;
    p = λ e a i d. elim (A.p e a i d) [
      | inl q ↦ inl q
      | inr t ↦ inr (
        child_names t.0,
        t.2,
        squeezed (c.p e i) (total cap c.m (child_names t.0)) (elements_in t.0) (p-below e a i (child_names t.0) d t.2)
            (total-is cap c.m (child_names t.0)) (total-bounds t.0 (t.1).met) t.3,
      )
    ];
    f = λ e a i d. elim (A.f e a i d) [
      | inl q ↦ inl q
      | inr t ↦ inr (of_parted e a i t.0 t.4 d t.2 (parted t.0 (t.1).made (t.1).met t.3))
    ];
    g = λ e a b i j d s l. elim (A.g e a b i j d s l) [
      | inl q ↦ inl q
      | inr t ↦ inr (
        child_names t.0,
        t.2,
        t.3,
        squeezed (c.g e i j) (total cap c.m (child_names t.0)) (elements_in t.0)
            (g-below e a b i j (child_names t.0) d s t.2 t.3) (total-is cap c.m (child_names t.0)) (total-bounds t.0 (t.1).met) t.4,
      )
    ];
    unlisted = A.unlisted;
  }

pub reached_is_exact : ReachedIsExact
reached_is_exact first second cap c kf ks F R = exact first second cap c kf ks F R

pub attained_is_exact : AttainedIsExact
attained_is_exact first second cap c kf ks F A = exact first second cap c kf ks F (reached first second cap c kf ks F A)
