-- Exact costs are feasible.
use Rattle.std.proofs.Common.{◌≡◌, List, [], ◌∷◌, ◌++◌, ℕ, ◌+◌, ◌⊎◌, inl, inr, refl, sym, ap, ◌∙◌, subst, Some, IsTrue}
use Rattle.std.specs.Prelude.{is_some}
use Rattle.content_models.specs.declared.content.Content.{Content}
use Rattle.content_models.specs.Model.{Chars}
use Rattle.document_trees.specs.Trees.{Node, IsDocument, child_names, elements_in, size, bare}
use Rattle.position_automata.specs.Automata.{FollowsOn, Accepts, Leads, Way}
use Rattle.position_automata.proofs.States.{leads_by_ways, one_state_follows}
use Rattle.decl_set.specs.Declarations.{Declarations, content_in}
use Rattle.decl_set.specs.Asked.{IsKept}
use Rattle.decl_set.specs.Validity.{IsValid, HasDocument}
use Rattle.decl_set.proofs.Kept.{all_pushed}
use Rattle.tree_costs.specs.declared.cost.Cost.{Cost}
use Rattle.tree_costs.specs.declared.cost.Cost.TheVariants.{Fin, Inf}
use Rattle.tree_costs.specs.Costs.{AtMost, cut, sum}
use Rattle.position_automata.specs.Runs.{Runs}
use Rattle.decl_set.specs.Oddness.{odd_in}
use Rattle.bound_checker.specs.Tabled.{Costs}
use Rattle.bound_checker.specs.Kinds.{Feasible}
use Rattle.tree_costs.specs.Families.{OfDocument, OfNames}
use Rattle.exact_tables.specs.Families.{OfSeparating, OfOneName, OfOddNames, IsListed, IsExact}
use Rattle.exact_tables.specs.Laws.{ExactIsFeasible}
use Rattle.tree_costs.proofs.Costs.{at_most-inf, at_most-stable, least-below, sum-inf, one-cut, zero-least}
use Rattle.bound_checker.proofs.Running.{runs-of}
use Rattle.decl_set.proofs.Suiting.{met}
use Rattle.decl_set.proofs.Found.{element_is}
use Rattle.document_trees.proofs.Alone.{bare_names, bare_elements}
use Rattle.tree_costs.proofs.Building.{bare_forest}
use Rattle.exact_tables.proofs.Building.{document_of, wrong_below, wrong_names, wrong_odd, wrong-each, grown, wrong_grown}

-- ---- listed pairs

way-more : (a : Content) (i k l : ℕ) (names : List Chars) (name : Chars) → Way a i names k → FollowsOn a k name l → Way a i (names ++ name ∷ []) l
way-more a i k l [] name w s = (l, subst (λ x. FollowsOn a x name l) (sym w) s, refl)
way-more a i k l (x ∷ names) name w s = (w.0, w.1, way-more a w.0 k l names name w.2 s)

leads-more : (a : Content) (k l : ℕ) (names : List Chars) (name : Chars) → Leads a names k → FollowsOn a k name l → Leads a (names ++ name ∷ []) l
leads-more a k l names name h s =
    (leads_by_ways a (names ++ name ∷ []) l).1 (way-more a 0 k l names name ((leads_by_ways a names k).0 h) s)

pub start_listed : (first : Declarations) (a b : Content) → IsListed first a b 0 0
start_listed first a b = ([], tt, (leads_by_ways a [] 0).1 refl, (leads_by_ways b [] 0).1 refl)

pub listed-more : (first : Declarations) (a b : Content) (i j k l : ℕ) (name : Chars) → IsListed first a b i j → HasDocument first name
    → FollowsOn a i name k → FollowsOn b j name l → IsListed first a b k l
listed-more first a b i j k l name h d s q =
    (h.0 ++ name ∷ [], all_pushed (HasDocument first) h.0 name h.1 d, leads-more a i k h.0 name h.2 s, leads-more b j l h.0 name h.3 q)

-- what does not depend on whether a pair is listed
pub either : (P : Type 0) (c d : Cost) → (P → AtMost c d) → ((P → ⊥) → AtMost c d) → AtMost c d
either P c d is_so is_not = at_most-stable c d (λ n. n (is_not (λ p. n (is_so p))))

module _ (first second : Declarations) (cap : ℕ) (c : Costs) (kf : IsKept first) (ks : IsKept second) (X : IsExact first second cap c) where
  -- ---- kinds 1 to 4

  sum_none : (x y : Cost) (P : Type 0) → y ≡ Inf → (sum cap x y ≡ Inf) ⊎ P
  sum_none x y P q = inl (ap (sum cap x) q ∙ sum-inf cap x)

  k2 : (e name : Chars) (a : Content) (i k : ℕ) → content_in first e ≡ Some a → FollowsOn a i name k → AtMost (c.p e i) (sum cap (c.m name) (c.p e k))
  k2 e name a i k d s = least-below (OfNames cap c.m a i) (c.p e i) (sum cap (c.m name) (c.p e k)) (X.p e a i d) (elim (X.p e a k d).1 [
    | inl q ↦ sum_none (c.m name) (c.p e k) _ q
    | inr t ↦ inr (name ∷ t.0, (k, s, t.1), ap (sum cap (c.m name)) t.2)
  ])

  k3 : (e name : Chars) (a : Content) (i k : ℕ) → content_in first e ≡ Some a → FollowsOn a i name k → AtMost (c.f e i) (sum cap (c.v name) (c.p e k))
  k3 e name a i k d s = least-below (OfOneName cap c.m c.v a i) (c.f e i) (sum cap (c.v name) (c.p e k)) (X.f e a i d) (elim (X.p e a k d).1 [
    | inl q ↦ sum_none (c.v name) (c.p e k) _ q
    | inr t ↦ inr ([], name, t.0, (k, s, t.1), ap (sum cap (c.v name)) t.2)
  ])

  k4 : (e name : Chars) (a : Content) (i k : ℕ) → content_in first e ≡ Some a → FollowsOn a i name k → AtMost (c.f e i) (sum cap (c.m name) (c.f e k))
  k4 e name a i k d s = least-below (OfOneName cap c.m c.v a i) (c.f e i) (sum cap (c.m name) (c.f e k)) (X.f e a i d) (elim (X.f e a k d).1 [
    | inl q ↦ sum_none (c.m name) (c.f e k) _ q
    | inr t ↦ inr (name ∷ t.0, t.1, t.2, (k, s, t.3), ap (sum cap (c.m name)) t.4)
  ])

  -- ---- kinds 5 to 7

  -- an unlisted pair has 0
  unlisted : (e : Chars) (a b : Content) (i j : ℕ) → content_in first e ≡ Some a → content_in second e ≡ Some b → (x : Cost)
      → (IsListed first a b i j → ⊥) → AtMost (c.g e i j) x
  unlisted e a b i j d s x n = subst (λ k. AtMost k x) (sym (X.unlisted e a b i j d s n)) (zero-least x)

  k5 : (e : Chars) (a b : Content) (i j : ℕ) → content_in first e ≡ Some a → content_in second e ≡ Some b → Accepts a i → (Accepts b j → ⊥)
      → AtMost (c.g e i j) (Fin 0)
  k5 e a b i j d s h w = either (IsListed first a b i j) (c.g e i j) (Fin 0)
      (λ l. (X.g e a b i j d s l).0 (Fin 0) ([], h, w, refl)) (unlisted e a b i j d s (Fin 0))

  -- the second's step is the only one on the name
  other_run : (b : Content) (j l : ℕ) (e name : Chars) (names : List Chars) → content_in second e ≡ Some b → FollowsOn b j name l
      → (Runs b l names → ⊥) → Runs b j (name ∷ names) → ⊥
  other_run b j l e name names s q w r =
      let one = (one_state_follows b).0 (element_is second e b ks s).deterministic in
      w (subst (λ x. Runs b x names) (one j r.0 l name r.1 q) r.2)

  k6 : (e name : Chars) (a b : Content) (i j k l : ℕ) → content_in first e ≡ Some a → content_in second e ≡ Some b
      → FollowsOn a i name k → FollowsOn b j name l → AtMost (c.g e i j) (sum cap (c.m name) (c.g e k l))
  k6 e name a b i j k l d s h q = either (IsListed first a b i j) (c.g e i j) (sum cap (c.m name) (c.g e k l))
      (λ p. elim (X.m name).1 [
        | inl z ↦ subst (λ x. AtMost (c.g e i j) (sum cap x (c.g e k l))) (sym z) (at_most-inf (c.g e i j))
        | inr t ↦ least-below (OfOddNames cap c.m a b i j) (c.g e i j) (sum cap (c.m name) (c.g e k l)) (X.g e a b i j d s p)
            (elim (X.g e a b k l d s (listed-more first a b i j k l name p (t.0, t.1, t.2) h q)).1 [
              | inl z ↦ sum_none (c.m name) (c.g e k l) _ z
              | inr u ↦ inr (name ∷ u.0, (k, h, u.1), other_run b j l e name u.0 s q u.2, ap (sum cap (c.m name)) u.3)
            ])
      ])
      (unlisted e a b i j d s (sum cap (c.m name) (c.g e k l)))

  k7 : (e name : Chars) (a b : Content) (i j k : ℕ) → content_in first e ≡ Some a → content_in second e ≡ Some b
      → FollowsOn a i name k → ((l : ℕ) → FollowsOn b j name l → ⊥) → AtMost (c.g e i j) (sum cap (c.m name) (c.p e k))
  k7 e name a b i j k d s h w = either (IsListed first a b i j) (c.g e i j) (sum cap (c.m name) (c.p e k))
      (λ p. least-below (OfOddNames cap c.m a b i j) (c.g e i j) (sum cap (c.m name) (c.p e k)) (X.g e a b i j d s p) (elim (X.p e a k d).1 [
        | inl z ↦ sum_none (c.m name) (c.p e k) _ z
        | inr t ↦ inr (name ∷ t.0, (k, h, t.1), (λ r. w r.0 r.1), ap (sum cap (c.m name)) t.2)
      ]))
      (unlisted e a b i j d s (sum cap (c.m name) (c.p e k)))

  -- ---- kinds 8 to 11

  own : (e : Chars) → (c.m e ≡ Inf) ⊎ OfDocument cap first e (c.m e)
  own e = (X.m e).1

  wrong : (e : Chars) → (c.v e ≡ Inf) ⊎ OfSeparating cap first second e (c.v e)
  wrong e = (X.v e).1

  k8 : (e : Chars) (a : Content) → content_in first e ≡ Some a → AtMost (c.m e) (sum cap (Fin 1) (c.p e 0))
  k8 e a d = least-below (OfDocument cap first e) (c.m e) (sum cap (Fin 1) (c.p e 0)) (X.m e) (elim (X.p e a 0 d).1 [
    | inl q ↦ sum_none (Fin 1) (c.p e 0) _ q
    | inr t ↦ elim (grown first second cap kf c.m c.v own wrong t.0) [
      | inl z ↦ sum_none (Fin 1) (c.p e 0) _ (t.2 ∙ z)
      | inr g ↦ inr (subst (OfDocument cap first e) (sym (ap (sum cap (Fin 1)) (t.2 ∙ g.3) ∙ one-cut cap (elements_in g.0)))
          (document_of first second cap kf e a g.0 d g.1 (subst (Runs a 0) (sym g.2) t.1)))
    ]
  ])

  k9 : (e : Chars) (a : Content) → content_in first e ≡ Some a → AtMost (c.v e) (sum cap (Fin 1) (c.f e 0))
  k9 e a d = least-below (OfSeparating cap first second e) (c.v e) (sum cap (Fin 1) (c.f e 0)) (X.v e) (elim (X.f e a 0 d).1 [
    | inl q ↦ sum_none (Fin 1) (c.f e 0) _ q
    | inr t ↦ elim (wrong_grown first second cap kf c.m c.v own wrong t.0 t.1 t.2) [
      | inl z ↦ sum_none (Fin 1) (c.f e 0) _ (t.4 ∙ z)
      | inr g ↦ inr (subst (OfSeparating cap first second e) (sym (ap (sum cap (Fin 1)) (t.4 ∙ g.3) ∙ one-cut cap (elements_in g.0)))
          (wrong_below first second cap kf e a g.0 d g.1 (subst (Runs a 0) (sym g.2) t.3) (wrong-each second g.0 g.4)))
    ]
  ])

  k10 : (e : Chars) (a b : Content) → content_in first e ≡ Some a → content_in second e ≡ Some b → AtMost (c.v e) (sum cap (Fin 1) (c.g e 0 0))
  k10 e a b d s = least-below (OfSeparating cap first second e) (c.v e) (sum cap (Fin 1) (c.g e 0 0)) (X.v e) (elim (X.g e a b 0 0 d s (start_listed first a b)).1 [
    | inl q ↦ sum_none (Fin 1) (c.g e 0 0) _ q
    | inr t ↦ elim (grown first second cap kf c.m c.v own wrong t.0) [
      | inl z ↦ sum_none (Fin 1) (c.g e 0 0) _ (t.3 ∙ z)
      | inr g ↦ inr (subst (OfSeparating cap first second e) (sym (ap (sum cap (Fin 1)) (t.3 ∙ g.3) ∙ one-cut cap (elements_in g.0)))
          (wrong_names first second cap kf e a b g.0 d s g.1 (subst (Runs a 0) (sym g.2) t.1) (λ r. t.2 (subst (Runs b 0) g.2 r))))
    ]
  ])

  k11 : (e : Chars) (a : Content) → content_in first e ≡ Some a → IsTrue (is_some (odd_in first second e)) → AtMost (c.v e) (c.m e)
  k11 e a d o = least-below (OfSeparating cap first second e) (c.v e) (c.m e) (X.v e) (elim (own e) [
    | inl q ↦ inl q
    | inr t ↦ inr (separating t.0 t.1 t.2 t.3)
  ])
    where
      separating : (node : Node) → IsDocument node → IsValid first e node → c.m e ≡ cut cap (size node) → OfSeparating cap first second e (c.m e)
      separating node w n q =
          let t = met first node.name node.atts node.items n.1.0 in
          let f = bare_forest first node.items w.1 n.1.1 in
          let r = subst (Runs t.content 0) (sym (bare_names node.items)) (runs-of t.content (child_names node.items) t.derived) in
          let z = subst (λ x. content_in first x ≡ Some t.content) n.0 t.declared in
          subst (OfSeparating cap first second e) (sym (q ∙ ap (λ k. cut cap (1 + k)) (sym (bare_elements node.items))))
          (wrong_odd first second cap kf ks e t.content (bare node.items) z f r o)

  pub feasible : Feasible first second cap c
  feasible = record {
    k1 = λ e a i d h. (X.p e a i d).0 (Fin 0) ([], h, refl);
    k2 = k2;
    k3 = k3;
    k4 = k4;
    k5 = k5;
    k6 = k6;
    k7 = k7;
    k8 = k8;
    k9 = k9;
    k10 = k10;
    k11 = k11;
  }

pub exact_is_feasible : ExactIsFeasible
exact_is_feasible first second cap c kf ks X = feasible first second cap c kf ks X
