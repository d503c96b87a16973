-- Feasible tables are lower bounds.
use Rattle.std.proofs.Common.{◌≡◌, List, ℕ, ◌+◌, refl, ap, subst, arith, Option, Some, None}
use Rattle.std.specs.Prelude.{is_some}
use Rattle.content_models.specs.declared.content.Content.{Content}
use Rattle.content_models.specs.Model.{Chars}
use Rattle.document_trees.specs.Trees.{Attribute, Items, nothing, element, chars, comment, pi, Node, EachBelow, EachNode, child_names, elements_in, size}
use Rattle.decl_set.specs.Declarations.{Declarations, content_in}
use Rattle.decl_set.specs.Asked.{IsKept}
use Rattle.decl_set.specs.Validity.{Meets, IsValid, IsSeparating, Suits}
use Rattle.tree_costs.specs.declared.cost.Cost.TheVariants.{Fin}
use Rattle.decl_set.specs.declared.breaks.Odd.{Odd}
use Rattle.tree_costs.specs.Costs.{Bounds}
use Rattle.position_automata.specs.Runs.{Runs}
use Rattle.decl_set.specs.Oddness.{odd_in}
use Rattle.bound_checker.specs.Tabled.{Costs}
use Rattle.bound_checker.specs.Kinds.{Feasible}
use Rattle.bound_checker.specs.Laws.{FeasibleBounds}
use Rattle.tree_costs.proofs.Costs.{bounds-below, bounds-step, bounds-stable}
use Rattle.bound_checker.proofs.Running.{runs-of, derives-of}
use Rattle.decl_set.proofs.Suiting.{met, meets, suited}
use Rattle.bound_checker.proofs.Suiting.{suits_over}

module _ (first second : Declarations) (cap : ℕ) (c : Costs) (F : Feasible first second cap c) where
  abbrev Each : Items → Type 0
  Each items = EachBelow (Meets first) items

  -- ---- m and P

  m-step : (name : Chars) (a : Content) (inside : Items) → content_in first name ≡ Some a → Bounds (c.p name 0) (elements_in inside)
      → Bounds (c.m name) (1 + elements_in inside)
  m-step name a inside d b = bounds-step cap (c.m name) (Fin 1) (c.p name 0) 1 (elements_in inside) (F.k8 name a d) (omega arith) b

  pub p-bounds : (items : Items) (e : Chars) (a : Content) (i : ℕ) → content_in first e ≡ Some a → Runs a i (child_names items) → Each items
      → Bounds (c.p e i) (elements_in items)
  p-bounds nothing e a i d r h = bounds-below (c.p e i) (Fin 0) 0 (F.k1 e a i d r) (omega arith)
  p-bounds (element name atts inside later) e a i d r h =
      let t = met first name atts inside h.0 in
      bounds-step cap (c.p e i) (c.m name) (c.p e r.0) (1 + elements_in inside) (elements_in later) (F.k2 e name a i r.0 d r.1)
      (m-step name t.content inside t.declared (p-bounds inside name t.content 0 t.declared (runs-of t.content (child_names inside) t.derived) h.1))
      (p-bounds later e a r.0 d r.2 h.2)
  p-bounds (chars text plain later) e a i d r h = p-bounds later e a i d r h
  p-bounds (comment text later) e a i d r h = p-bounds later e a i d r h
  p-bounds (pi target body later) e a i d r h = p-bounds later e a i d r h

  pub m-bounds : (name : Chars) (atts : List Attribute) (inside : Items) → Meets first name atts inside → Each inside
      → Bounds (c.m name) (1 + elements_in inside)
  m-bounds name atts inside n h =
      let t = met first name atts inside n in
      m-step name t.content inside t.declared (p-bounds inside name t.content 0 t.declared (runs-of t.content (child_names inside) t.derived) h)

  -- ---- G: it bounds what the second does not lead to acceptance

  pub g-bounds : (items : Items) (e : Chars) (a b : Content) (i j : ℕ) → content_in first e ≡ Some a → content_in second e ≡ Some b
      → Runs a i (child_names items) → (Runs b j (child_names items) → ⊥) → Each items → (Bounds (c.g e i j) (elements_in items) → ⊥) → ⊥
  g-bounds nothing e a b i j d s r w h n = n (bounds-below (c.g e i j) (Fin 0) 0 (F.k5 e a b i j d s r w) (omega arith))
  g-bounds (element name atts inside later) e a b i j d s r w h n =
      n (bounds-step cap (c.g e i j) (c.m name) (c.p e r.0) (1 + elements_in inside) (elements_in later)
      (F.k7 e name a b i j r.0 d s r.1
      (λ l q. g-bounds later e a b r.0 l d s r.2 (λ k. w (l, q, k)) h.2
      (λ g. n (bounds-step cap (c.g e i j) (c.m name) (c.g e r.0 l) (1 + elements_in inside) (elements_in later)
      (F.k6 e name a b i j r.0 l d s r.1 q) (m-bounds name atts inside h.0 h.1) g))))
      (m-bounds name atts inside h.0 h.1) (p-bounds later e a r.0 d r.2 h.2))
  g-bounds (chars text plain later) e a b i j d s r w h n = g-bounds later e a b i j d s r w h n
  g-bounds (comment text later) e a b i j d s r w h n = g-bounds later e a b i j d s r w h n
  g-bounds (pi target body later) e a b i j d s r w h n = g-bounds later e a b i j d s r w h n

  module _ (kf : IsKept first) (ks : IsKept second) where
    -- ---- v and F

    -- a node that does not meet the second
    top-bounds : (name : Chars) (atts : List Attribute) (inside : Items) → Meets first name atts inside → Each inside
        → (Meets second name atts inside → ⊥) → (Bounds (c.v name) (1 + elements_in inside) → ⊥) → ⊥
    top-bounds name atts inside m h w n = by (odd_in first second name) refl
      where
        by : (o : Option Odd) → odd_in first second name ≡ o → ⊥
        by (Some o) q =
            n (bounds-below (c.v name) (c.m name) (1 + elements_in inside)
            (F.k11 name (met first name atts inside m).content (met first name atts inside m).declared (ap is_some q)) (m-bounds name atts inside m h))
        by None q =
            let t = met first name atts inside m in
            let s : Suits second name atts inside = suits_over first second name kf ks q atts inside t.suits in
            let b = suited second name atts inside s in
            g-bounds inside name t.content b.0 0 0 t.declared b.1 (runs-of t.content (child_names inside) t.derived)
            (λ r. w (meets second name atts inside b.0 b.1 (derives-of b.0 (child_names inside) r) s)) h
            (λ g. n (bounds-step cap (c.v name) (Fin 1) (c.g name 0 0) 1 (elements_in inside) (F.k10 name t.content b.0 t.declared b.1) (omega arith) g))

    -- a node that does not meet the second, or has such a node below
    v-step : (name : Chars) (atts : List Attribute) (inside : Items) → Meets first name atts inside → Each inside
        → ((EachBelow (Meets second) inside → ⊥) → (Bounds (c.f name 0) (elements_in inside) → ⊥) → ⊥)
        → (Meets second name atts inside → EachBelow (Meets second) inside → ⊥) → (Bounds (c.v name) (1 + elements_in inside) → ⊥) → ⊥
    v-step name atts inside m h below w n =
        let t = met first name atts inside m in
        below (λ k. top-bounds name atts inside m h (λ q. w q k) n)
        (λ f. n (bounds-step cap (c.v name) (Fin 1) (c.f name 0) 1 (elements_in inside) (F.k9 name t.content t.declared) (omega arith) f))

    pub f-bounds : (items : Items) (e : Chars) (a : Content) (i : ℕ) → content_in first e ≡ Some a → Runs a i (child_names items) → Each items
        → (EachBelow (Meets second) items → ⊥) → (Bounds (c.f e i) (elements_in items) → ⊥) → ⊥
    f-bounds nothing e a i d r h w n = w tt
    f-bounds (element name atts inside later) e a i d r h w n =
        let t = met first name atts inside h.0 in
        v-step name atts inside h.0 h.1 (f-bounds inside name t.content 0 t.declared (runs-of t.content (child_names inside) t.derived) h.1)
        (λ m k. f-bounds later e a r.0 d r.2 h.2 (λ q. w (m, k, q))
        (λ f. n (bounds-step cap (c.f e i) (c.m name) (c.f e r.0) (1 + elements_in inside) (elements_in later) (F.k4 e name a i r.0 d r.1)
        (m-bounds name atts inside h.0 h.1) f)))
        (λ v. n (bounds-step cap (c.f e i) (c.v name) (c.p e r.0) (1 + elements_in inside) (elements_in later) (F.k3 e name a i r.0 d r.1)
        v (p-bounds later e a r.0 d r.2 h.2)))
    f-bounds (chars text plain later) e a i d r h w n = f-bounds later e a i d r h w n
    f-bounds (comment text later) e a i d r h w n = f-bounds later e a i d r h w n
    f-bounds (pi target body later) e a i d r h w n = f-bounds later e a i d r h w n

    pub v-bounds : (node : Node) → EachNode (Meets first) node → (EachNode (Meets second) node → ⊥) → Bounds (c.v node.name) (size node)
    v-bounds node h w =
        let t = met first node.name node.atts node.items h.0 in
        bounds-stable (c.v node.name) (size node)
        (v-step node.name node.atts node.items h.0 h.1
        (f-bounds node.items node.name t.content 0 t.declared (runs-of t.content (child_names node.items) t.derived) h.1)
        (λ m k. w (m, k)))

    pub separating-bounds : (e : Chars) (node : Node) → IsSeparating first second e node → Bounds (c.v e) (size node)
    separating-bounds e node s =
        subst (λ x. Bounds (c.v x) (size node)) s.1.0 (v-bounds node s.1.1 (λ k. s.2 (s.1.0, k)))

  pub document-bounds : (e : Chars) (node : Node) → IsValid first e node → Bounds (c.m e) (size node)
  document-bounds e node h = subst (λ x. Bounds (c.m x) (size node)) h.0 (m-bounds node.name node.atts node.items h.1.0 h.1.1)

pub feasible_bounds : FeasibleBounds
feasible_bounds first second cap c kf ks F = record {
  documents = document-bounds first second cap c F;
  separating = separating-bounds first second cap c F kf ks;
  subset = λ e q node s. subst (λ k. Bounds k (size node)) q (separating-bounds first second cap c F kf ks e node s);
}
