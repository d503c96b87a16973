-- A least tree is as large as m says.
use Rattle.std.proofs.Common.{◌≡◌, List, [], ◌∷◌, ℕ, ◌+◌, ◌≤◌, min, ◌⊎◌, inl, inr, refl, sym, ap, ◌∙◌, subst, arith, false, Some, None, IsTrue, true≢false}
use Rattle.content_models.specs.declared.content.Content.{Content}
use Rattle.content_models.specs.Model.{Chars}
use Rattle.document_trees.specs.Trees.{Attribute, Items, nothing, element, chars, comment, pi, Node, EachBelow, child_names, elements_in, elements_alone, IsWellMade, size}
use Rattle.position_automata.specs.Automata.{FollowsOn, Accepts}
use Rattle.position_automata.proofs.Words.{Member}
use Rattle.decl_set.specs.Declarations.{Declarations, content_in, attributes_in}
use Rattle.decl_set.specs.Asked.{IsKept}
use Rattle.decl_set.specs.Validity.{Meets}
use Rattle.tree_costs.specs.declared.cost.Cost.{Cost}
use Rattle.tree_costs.specs.declared.cost.Cost.TheVariants.{Fin, Inf}
use Rattle.tree_costs.specs.Beside.{IsRight}
use Rattle.tree_costs.specs.Costs.{AtMost, Bounds, cut, sum, total}
use Rattle.tree_costs.specs.Families.{OfDocument, OfNames, AreExact}
use Rattle.position_automata.specs.Runs.{Runs}
use Rattle.decl_set.specs.Steps.{steps_in}
use Rattle.tree_costs.specs.Forests.{IsForest}
use Rattle.attlist_merge.specs.Shown.{required_of}
use Rattle.exact_tables.specs.LeastTrees.{IsFirst, AttainsLeast, LeastFrom, IsLeastTop, IsWritten, are_written, begins_run}
use Rattle.tree_costs.proofs.Costs.{at_most-inf, at_most-antisym, bounds-below, bounds-sum, least-below, sum-inf, sum-is, one-cut, below-cut}
use Rattle.bound_checker.proofs.Running.{runs-of}
use Rattle.decl_set.proofs.Suiting.{met}
use Rattle.tree_costs.proofs.Building.{topped, document_of}
use Rattle.exact_tables.proofs.Building.{grown}
use Rattle.bound_checker.proofs.Stepping.{steps_to}
use Rattle.exact_tables.proofs.Required.{required_is_right}

-- the first is a member, and passes
pub first-member : {A : Type 0} (P : A → Type 0) (x : A) (xs : List A) → IsFirst P x xs → Member x xs × P x
first-member P x [] h = elim h [ ]
first-member P x (y ∷ ys) (inl h) = (inl h.1, subst P (sym h.1) h.0)
first-member P x (y ∷ ys) (inr h) = let t = first-member P x ys h.1 in (inr t.0, t.1)

-- a sum that is a number up to the cap is that of two numbers
pub parts : (cap : ℕ) (c d : Cost) (k : ℕ) → k ≤ cap → sum cap c d ≡ Fin k → (a : ℕ) × (b : ℕ) × (c ≡ Fin a) × (d ≡ Fin b) × (k ≡ a + b)
parts cap (Fin a) (Fin b) k h e = let q : min (a + b) (cap + 1) ≡ k = cc in (a, b, refl, refl, omega arith)
parts cap (Fin a) Inf k h e = cc
parts cap Inf d k h e = cc

pub fin-same : (a b : ℕ) → Fin a ≡ Fin b → a ≡ b
fin-same a b q = cc

-- ---- elements alone can be written

pub alone-written : (items : Items) → IsTrue (elements_alone items) → IsTrue (are_written items)
alone-written nothing h = refl
alone-written (element name atts inside later) h = alone-written later h
alone-written (chars text plain later) h = absurd (true≢false (sym h))
alone-written (comment text later) h = absurd (true≢false (sym h))
alone-written (pi target body later) h = absurd (true≢false (sym h))

pub alone-begins : (items : Items) → IsTrue (elements_alone items) → begins_run items ≡ false
alone-begins nothing h = refl
alone-begins (element name atts inside later) h = refl
alone-begins (chars text plain later) h = absurd (true≢false (sym h))
alone-begins (comment text later) h = absurd (true≢false (sym h))
alone-begins (pi target body later) h = absurd (true≢false (sym h))

-- ---- a node that is right

-- the attributes and items make a node of the set that can be written
pub record IsBuiltTop (set : Declarations) (e : Chars) (atts : List Attribute) (items : Items) : Type 0 where
  pub made : IsWellMade e atts items
  pub made_below : EachBelow IsWellMade items
  pub met : Meets set e atts items
  pub met_below : EachBelow (Meets set) items
  pub written : IsWritten e atts items
  pub written_below : EachBelow IsWritten items

-- trees side by side, right in the set, whose names lead to acceptance
pub record IsRow (set : Declarations) (a : Content) (i : ℕ) (items : Items) : Type 0 where
  pub forest : IsForest set items
  pub run : Runs a i (child_names items)
  pub written : EachBelow IsWritten items

pub row-more : (set : Declarations) (a : Content) (i k : ℕ) (name : Chars) (atts : List Attribute) (inside later : Items) → FollowsOn a i name k
    → IsBuiltTop set name atts inside → IsForest set later → Runs a k (child_names later) → EachBelow IsWritten later → IsRow set a i (element name atts inside later)
row-more set a i k name atts inside later s t f r w = record {
  forest = record { alone = f.alone; made = (t.made, t.made_below, f.made); met = (t.met, t.met_below, f.met) };
  run = (k, s, r);
  written = (t.written, t.written_below, w);
}

pub required_top : (set : Declarations) (e : Chars) (a : Content) (atts : List Attribute) (items : Items) → IsKept set → content_in set e ≡ Some a
    → atts ≡ required_of (attributes_in set e) → IsRow set a 0 items → IsBuiltTop set e atts items
required_top set e a atts items k d q r =
    let h = subst (λ x. IsRight set e x None) (sym q) (required_is_right set e a k d) in
    let t = topped set e a items atts None k d h r.forest r.run in
    record {
      made = t.document.0;
      made_below = r.forest.made;
      met = t.valid.1.0;
      met_below = r.forest.met;
      written = (h.attributes, alone-written items r.forest.alone);
      written_below = r.written;
    }

pub step_of : (set : Declarations) (P : (Chars × ℕ) → Type 0) (a : Content) (i k : ℕ) (name : Chars) → IsFirst P (name, k) (steps_in set a i) → FollowsOn a i name k × P (name, k)
step_of set P a i k name h =
    let t = first-member P (name, k) (steps_in set a i) h in
    (steps_to set a i (name, k) t.0, t.1)

module _ (set : Declarations) (cap : ℕ) (m : Chars → Cost) (p : Chars → ℕ → Cost) (kept : IsKept set) where
  pub least-row : (e : Chars) (a : Content) (i : ℕ) (xs : Items) → LeastFrom set cap m p e a i xs → IsRow set a i xs
  least-row e a i nothing h = record { forest = record { alone = refl; made = tt; met = tt }; run = h; written = tt }
  least-row e a i (element n at x l) h =
      let s = step_of set (AttainsLeast set cap m p e i) a i h.0 n h.3 in
      let r = least-row e a h.0 l h.7 in
      row-more set a i h.0 n at x l s.0 (required_top set n h.1 at x kept h.5 h.4 (least-row n h.1 0 x h.6)) r.forest r.run r.written
  least-row e a i (chars t q l) h = elim h [ ]
  least-row e a i (comment t l) h = elim h [ ]
  least-row e a i (pi t b l) h = elim h [ ]

  pub least-top : (e : Chars) (at : List Attribute) (x : Items) → IsLeastTop set cap m p e at x → IsBuiltTop set e at x
  least-top e at x h = required_top set e h.0 at x kept h.1 h.2 (least-row e h.0 0 x h.3)

module _ (set : Declarations) (cap : ℕ) (m : Chars → Cost) (p : Chars → ℕ → Cost) (kept : IsKept set) (X : AreExact set cap m p) where
  -- ---- what exact costs of the set keep

  sum_none : (x y : Cost) (P : Type 0) → y ≡ Inf → (sum cap x y ≡ Inf) ⊎ P
  sum_none x y P q = inl (ap (sum cap x) q ∙ sum-inf cap x)

  pub own-stop : (e : Chars) (a : Content) (i : ℕ) → content_in set e ≡ Some a → Accepts a i → AtMost (p e i) (Fin 0)
  own-stop e a i d h = (X.sums e a i d).0 (Fin 0) ([], h, refl)

  pub own-step : (e name : Chars) (a : Content) (i k : ℕ) → content_in set e ≡ Some a → FollowsOn a i name k → AtMost (p e i) (sum cap (m name) (p e k))
  own-step e name a i k d s = least-below (OfNames cap m a i) (p e i) (sum cap (m name) (p e k)) (X.sums e a i d) (elim (X.sums e a k d).1 [
    | inl q ↦ sum_none (m name) (p e k) _ q
    | inr t ↦ inr (name ∷ t.0, (k, s, t.1), ap (sum cap (m name)) t.2)
  ])

  own-start : (e : Chars) (a : Content) → content_in set e ≡ Some a → AtMost (m e) (sum cap (Fin 1) (p e 0))
  own-start e a d = least-below (OfDocument cap set e) (m e) (sum cap (Fin 1) (p e 0)) (X.sizes e) (elim (X.sums e a 0 d).1 [
    | inl q ↦ sum_none (Fin 1) (p e 0) _ q
    | inr t ↦ elim (grown set set cap kept m (λ x. Inf) (λ x. (X.sizes x).1) (λ x. inl refl) t.0) [
      | inl z ↦ sum_none (Fin 1) (p e 0) _ (t.2 ∙ z)
      | inr g ↦ inr (subst (OfDocument cap set e) (sym (ap (sum cap (Fin 1)) (t.2 ∙ g.3) ∙ one-cut cap (elements_in g.0)))
          (document_of set cap e a g.0 kept d g.1 (subst (Runs a 0) (sym g.2) t.1)))
    ]
  ])

  -- names cost no more than there are elements in documents of them side by side
  names-bound : (items : Items) → EachBelow IsWellMade items → EachBelow (Meets set) items → Bounds (total cap m (child_names items)) (elements_in items)
  names-bound nothing w h = omega arith
  names-bound (element name atts inside later) w h =
      let node : Node = record { name = name; atts = atts; items = inside } in
      let one : Bounds (m name) (1 + elements_in inside) = bounds-below (m name) (cut cap (1 + elements_in inside)) (1 + elements_in inside)
      ((X.sizes name).0 (cut cap (1 + elements_in inside)) (node, (w.0, w.1), (refl, (h.0, h.1)), refl)) (omega arith) in
      bounds-sum cap (m name) (total cap m (child_names later)) (1 + elements_in inside) (elements_in later) one (names-bound later w.2 h.2)
  names-bound (chars text plain later) w h = names-bound later w h
  names-bound (comment text later) w h = names-bound later w h
  names-bound (pi target body later) w h = names-bound later w h

  -- m is one more than P of the start
  m-same : (e : Chars) (a : Content) → content_in set e ≡ Some a → m e ≡ sum cap (Fin 1) (p e 0)
  m-same e a d = at_most-antisym (m e) (sum cap (Fin 1) (p e 0)) (own-start e a d) (elim (X.sizes e).1 [
    | inl q ↦ subst (AtMost (sum cap (Fin 1) (p e 0))) (sym q) (at_most-inf (sum cap (Fin 1) (p e 0)))
    | inr t ↦
        let node = t.0 in
        let names = child_names node.items in
        let n = met set node.name node.atts node.items t.2.1.0 in
        let z = subst (λ (x : Chars). content_in set x ≡ Some n.content) t.2.0 n.declared in
        let b = bounds-below (p e 0) (total cap m names) (elements_in node.items)
        ((X.sums e n.content 0 z).0 (total cap m names) (names, runs-of n.content names n.derived, refl)) (names-bound node.items t.1.1 t.2.1.1) in
        let s = bounds-sum cap (Fin 1) (p e 0) 1 (elements_in node.items) (omega arith) b in
        subst (AtMost (sum cap (Fin 1) (p e 0))) (sym t.3) (below-cut cap (sum cap (Fin 1) (p e 0)) (size node) (sum-is cap (Fin 1) (p e 0)) s)
  ])

  pub start-of : (e : Chars) (a : Content) (k : ℕ) → content_in set e ≡ Some a → k ≤ cap → m e ≡ Fin k → (j : ℕ) × (p e 0 ≡ Fin j) × (k ≡ 1 + j)
  start-of e a k d h q =
      let u = parts cap (Fin 1) (p e 0) k h (sym (m-same e a d) ∙ q) in
      let one : 1 ≡ u.0 = fin-same 1 u.0 u.2 in
      (u.1, u.3, (let g = u.4 in omega (arith, one, g)))

  pub least-size : (e : Chars) (a : Content) (i n : ℕ) (xs : Items) → content_in set e ≡ Some a → n ≤ cap → p e i ≡ Fin n → LeastFrom set cap m p e a i xs → elements_in xs ≡ n
  least-size e a i n nothing d l q h =
      let z : n ≤ 0 = subst (λ x. AtMost x (Fin 0)) q (own-stop e a i d h) in omega (arith, z)
  least-size e a i n (element name at x k) d l q h =
      let s = (step_of set (AttainsLeast set cap m p e i) a i h.0 name h.3).1 in
      let u = parts cap (m name) (p e h.0) n l (sym s ∙ q) in
      let g = u.4 in
      let t = start-of name h.1 u.0 h.5 (omega (arith, g, l)) u.2 in
      let w = t.2 in
      let y = least-size name h.1 0 t.0 x h.5 (omega (arith, g, l, w)) t.1 h.6 in
      let z = least-size e a h.0 u.1 k d (omega (arith, g, l)) u.3 h.7 in
      omega (arith, g, w, y, z)
  least-size e a i n (chars t r k) d l q h = elim h [ ]
  least-size e a i n (comment t k) d l q h = elim h [ ]
  least-size e a i n (pi t b k) d l q h = elim h [ ]

  pub least_top-size : (e : Chars) (n : ℕ) (at : List Attribute) (x : Items) → n ≤ cap → m e ≡ Fin n → IsLeastTop set cap m p e at x → 1 + elements_in x ≡ n
  least_top-size e n at x l q h =
      let t = start-of e h.0 n h.1 l q in
      let w = t.2 in
      let y = least-size e h.0 0 t.0 x h.1 (omega (arith, w, l)) t.1 h.3 in
      omega (arith, w, y)
