-- Two chosen trees of an element are equal.
use Rattle.std.proofs.Common.{◌≡◌, List, [], ◌∷◌, ℕ, inl, inr, refl, sym, ap, ◌∙◌, subst, Option, Some, None}
use Rattle.content_models.specs.declared.content.Content.{Content}
use Rattle.content_models.specs.Model.{Chars}
use Rattle.document_trees.specs.Trees.{Attribute, Items, nothing, element, chars, comment, pi, Node}
use Rattle.decl_set.specs.Declarations.{Declarations, content_in, attributes_in}
use Rattle.decl_set.specs.declared.breaks.Odd.{Odd}
use Rattle.tree_costs.specs.declared.cost.Cost.{Cost}
use Rattle.tree_costs.specs.Costs.{sum}
use Rattle.tree_costs.specs.Beside.{put}
use Rattle.decl_set.specs.Oddness.{odd_in}
use Rattle.decl_set.specs.Steps.{steps_in}
use Rattle.position_automata.specs.Stepping.{step_on}
use Rattle.bound_checker.specs.Tabled.{Costs}
use Rattle.attlist_merge.specs.Shown.{required_of}
use Rattle.exact_tables.specs.LeastTrees.{IsFirst, AttainsLeast, LeastFrom, IsLeastTop, OneLeastTree}
use Rattle.exact_tables.specs.Chosen.{odd_atts, odd_front, AttainsOdd, OddFrom, ChosenOdd, ChosenNames, ChosenBy, AttainsWrong, WrongFrom, OneLeast, OneChosen}

-- there is one first
pub first-one : {A : Type 0} (P : A → Type 0) (x y : A) (xs : List A) → IsFirst P x xs → IsFirst P y xs → x ≡ y
first-one P x y [] h g = elim h [ ]
first-one P x y (z ∷ zs) (inl h) (inl g) = h.1 ∙ sym g.1
first-one P x y (z ∷ zs) (inl h) (inr g) = absurd (g.0 h.0)
first-one P x y (z ∷ zs) (inr h) (inl g) = absurd (h.0 g.0)
first-one P x y (z ∷ zs) (inr h) (inr g) = first-one P x y zs h.1 g.1

same-element : (n m : Chars) (a b : List Attribute) (x y l k : Items) → n ≡ m → a ≡ b → x ≡ y → l ≡ k → element n a x l ≡ element m b y k
same-element n m a b x y l k p q r s = λ i. element (p i) (q i) (r i) (s i)

pub same-node : (n m : Node) → n.name ≡ m.name → n.atts ≡ m.atts → n.items ≡ m.items → n ≡ m
same-node n m p q r = λ i. record { name = p i; atts = q i; items = r i }

pub same-some : {A : Type 0} (o : Option A) (a b : A) → o ≡ Some a → o ≡ Some b → a ≡ b
same-some o a b p q = let e : Some a ≡ Some b = sym p ∙ q in cc

module _ (set : Declarations) (cap : ℕ) (m : Chars → Cost) (p : Chars → ℕ → Cost) where
  pub least-one : (e : Chars) (a : Content) (i : ℕ) (xs ys : Items) → LeastFrom set cap m p e a i xs → LeastFrom set cap m p e a i ys → xs ≡ ys
  least-one e a i nothing nothing h g = refl
  least-one e a i nothing (element n at x l) h g = absurd (g.2 h)
  least-one e a i nothing (chars t r l) h g = elim g [ ]
  least-one e a i nothing (comment t l) h g = elim g [ ]
  least-one e a i nothing (pi t b l) h g = elim g [ ]
  least-one e a i (element n at x l) nothing h g = absurd (h.2 g)
  least-one e a i (element n at x l) (element o bt y k) h g =
      let f = first-one (AttainsLeast set cap m p e i) (n, h.0) (o, g.0) (steps_in set a i) h.3 g.3 in
      let q : n ≡ o = ap (λ s. s.0) f in
      let z : h.0 ≡ g.0 = ap (λ s. s.1) f in
      let r : h.1 ≡ g.1 = same-some (content_in set o) h.1 g.1 (subst (λ (w : Chars). content_in set w ≡ Some h.1) q h.5) g.5 in
      same-element n o at bt x y l k q (h.4 ∙ ap (λ w. required_of (attributes_in set w)) q ∙ sym g.4)
      (least-one o g.1 0 x y (subst (λ (w : Chars). LeastFrom set cap m p w g.1 0 x) q (subst (λ (w : Content). LeastFrom set cap m p n w 0 x) r h.6)) g.6)
      (least-one e a g.0 l k (subst (λ w. LeastFrom set cap m p e a w l) z h.7) g.7)
  least-one e a i (element n at x l) (chars t r k) h g = elim g [ ]
  least-one e a i (element n at x l) (comment t k) h g = elim g [ ]
  least-one e a i (element n at x l) (pi t b k) h g = elim g [ ]
  least-one e a i (chars t r l) ys h g = elim h [ ]
  least-one e a i (comment t l) ys h g = elim h [ ]
  least-one e a i (pi t b l) ys h g = elim h [ ]

  pub least-top-one : (e d : Chars) (at bt : List Attribute) (x y : Items) → e ≡ d → IsLeastTop set cap m p e at x → IsLeastTop set cap m p d bt y → (at ≡ bt) × (x ≡ y)
  least-top-one e d at bt x y q h g =
      let t = subst (λ (w : Chars). IsLeastTop set cap m p w at x) q h in
      let r : t.0 ≡ g.0 = same-some (content_in set d) t.0 g.0 t.1 g.1 in
      (t.2 ∙ sym g.2, least-one d g.0 0 x y (subst (λ (w : Content). LeastFrom set cap m p d w 0 x) r t.3) g.3)

pub one_least_tree : OneLeastTree
one_least_tree set cap m p e x y h g =
    let t = least-top-one set cap m p e e x.atts y.atts x.items y.items refl h.1 g.1 in
    same-node x y (h.0 ∙ sym g.0) t.0 t.1

pub one_least : OneLeast
one_least first cap c = one_least_tree first cap c.m c.p

module _ (first second : Declarations) (cap : ℕ) (c : Costs) where
  pub odd-one : (e : Chars) (a b : Content) (i j : ℕ) (xs ys : Items) → OddFrom first second cap c e a b i j xs → OddFrom first second cap c e a b i j ys → xs ≡ ys
  odd-one e a b i j nothing nothing h g = refl
  odd-one e a b i j nothing (element n at x l) h g = absurd (g.1 h)
  odd-one e a b i j nothing (chars t p l) h g = elim g [ ]
  odd-one e a b i j nothing (comment t l) h g = elim g [ ]
  odd-one e a b i j nothing (pi t o l) h g = elim g [ ]
  odd-one e a b i j (element n at x l) nothing h g = absurd (h.1 g)
  odd-one e a b i j (element n at x l) (element m bt y k) h g =
      let f = first-one (AttainsOdd first second cap c e b i j) (n, h.0) (m, g.0) (steps_in first a i) h.2 g.2 in
      let q : n ≡ m = ap (λ s. s.0) f in
      let z : h.0 ≡ g.0 = ap (λ s. s.1) f in
      let t = least-top-one first cap c.m c.p n m at bt x y q h.3 g.3 in
      same-element n m at bt x y l k q t.0 t.1 (elim h.4 [
        | inl u ↦ elim g.4 [
          | inl w ↦
              let r : u.0 ≡ w.0 = same-some (step_on b j m) u.0 w.0 (subst (λ (v : Chars). step_on b j v ≡ Some u.0) q u.1) w.1 in
              odd-one e a b g.0 w.0 l k (subst (λ v. OddFrom first second cap c e a b v w.0 l) z (subst (λ v. OddFrom first second cap c e a b h.0 v l) r u.2)) w.2
          | inr w ↦ (let r : None ≡ Some u.0 = sym w.0 ∙ subst (λ (v : Chars). step_on b j v ≡ Some u.0) q u.1 in cc)
        ]
        | inr u ↦ elim g.4 [
          | inl w ↦ (let r : None ≡ Some w.0 = sym (subst (λ (v : Chars). step_on b j v ≡ None) q u.0) ∙ w.1 in cc)
          | inr w ↦ least-one first cap c.m c.p e a g.0 l k (subst (λ v. LeastFrom first cap c.m c.p e a v l) z u.1) w.1
        ]
      ])
  odd-one e a b i j (element n at x l) (chars t p k) h g = elim g [ ]
  odd-one e a b i j (element n at x l) (comment t k) h g = elim g [ ]
  odd-one e a b i j (element n at x l) (pi t o k) h g = elim g [ ]
  odd-one e a b i j (chars t p l) ys h g = elim h [ ]
  odd-one e a b i j (comment t l) ys h g = elim h [ ]
  odd-one e a b i j (pi t o l) ys h g = elim h [ ]

  chosen_odd-one : (e : Chars) (at bt : List Attribute) (x y : Items) → ChosenOdd first second cap c e at x → ChosenOdd first second cap c e bt y → (at ≡ bt) × (x ≡ y)
  chosen_odd-one e at bt x y h g =
      let r : h.0 ≡ g.0 = same-some (content_in first e) h.0 g.0 h.3 g.3 in
      let s : h.1 ≡ g.1 = same-some (odd_in first second e) h.1 g.1 h.4 g.4 in
      let t : h.2 ≡ g.2 = least-one first cap c.m c.p e g.0 0 h.2 g.2 (subst (λ (w : Content). LeastFrom first cap c.m c.p e w 0 h.2) r h.7) g.7 in (
        h.5 ∙ ap (λ (w : Odd). odd_atts w (attributes_in first e)) s ∙ sym g.5,
        h.6 ∙ ap (λ (w : Odd). put (odd_front first second e w) h.2) s ∙ ap (put (odd_front first second e g.1)) t ∙ sym g.6,
      )

  chosen_names-one : (e : Chars) (at bt : List Attribute) (x y : Items) → ChosenNames first second cap c e at x → ChosenNames first second cap c e bt y → (at ≡ bt) × (x ≡ y)
  chosen_names-one e at bt x y h g =
      let r : h.0 ≡ g.0 = same-some (content_in first e) h.0 g.0 h.2 g.2 in
      let s : h.1 ≡ g.1 = same-some (content_in second e) h.1 g.1 h.3 g.3 in (
        h.4 ∙ sym g.4,
        odd-one e g.0 g.1 0 0 x y (subst (λ (w : Content). OddFrom first second cap c e w g.1 0 0 x) r (subst (λ (w : Content). OddFrom first second cap c e h.0 w 0 0 x) s h.5)) g.5,
      )

  chosen_by-one : (V W : Content → Type 0) (e : Chars) (at bt : List Attribute) (x y : Items) → ((a : Content) → V a → W a → x ≡ y)
      → ChosenBy first second cap c V e at x → ChosenBy first second cap c W e bt y → (at ≡ bt) × (x ≡ y)
  chosen_by-one V W e at bt x y k (inl h) (inl g) = chosen_odd-one e at bt x y h.1 g.1
  chosen_by-one V W e at bt x y k (inl h) (inr g) = absurd (g.0 h.0)
  chosen_by-one V W e at bt x y k (inr h) (inl g) = absurd (h.0 g.0)
  chosen_by-one V W e at bt x y k (inr h) (inr g) = elim h.1 [
    | inl u ↦ elim g.1 [
      | inl w ↦ chosen_names-one e at bt x y u.1 w.1
      | inr w ↦ absurd (w.0 u.0)
    ]
    | inr u ↦ elim g.1 [
      | inl w ↦ absurd (u.0 w.0)
      | inr w ↦
          let r : u.2.0 ≡ w.2.0 = same-some (content_in first e) u.2.0 w.2.0 u.2.1 w.2.1 in
          (u.2.2 ∙ sym w.2.2, k w.2.0 (subst V r u.2.3) w.2.3)
    ]
  ]

  pub wrong-one : (e : Chars) (a : Content) (i : ℕ) (xs ys : Items) → WrongFrom first second cap c e a i xs → WrongFrom first second cap c e a i ys → xs ≡ ys
  wrong-one e a i nothing ys h g = elim h [ ]
  wrong-one e a i (element n at x l) nothing h g = elim g [ ]
  wrong-one e a i (element n at x l) (element m bt y k) h g =
      let f = first-one (AttainsWrong first second cap c e i) (n, h.0) (m, g.0) (steps_in first a i) h.1 g.1 in
      let q : n ≡ m = ap (λ s. s.0) f in
      let z : h.0 ≡ g.0 = ap (λ s. s.1) f in
      elim h.2 [
        | inl u ↦ elim g.2 [
          | inl w ↦
              let t = chosen_by-one (λ b. WrongFrom first second cap c m b 0 x) (λ b. WrongFrom first second cap c m b 0 y) m at bt x y
              (λ b p r. wrong-one m b 0 x y p r)
              (subst (λ (v : Chars). ChosenBy first second cap c (λ b. WrongFrom first second cap c v b 0 x) v at x) q u.1) w.1 in
              same-element n m at bt x y l k q t.0 t.1 (least-one first cap c.m c.p e a g.0 l k (subst (λ v. LeastFrom first cap c.m c.p e a v l) z u.2) w.2)
          | inr w ↦ absurd (w.0 (subst (λ (s : Chars × ℕ). c.f e i ≡ sum cap (c.v s.0) (c.p e s.1)) f u.0))
        ]
        | inr u ↦ elim g.2 [
          | inl w ↦ absurd (u.0 (subst (λ (s : Chars × ℕ). c.f e i ≡ sum cap (c.v s.0) (c.p e s.1)) (sym f) w.0))
          | inr w ↦
              let t = least-top-one first cap c.m c.p n m at bt x y q u.1 w.1 in
              same-element n m at bt x y l k q t.0 t.1 (wrong-one e a g.0 l k (subst (λ v. WrongFrom first second cap c e a v l) z u.2) w.2)
        ]
      ]
  wrong-one e a i (element n at x l) (chars t p k) h g = elim g [ ]
  wrong-one e a i (element n at x l) (comment t k) h g = elim g [ ]
  wrong-one e a i (element n at x l) (pi t b k) h g = elim g [ ]
  wrong-one e a i (chars t p l) ys h g = elim h [ ]
  wrong-one e a i (comment t l) ys h g = elim h [ ]
  wrong-one e a i (pi t b l) ys h g = elim h [ ]

pub one_chosen : OneChosen
one_chosen first second cap c e x y h g =
    let t = chosen_by-one first second cap c (λ a. WrongFrom first second cap c e a 0 x.items) (λ a. WrongFrom first second cap c e a 0 y.items) e x.atts y.atts x.items y.items
    (λ a p r. wrong-one first second cap c e a 0 x.items y.items p r) h.1 g.1 in
    same-node x y (h.0 ∙ sym g.0) t.0 t.1
