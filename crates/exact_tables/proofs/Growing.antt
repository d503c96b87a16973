-- Where costs are numbers up to the cap there are least trees.
use Rattle.std.proofs.Common.{◌≡◌, ◌==◌, List, [], ◌∷◌, ℕ, zero, suc, ◌≤◌, ◌<◌, ◌⊎◌, inl, inr, refl, sym, ap, ◌∙◌, subst, arith, Bool, true, false, Some, None}
use Rattle.std.proofs.lemmas.Bool.{both_ways, eqb-true, eq-eqb}
use Rattle.content_models.specs.declared.content.Content.{Content}
use Rattle.content_models.specs.Model.{Chars}
use Rattle.document_trees.specs.Trees.{Items, nothing, element}
use Rattle.position_automata.specs.Automata.{FollowsOn, Accepts}
use Rattle.position_automata.specs.Runs.{Runs}
use Rattle.position_automata.specs.Stepping.{does_accept}
use Rattle.position_automata.proofs.Words.{Member}
use Rattle.attlist_merge.specs.Shown.{required_of}
use Rattle.decl_set.specs.Declarations.{Declarations, content_in, attributes_in}
use Rattle.decl_set.specs.Asked.{IsKept}
use Rattle.decl_set.specs.Steps.{steps_in}
use Rattle.decl_set.specs.Validity.{HasDocument}
use Rattle.decl_set.proofs.Suiting.{met}
use Rattle.tree_costs.specs.declared.cost.Cost.{Cost}
use Rattle.tree_costs.specs.declared.cost.Cost.TheVariants.{Fin, Inf}
use Rattle.tree_costs.specs.Costs.{AtMost, sum, total}
use Rattle.tree_costs.specs.Families.{AreExact}
use Rattle.tree_costs.proofs.Costs.{at_most-antisym, sum-mono}
use Rattle.bound_checker.proofs.Stepping.{accept_to, accept_from, steps_from}
use Rattle.exact_tables.specs.LeastTrees.{IsFirst, AttainsLeast, LeastFrom, IsLeastTop, LeastTreeExists}
use Rattle.exact_tables.proofs.Built.{parts, fin-same, step_of, start-of, own-step}

-- ---- what is decided

pub by-bool : (b : Bool) → (b ≡ true) ⊎ (b ≡ false)
by-bool true = inl refl
by-bool false = inr refl

pub same-cost : (x y : Cost) → (x ≡ y) ⊎ (x ≡ y → ⊥)
same-cost (Fin a) (Fin b) = elim (by-bool (a == b)) [
  | inl q ↦ inl (ap Fin (eqb-true a b q))
  | inr q ↦ inr (λ e. both_ways (a == b) q (eq-eqb a b (fin-same a b e)))
]
same-cost (Fin a) Inf = inr (λ e. cc)
same-cost Inf (Fin b) = inr (λ e. cc)
same-cost Inf Inf = inl refl

-- where a member passes there is a first that does
pub first-of : {A : Type 0} (P : A → Type 0) → ((x : A) → P x ⊎ (P x → ⊥)) → (x : A) (xs : List A) → Member x xs → P x → (y : A) × IsFirst P y xs
first-of P dec x [] m p = elim m [ ]
first-of P dec x (y ∷ ys) m p = elim (dec y) [
  | inl h ↦ (y, inl (h, refl))
  | inr n ↦ elim m [
    | inl q ↦ absurd (n (subst P q p))
    | inr k ↦ (let t = first-of P dec x ys k p in (t.0, inr (n, t.1)))
  ]
]

-- a cost between two sums of which the first is at most the other
pub between : (cap : ℕ) (x c d e : Cost) → AtMost x (sum cap c d) → AtMost d e → x ≡ sum cap c e → x ≡ sum cap c d
between cap x c d e l h q = at_most-antisym x (sum cap c d) l (subst (AtMost (sum cap c d)) (sym q) (sum-mono cap c d e h))

-- an element with a document is declared
pub declared_of : (set : Declarations) (e : Chars) → HasDocument set e → (a : Content) × (content_in set e ≡ Some a)
declared_of set e h =
    let node = h.0 in
    let t = met set node.name node.atts node.items h.2.1.0 in
    (t.content, subst (λ (x : Chars). content_in set x ≡ Some t.content) h.2.0 t.declared)

pub told_step : (set : Declarations) (a b : Content) (i k : ℕ) (name : Chars) → content_in set name ≡ Some b → FollowsOn a i name k → Member (name, k) (steps_in set a i)
told_step set a b i k name d f = elim (steps_from set a i k name f) [
  | inl m ↦ m
  | inr q ↦ absurd (let w : Some b ≡ None = sym d ∙ q in cc)
]

module _ (set : Declarations) (cap : ℕ) (m : Chars → Cost) (p : Chars → ℕ → Cost) (kept : IsKept set) (X : AreExact set cap m p) where
  pub has_document : (e : Chars) (n : ℕ) → m e ≡ Fin n → HasDocument set e
  has_document e n q = elim (X.sizes e).1 [
    | inl z ↦ absurd (let w : Fin n ≡ Inf = sym q ∙ z in cc)
    | inr t ↦ (t.0, t.1, t.2)
  ]

  least-step : (n : ℕ) (e : Chars) (a : Content) (i : ℕ) → content_in set e ≡ Some a → n ≤ cap → p e i ≡ Fin n → (Accepts a i → ⊥)
      → (s : Chars × ℕ) × IsFirst (AttainsLeast set cap m p e i) s (steps_in set a i)
  least-step n e a i d l q nay = elim (X.sums e a i d).1 [
    | inl z ↦ absurd (let w : Fin n ≡ Inf = sym q ∙ z in cc)
    | inr t ↦ go t.0 t.1 t.2
  ]
    where
      go : (names : List Chars) → Runs a i names → p e i ≡ total cap m names → (s : Chars × ℕ) × IsFirst (AttainsLeast set cap m p e i) s (steps_in set a i)
      go [] r z = absurd (nay r)
      go (x ∷ xs) r z =
          let u = parts cap (m x) (total cap m xs) n l (sym z ∙ q) in
          let b = declared_of set x (has_document x u.0 u.2) in
          first-of (AttainsLeast set cap m p e i) (λ s. same-cost (p e i) (sum cap (m s.0) (p e s.1))) (x, r.0) (steps_in set a i)
          (told_step set a b.0 i r.0 x b.1 r.1)
          (between cap (p e i) (m x) (p e r.0) (total cap m xs) (own-step set cap m p kept X e x a i r.0 d r.1) ((X.sums e a r.0 d).0 (total cap m xs) (xs, r.2, refl)) z)

  -- the number is below the first one
  pub least-exists : (fuel n : ℕ) (e : Chars) (a : Content) (i : ℕ) → content_in set e ≡ Some a → n ≤ cap → n < fuel → p e i ≡ Fin n
      → (xs : Items) × LeastFrom set cap m p e a i xs
  least-exists zero n e a i d l k q = absurd (omega (arith, k))
  least-exists (suc fuel) n e a i d l k q = elim (by-bool (does_accept a i)) [
    | inl z ↦ (nothing, accept_to a i z)
    | inr z ↦
        let nay : Accepts a i → ⊥ = λ h. both_ways (does_accept a i) z (accept_from a i h) in
        let s = least-step n e a i d l q nay in
        let f = step_of set (AttainsLeast set cap m p e i) a i s.0.1 s.0.0 s.1 in
        let u = parts cap (m s.0.0) (p e s.0.1) n l (sym f.1 ∙ q) in
        let g = u.4 in
        let b = declared_of set s.0.0 (has_document s.0.0 u.0 u.2) in
        let t = start-of set cap m p kept X s.0.0 b.0 u.0 b.1 (omega (arith, g, l)) u.2 in
        let w = t.2 in
        let x = least-exists fuel t.0 s.0.0 b.0 0 b.1 (omega (arith, g, w, l)) (omega (arith, g, w, k)) t.1 in
        let y = least-exists fuel u.1 e a s.0.1 d (omega (arith, g, l)) (omega (arith, g, w, k)) u.3 in
        (element s.0.0 (required_of (attributes_in set s.0.0)) x.0 y.0, (s.0.1, b.0, nay, s.1, refl, b.1, x.1, y.1))
  ]

  pub least_top-exists : (n : ℕ) (e : Chars) → n ≤ cap → m e ≡ Fin n → (x : Items) × IsLeastTop set cap m p e (required_of (attributes_in set e)) x
  least_top-exists n e l q =
      let b = declared_of set e (has_document e n q) in
      let t = start-of set cap m p kept X e b.0 n b.1 l q in
      let w = t.2 in
      let x = least-exists (suc t.0) t.0 e b.0 0 b.1 (omega (arith, w, l)) (omega arith) t.1 in
      (x.0, (b.0, b.1, refl, x.1))

  -- an element has at least one
  pub one-more : (n : ℕ) (e : Chars) → n ≤ cap → m e ≡ Fin n → 1 ≤ n
  one-more n e l q =
      let b = declared_of set e (has_document e n q) in
      let w = (start-of set cap m p kept X e b.0 n b.1 l q).2 in
      omega (arith, w)

pub least_tree_exists : LeastTreeExists
least_tree_exists set cap m p kept X e n l q =
    let t = least_top-exists set cap m p kept X n e l q in
    (record { name = e; atts = required_of (attributes_in set e); items = t.0 }, (refl, t.1))
