-- What exact costs say of documents and of contents.
use Rattle.std.proofs.Common.{◌≡◌, List, [], ◌∷◌, ℕ, ◌+◌, ◌≤◌, min, inl, inr, refl, sym, ap, ◌∙◌, subst, arith}
use Rattle.std.specs.Prelude.{◌↔◌}
use Rattle.std.specs.List.{AllByRecursion}
use Rattle.content_models.specs.Model.{Chars}
use Rattle.document_trees.specs.Trees.{Node, size}
use Rattle.decl_set.specs.Declarations.{Declarations}
use Rattle.decl_set.specs.Validity.{IsSeparating, HasDocument}
use Rattle.decl_set.specs.Breaks.{ContentBreaks}
use Rattle.tree_costs.specs.declared.cost.Cost.{Cost}
use Rattle.tree_costs.specs.declared.cost.Cost.TheVariants.{Fin, Inf}
use Rattle.tree_costs.specs.Costs.{AtMost, cut, sum, total, IsLeast}
use Rattle.bound_checker.specs.Tabled.{Costs}
use Rattle.tree_costs.specs.Families.{OfDocument}
use Rattle.exact_tables.specs.Families.{OfSeparating, OfOddNames, IsExact}
use Rattle.exact_tables.specs.Verdicts.{DocumentsTold, IsLeastSeparating, IsOver, IsVerdict, VerdictTold, ContentTold}
use Rattle.bound_checker.proofs.Running.{runs-of, derives-of}
use Rattle.exact_tables.proofs.Closing.{start_listed}

fin-inf : (n : ℕ) → Fin n ≡ Inf → ⊥
fin-inf n q = cc

fin-same : (a b : ℕ) → Fin a ≡ Fin b → a ≡ b
fin-same a b q = cc

-- a least cost has no number exactly where the family has none
pub none_told : (L : Cost → Type 0) (c : Cost) → IsLeast L c → ((d : Cost) → L d → (n : ℕ) × (d ≡ Fin n)) → (c ≡ Inf) ↔ ((d : Cost) → L d → ⊥)
none_told L c h f = (
  (λ q d l. let t = f d l in subst (λ x. x) (ap (λ z. AtMost z (Fin t.0)) q) (subst (AtMost c) t.1 (h.0 d l))),
  (λ n. elim h.1 [ inl q ↦ q | inr l ↦ absurd (n c l) ]),
)

pub documents_told : DocumentsTold
documents_told first second cap c X e =
    let t = none_told (OfDocument cap first e) (c.m e) (X.m e) (λ d l. (min (size l.0) (cap + 1), l.3)) in (
      (λ q h. t.0 q (cut cap (size h.0)) (h.0, h.1, h.2, refl)),
      (λ n. t.1 (λ d l. n (l.0, l.1, l.2))),
    )

module _ (first second : Declarations) (cap : ℕ) (root : Chars) (v : Cost) (X : IsLeast (OfSeparating cap first second root) v) where
  below : (other : Node) → IsSeparating first second root other → AtMost v (cut cap (size other))
  below other s = X.0 (cut cap (size other)) (other, s, refl)

  least_to : (n : ℕ) → n ≤ cap → v ≡ Fin n → IsLeastSeparating first second root n
  least_to n l q = elim X.1 [
    | inl z ↦ absurd (fin-inf n (sym q ∙ z))
    | inr t ↦
        let e : n ≡ min (size t.0) (cap + 1) = fin-same n (min (size t.0) (cap + 1)) (sym q ∙ t.2) in
        (t.0, t.1, omega (arith, e, l), λ other s. (let b : n ≤ min (size other) (cap + 1) = subst (λ z. AtMost z (cut cap (size other))) q (below other s) in omega (arith, b)))
  ]

  over_to : v ≡ Fin (cap + 1) → IsOver first second root cap
  over_to q = elim X.1 [
    | inl z ↦ absurd (fin-inf (cap + 1) (sym q ∙ z))
    | inr t ↦ (t.0, t.1, λ other s. (let b : cap + 1 ≤ min (size other) (cap + 1) = subst (λ z. AtMost z (cut cap (size other))) q (below other s) in omega (arith, b)))
  ]

  -- v is the cut size of a separating document than which none is smaller up to the cap
  is_cut : (n : ℕ) → (node : Node) → IsSeparating first second root node → (min (size node) (cap + 1) ≤ n)
      → ((other : Node) → IsSeparating first second root other → n ≤ min (size other) (cap + 1)) → v ≡ Fin n
  is_cut n node s l h = elim X.1 [
    | inl z ↦ absurd (subst (λ k. AtMost k (cut cap (size node))) z (below node s))
    | inr t ↦ (let b : min (size t.0) (cap + 1) ≤ min (size node) (cap + 1) = subst (λ k. AtMost k (cut cap (size node))) t.2 (below node s) in
        let a = h t.0 t.1 in
        let e : min (size t.0) (cap + 1) ≡ n = omega (arith, a, b, l) in t.2 ∙ ap Fin e)
  ]

  pub verdict : IsVerdict first second cap root v
  verdict = record {
    subset = (let t = none_told (OfSeparating cap first second root) v X (λ d l. (min (size l.0) (cap + 1), l.2)) in
        ((λ q node s. t.0 q (cut cap (size node)) (node, s, refl)), (λ n. t.1 (λ d l. n l.0 l.1))));
    least = λ n l. (least_to n l, (λ t. is_cut n t.0 t.1 (omega (arith, t.2)) (λ other s. (let b = t.3 other s in omega (arith, b, l)))));
    over = (over_to, (λ t. is_cut (cap + 1) t.0 t.1 (omega arith) (λ other s. (let b = t.2 other s in omega (arith, b)))));
  }

pub verdict_told : VerdictTold
verdict_told first second cap c X root = verdict first second cap root (c.v root) (X.v root)

-- ---- contents

module _ (first second : Declarations) (cap : ℕ) (c : Costs) (X : IsExact first second cap c) where
  -- the sum over names has a number exactly where each name has a document
  names_have : (names : List Chars) (n : ℕ) → total cap c.m names ≡ Fin n → AllByRecursion (HasDocument first) names
  names_have [] n q = tt
  names_have (name ∷ names) n q = elim (X.m name).1 [
    | inl z ↦ absurd (fin-inf n (sym q ∙ ap (λ k. sum cap k (total cap c.m names)) z))
    | inr t ↦ ((t.0, t.1, t.2), rest (c.m name) (total cap c.m names) q (λ k h. names_have names k h))
  ]
    where
      rest : (x d : Cost) → sum cap x d ≡ Fin n → ((k : ℕ) → d ≡ Fin k → AllByRecursion (HasDocument first) names) → AllByRecursion (HasDocument first) names
      rest (Fin a) (Fin b) q h = h b refl
      rest (Fin a) Inf q h = absurd (fin-inf n (sym q))
      rest Inf d q h = absurd (fin-inf n (sym q))

  have_names : (names : List Chars) → AllByRecursion (HasDocument first) names → (n : ℕ) × (total cap c.m names ≡ Fin n)
  have_names [] h = (0, refl)
  have_names (name ∷ names) h = both (c.m name) (total cap c.m names) ((documents_told first second cap c X name).0) h.0 (have_names names h.1)
    where
      both : (x d : Cost) → (x ≡ Inf → HasDocument first name → ⊥) → HasDocument first name → ((k : ℕ) × (d ≡ Fin k)) → (n : ℕ) × (sum cap x d ≡ Fin n)
      both Inf d f t k = absurd (f refl t)
      both (Fin a) d f t k = (min (a + k.0) (cap + 1), ap (sum cap (Fin a)) k.1)

pub content_told : ContentTold
content_told first second cap c X e a b d s =
    let L = X.g e a b 0 0 d s (start_listed first a b) in (
      (λ q h.
          let t = have_names first second cap c X h.0 h.1 in
          let l = L.0 (total cap c.m h.0) (h.0, runs-of a h.0 h.2, (λ r. h.3 (derives-of b h.0 r)), refl) in
          subst (λ z. z) (ap (λ k. AtMost k (Fin t.0)) q) (subst (AtMost (c.g e 0 0)) t.1 l)),
      (λ n. elim L.1 [
        | inl q ↦ q
        | inr t ↦ by t (c.g e 0 0) refl n
      ]),
    )
  where
    by : OfOddNames cap c.m a b 0 0 (c.g e 0 0) → (x : Cost) → c.g e 0 0 ≡ x → (ContentBreaks first a b → ⊥) → c.g e 0 0 ≡ Inf
    by t Inf q n = q
    by t (Fin k) q n =
        absurd (n (t.0, names_have first second cap c X t.0 k (sym t.3 ∙ q), derives-of a t.0 t.1, (λ h. t.2 (runs-of b t.0 h))))
