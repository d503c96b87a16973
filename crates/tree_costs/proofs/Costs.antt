-- Costs: order, sums and bounds.
use Rattle.std.proofs.Common.{◌≡◌, List, [], ◌∷◌, ℕ, ◌+◌, ◌≤◌, min, ◌⊎◌, inl, inr, refl, sym, ap, subst, arith, IsTrue, true≢false}
use Rattle.std.specs.Prelude.{◌↔◌}
use Rattle.std.proofs.lemmas.Bool.{cases_lt, leb-true, le-leb}
use Rattle.tree_costs.specs.declared.cost.Cost.{Cost}
use Rattle.tree_costs.specs.declared.cost.Cost.TheVariants.{Fin, Inf}
use Rattle.tree_costs.specs.Laws.{OrderByTest}
use Rattle.tree_costs.specs.Costs.{Bounds, AtMost, at_most, cut, sum, total, IsSmall, IsLeast}

pub bounds-below : (c d : Cost) (n : ℕ) → AtMost c d → Bounds d n → Bounds c n
bounds-below (Fin a) (Fin b) n l h = omega arith
bounds-below (Fin a) Inf n l h = elim h [ ]
bounds-below Inf (Fin b) n l h = elim l [ ]
bounds-below Inf Inf n l h = elim h [ ]

pub bounds-sum : (cap : ℕ) (c d : Cost) (n k : ℕ) → Bounds c n → Bounds d k → Bounds (sum cap c d) (n + k)
bounds-sum cap (Fin a) (Fin b) n k h g = omega arith
bounds-sum cap (Fin a) Inf n k h g = elim g [ ]
bounds-sum cap Inf d n k h g = elim h [ ]

-- a cost below a sum bounds what its parts bound together
pub bounds-step : (cap : ℕ) (x c d : Cost) (n k : ℕ) → AtMost x (sum cap c d) → Bounds c n → Bounds d k → Bounds x (n + k)
bounds-step cap x c d n k l h g = bounds-below x (sum cap c d) (n + k) l (bounds-sum cap c d n k h g)

pub bounds-stable : (c : Cost) (n : ℕ) → ((Bounds c n → ⊥) → ⊥) → Bounds c n
bounds-stable (Fin k) n h = elim (cases_lt n k) [ inl l ↦ absurd (h (λ b. omega arith)) | inr l ↦ l ]
bounds-stable Inf n h = h (λ b. b)

pub at_most-refl : (c : Cost) → AtMost c c
at_most-refl (Fin a) = omega arith
at_most-refl Inf = tt

pub at_most-inf : (c : Cost) → AtMost c Inf
at_most-inf (Fin a) = tt
at_most-inf Inf = tt

pub at_most-trans : (c d e : Cost) → AtMost c d → AtMost d e → AtMost c e
at_most-trans c d Inf h g = at_most-inf c
at_most-trans (Fin a) (Fin b) (Fin k) h g = omega arith
at_most-trans Inf (Fin b) (Fin k) h g = elim h [ ]
at_most-trans c Inf (Fin k) h g = elim g [ ]

pub at_most-antisym : (c d : Cost) → AtMost c d → AtMost d c → c ≡ d
at_most-antisym (Fin a) (Fin b) h g = let e : a ≡ b = omega arith in ap Fin e
at_most-antisym (Fin a) Inf h g = elim g [ ]
at_most-antisym Inf (Fin b) h g = elim h [ ]
at_most-antisym Inf Inf h g = refl

pub at_most-stable : (c d : Cost) → ((AtMost c d → ⊥) → ⊥) → AtMost c d
at_most-stable c Inf h = at_most-inf c
at_most-stable (Fin k) (Fin n) h = elim (cases_lt n k) [ inl l ↦ absurd (h (λ b. omega arith)) | inr l ↦ l ]
at_most-stable Inf (Fin n) h = h (λ b. b)

pub sum-mono : (cap : ℕ) (c d e : Cost) → AtMost d e → AtMost (sum cap c d) (sum cap c e)
sum-mono cap (Fin a) (Fin b) (Fin c) h = omega arith
sum-mono cap (Fin a) Inf (Fin c) h = elim h [ ]
sum-mono cap (Fin a) d Inf h = at_most-inf (sum cap (Fin a) d)
sum-mono cap Inf d e h = at_most-refl Inf

-- ---- least costs

-- a least cost is at most what is of the family or Inf
pub least-below : (L : Cost → Type 0) (c d : Cost) → IsLeast L c → (d ≡ Inf) ⊎ L d → AtMost c d
least-below L c d h (inl e) = subst (AtMost c) (sym e) (at_most-inf c)
least-below L c d h (inr l) = h.0 d l

pub least-one : (L : Cost → Type 0) (c d : Cost) → IsLeast L c → IsLeast L d → c ≡ d
least-one L c d h g = at_most-antisym c d (least-below L c d h g.1) (least-below L d c g h.1)

-- ---- sums

pub sum-inf : (cap : ℕ) (c : Cost) → sum cap c Inf ≡ Inf
sum-inf cap (Fin a) = refl
sum-inf cap Inf = refl

pub sum-cut : (cap n k : ℕ) → sum cap (cut cap n) (cut cap k) ≡ cut cap (n + k)
sum-cut cap n k = let e : min (min n (cap + 1) + min k (cap + 1)) (cap + 1) ≡ min (n + k) (cap + 1) = omega arith in ap Fin e

pub one-cut : (cap k : ℕ) → sum cap (Fin 1) (cut cap k) ≡ cut cap (1 + k)
one-cut cap k = let e : min (1 + min k (cap + 1)) (cap + 1) ≡ min (1 + k) (cap + 1) = omega arith in ap Fin e

pub cut-zero : (cap : ℕ) → Fin 0 ≡ cut cap 0
cut-zero cap = let e : 0 ≡ min 0 (cap + 1) = omega arith in ap Fin e

pub zero-least : (c : Cost) → AtMost (Fin 0) c
zero-least (Fin a) = omega arith
zero-least Inf = tt

-- ---- small costs

pub cut-is : (cap n : ℕ) → IsSmall cap (cut cap n)
cut-is cap n = inr (let h : min n (cap + 1) ≤ cap + 1 = omega arith in h)

pub sum-is : (cap : ℕ) (c d : Cost) → IsSmall cap (sum cap c d)
sum-is cap (Fin a) (Fin b) = cut-is cap (a + b)
sum-is cap (Fin a) Inf = inl refl
sum-is cap Inf d = inl refl

pub total-is : {A : Type 0} (cap : ℕ) (m : A → Cost) (xs : List A) → IsSmall cap (total cap m xs)
total-is cap m [] = inr (let h : 0 ≤ cap + 1 = omega arith in h)
total-is cap m (x ∷ xs) = sum-is cap (m x) (total cap m xs)

-- what bounds a size is at most it, cut
pub below-cut : (cap : ℕ) (c : Cost) (n : ℕ) → IsSmall cap c → Bounds c n → AtMost c (cut cap n)
below-cut cap (Fin k) n (inl e) b = cc
below-cut cap (Fin k) n (inr h) b = omega arith
below-cut cap Inf n s b = elim b [ ]

-- none, or cut
pub attained-is : (cap : ℕ) (c : Cost) → (c ≡ Inf) ⊎ ((n : ℕ) × (c ≡ cut cap n)) → IsSmall cap c
attained-is cap c (inl e) = inl e
attained-is cap c (inr t) = subst (IsSmall cap) (sym t.1) (cut-is cap t.0)

-- ---- the test

pub order_to : (c d : Cost) → IsTrue (at_most c d) → AtMost c d
order_to (Fin a) (Fin b) h = leb-true a b h
order_to Inf (Fin b) h = absurd (true≢false (sym h))
order_to (Fin a) Inf h = tt
order_to Inf Inf h = tt

pub order_from : (c d : Cost) → AtMost c d → IsTrue (at_most c d)
order_from (Fin a) (Fin b) h = le-leb a b h
order_from Inf (Fin b) h = elim h [ ]
order_from (Fin a) Inf h = refl
order_from Inf Inf h = refl

pub order_by_test : OrderByTest
order_by_test c d = (order_to c d, order_from c d)
