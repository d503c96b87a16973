-- A turn keeps what the solver keeps, takes each sum once, and at the end the costs are the least.
use Rattle.std.proofs.Common.{◌≡◌, ◌≢◌, List, [], ◌∷◌, ℕ, ◌+◌, ◌≤◌, ◌<◌, min, length, get_or, set, refl, sym, ap, ◌∙◌, subst, arith, Bool, true, false, ◌&&◌, ◌||◌, not, cond, ◌⊎◌, inl, inr, true≢false, ◌==◌, if◌then◌else◌}
use Rattle.std.proofs.lemmas.List.{get_or-set_same, get_or-set_other, length-set}
use Rattle.std.proofs.lemmas.Bool.{cases_eq, cases_lt, eqb-true}
use Rattle.tree_costs.specs.declared.cost.Cost.{Cost}
use Rattle.tree_costs.specs.declared.cost.Cost.TheVariants.{Fin, Inf}
use Rattle.tree_costs.specs.Costs.{sum, AtMost, IsSmall}
use Rattle.tree_costs.proofs.Costs.{at_most-refl, at_most-inf, at_most-trans}
use Rattle.least_trees.specs.declared.rules.Rule.{Rule}
use Rattle.least_trees.specs.Rules.{InRange, AllIn, lesser, at, is_done, sum_of, relaxed, applies, lower_all, Member, Lowers, applied}
use Rattle.least_trees.specs.Solving.{Kept, IsLowest, OfSpot, Built, start, by, root, value, IsBuilt, both, pending}
use Rattle.least_trees.proofs.Lowered.{Applies, applies-parts, parts-apply, lowers}

sum-left : (cap : ℕ) (c d : Cost) → IsSmall cap c → AtMost c (sum cap c d)
sum-left cap Inf d s = at_most-refl Inf
sum-left cap (Fin a) Inf s = tt
sum-left cap (Fin a) (Fin b) (inr h) = omega arith
sum-left cap (Fin a) (Fin b) (inl e) = cc

sum-right : (cap : ℕ) (c d : Cost) → IsSmall cap d → AtMost d (sum cap c d)
sum-right cap (Fin a) Inf s = tt
sum-right cap Inf Inf s = tt
sum-right cap Inf (Fin b) s = tt
sum-right cap (Fin a) (Fin b) (inr h) = omega arith
sum-right cap (Fin a) (Fin b) (inl e) = cc

sum-small : (cap : ℕ) (c d : Cost) → IsSmall cap (sum cap c d)
sum-small cap (Fin a) (Fin b) = inr (omega arith)
sum-small cap (Fin a) Inf = inl refl
sum-small cap Inf d = inl refl

pub sum-le : (cap : ℕ) (a b c d : Cost) → AtMost a c → AtMost b d → AtMost (sum cap a b) (sum cap c d)
sum-le cap (Fin a) (Fin b) (Fin c) (Fin d) h g = omega arith
sum-le cap a b Inf d h g = at_most-inf (sum cap a b)
sum-le cap a b (Fin c) Inf h g = at_most-inf (sum cap a b)
sum-le cap Inf b (Fin c) (Fin d) h g = elim h [ ]
sum-le cap (Fin a) Inf (Fin c) (Fin d) h g = elim g [ ]

by-bool : (b : Bool) → (b ≡ true) ⊎ (b ≡ false)
by-bool true = inl refl
by-bool false = inr refl

-- x becomes settled
mark-x : (done : List Bool) (x : ℕ) → x < length done → is_done (set done x true) x ≡ true
mark-x done x h = get_or-set_same done x true false h

mark-other : (done : List Bool) (x y : ℕ) → (y ≡ x → ⊥) → is_done (set done x true) y ≡ is_done done y
mark-other done x y n = get_or-set_other done x y true false n

marks : (done : List Bool) (x y : ℕ) → is_done (set done x true) y ≡ true → (is_done done y ≡ true) ⊎ (y ≡ x)
marks done x y h = elim (cases_eq y x) [ inl e ↦ inr e | inr n ↦ inl (sym (mark-other done x y n) ∙ h) ]

stays : (done : List Bool) (x y : ℕ) → x < length done → is_done (set done x true) y ≡ false → is_done done y ≡ false
stays done x y h f = elim (cases_eq y x) [
  | inl e ↦ absurd (true≢false (sym (mark-x done x h) ∙ ap (is_done (set done x true)) (sym e) ∙ f))
  | inr n ↦ sym (mark-other done x y n) ∙ f
]

module _ (cap : ℕ) (rules : List Rule) (starts : List Cost) (done : List Bool) (costs costs' : List Cost) (x : ℕ) where
  abbrev done' : List Bool
  done' = set done x true

  module _ (K : Kept cap rules starts done costs) (within : x < length done) (open_x : is_done done x ≡ false)
      (least : (y : ℕ) → is_done done y ≡ false → AtMost (at costs x) (at costs y)) (L : Lowers cap done' x rules costs costs') where
    -- a sum with x among its parts is no smaller than x
    above : (r : Rule) → applies done' x r ≡ true → AtMost (at costs x) (sum_of cap costs r)
    above r h = elim (applies-parts done' x r h).3 [
      | inl e ↦ subst (λ k. AtMost (at costs k) (sum_of cap costs r)) e (sum-left cap (at costs r.left) (at costs r.right) (K.small r.left))
      | inr e ↦ subst (λ k. AtMost (at costs k) (sum_of cap costs r)) e (sum-right cap (at costs r.left) (at costs r.right) (K.small r.right))
    ]

    settled : (y : ℕ) → is_done done' y ≡ true → AtMost (at costs y) (at costs x)
    settled y d = elim (marks done x y d) [
      | inl q ↦ K.ordered y x q open_x
      | inr q ↦ subst (λ k. AtMost (at costs y) (at costs k)) q (at_most-refl (at costs y))
    ]

    still-ordered : (y z : ℕ) → is_done done' y ≡ true → is_done done' z ≡ false → AtMost (at costs' y) (at costs' z)
    still-ordered y z d o =
        subst (λ k. AtMost k (at costs' z)) (sym (L.settled y d)) (at_most-trans (at costs y) (at costs x) (at costs' z) (settled y d)
        (elim (L.from z) [
          | inl e ↦ subst (AtMost (at costs x)) (sym e) (least z (stays done x z within o))
          | inr t ↦ subst (AtMost (at costs x)) (sym t.4) (above t.0 t.2)
        ]))

    still-attained : (y : ℕ) → OfSpot cap rules starts y (at costs' y)
    still-attained y = elim (L.from y) [
      | inl e ↦ subst (OfSpot cap rules starts y) (sym e) (K.attained y)
      | inr t ↦
          let a = K.attained t.0.left in
          let b = K.attained t.0.right in (
            by t.0 a.0 b.0,
            t.3,
            (t.1, a.1, b.1, a.2, b.2),
            t.4 ∙ ap (λ k. sum cap k (at costs t.0.right)) a.3 ∙ ap (λ k. sum cap (value cap starts a.0) k) b.3,
          )
    ]

    still-small : (y : ℕ) → IsSmall cap (at costs' y)
    still-small y = elim (L.from y) [
      | inl e ↦ subst (IsSmall cap) (sym e) (K.small y)
      | inr t ↦ subst (IsSmall cap) (sym t.4) (sum-small cap (at costs t.0.left) (at costs t.0.right))
    ]

    -- the sum of a rule whose parts are now settled
    new-sum : (r : Rule) → Member r rules → is_done done' r.left ≡ true → is_done done' r.right ≡ true → (r.left ≡ x) ⊎ (r.right ≡ x)
        → AtMost (at costs' r.target) (sum_of cap costs r)
    new-sum r m d f e = elim (by-bool (is_done done' r.target)) [
      | inl s ↦ subst (λ k. AtMost k (sum_of cap costs r)) (sym (L.settled r.target s))
          (at_most-trans (at costs r.target) (at costs x) (sum_of cap costs r) (settled r.target s)
          (elim e [
            | inl q ↦ subst (λ k. AtMost (at costs k) (sum_of cap costs r)) q (sum-left cap (at costs r.left) (at costs r.right) (K.small r.left))
            | inr q ↦ subst (λ k. AtMost (at costs k) (sum_of cap costs r)) q (sum-right cap (at costs r.left) (at costs r.right) (K.small r.right))
          ]))
      | inr s ↦ L.sums r m (parts-apply done' x r (d, f, s, e))
    ]

    still-sums : (r : Rule) → Member r rules → is_done done' r.left ≡ true → is_done done' r.right ≡ true → AtMost (at costs' r.target) (sum_of cap costs' r)
    still-sums r m d f =
        subst (λ k. AtMost (at costs' r.target) (sum cap k (at costs' r.right))) (sym (L.settled r.left d))
        (subst (λ k. AtMost (at costs' r.target) (sum cap (at costs r.left) k)) (sym (L.settled r.right f))
        (elim (marks done x r.left d) [
          | inr q ↦ new-sum r m d f (inl q)
          | inl q ↦ elim (marks done x r.right f) [
            | inr s ↦ new-sum r m d f (inr s)
            | inl s ↦ at_most-trans (at costs' r.target) (at costs r.target) (sum_of cap costs r) (L.lower r.target) (K.sums r m q s)
          ]
        ]))

    pub turn : Kept cap rules starts done' costs'
    turn = record {
      length_same = L.length_same ∙ K.length_same;
      attained = still-attained;
      small = still-small;
      below_start = λ y. at_most-trans (at costs' y) (at costs y) (at starts y) (L.lower y) (K.below_start y);
      ordered = still-ordered;
      sums = still-sums;
    }

-- each sum is taken once
count-one : (a b' b : Bool) → (a ≡ true → (b' ≡ true) × (b ≡ false)) → (b ≡ true → b' ≡ true)
    → (if a then 1 else 0) + (if b' then 0 else 1) ≤ (if b then 0 else 1)
count-one true true false f g = omega arith
count-one true true true f g = absurd (true≢false ((f refl).1))
count-one true false b f g = absurd (true≢false (sym (f refl).0))
count-one false true b f g = elim (by-bool b) [ inl e ↦ grind arith | inr e ↦ grind arith ]
count-one false false true f g = absurd (true≢false (sym (g refl)))
count-one false false false f g = omega arith

and-left : (a b : Bool) → (a && b) ≡ true → a ≡ true
and-left true b h = refl
and-left false b h = h

and-right : (a b : Bool) → (a && b) ≡ true → b ≡ true
and-right true b h = h
and-right false b h = absurd (true≢false (sym h))

and-both : (a b : Bool) → a ≡ true → b ≡ true → (a && b) ≡ true
and-both a b e f = ap (λ k. k && b) e ∙ f

and-false : (a b : Bool) → (a ≡ false) ⊎ (b ≡ false) → (a && b) ≡ false
and-false true b (inl h) = absurd (true≢false h)
and-false true b (inr h) = h
and-false false b h = refl

module _ (done : List Bool) (x : ℕ) (h : x < length done) (o : is_done done x ≡ false) where
  keeps : (y : ℕ) → is_done done y ≡ true → is_done (set done x true) y ≡ true
  keeps y d = elim (cases_eq y x) [
    | inl e ↦ ap (is_done (set done x true)) e ∙ mark-x done x h
    | inr n ↦ mark-other done x y n ∙ d
  ]

  one-rule : (r : Rule) → (if applies (set done x true) x r then 1 else 0) + (if both (set done x true) r then 0 else 1) ≤ (if both done r then 0 else 1)
  one-rule r = count-one (applies (set done x true) x r) (both (set done x true) r) (both done r)
      (λ a.
      let t = applies-parts (set done x true) x r a in (
        and-both (is_done (set done x true) r.left) (is_done (set done x true) r.right) t.0 t.1,
        and-false (is_done done r.left) (is_done done r.right)
            (elim t.3 [ inl e ↦ inl (ap (is_done done) e ∙ o) | inr e ↦ inr (ap (is_done done) e ∙ o) ]),
      ))
      (λ b. and-both (is_done (set done x true) r.left) (is_done (set done x true) r.right)
      (keeps r.left (and-left (is_done done r.left) (is_done done r.right) b)) (keeps r.right (and-right (is_done done r.left) (is_done done r.right) b)))

  pub once : (rules : List Rule) → applied (set done x true) x rules + pending (set done x true) rules ≤ pending done rules
  once [] = omega arith
  once (r ∷ rs) = omega (arith, one-rule r, once rs)

-- at the end what is not settled is Inf
module _ (cap : ℕ) (rules : List Rule) (starts : List Cost) (done : List Bool) (costs : List Cost) (K : Kept cap rules starts done costs)
    (end : (y : ℕ) → is_done done y ≡ false → at costs y ≡ Inf) where
  closed : (r : Rule) → Member r rules → AtMost (at costs r.target) (sum_of cap costs r)
  closed r m = elim (by-bool (is_done done r.left)) [
    | inr f ↦ subst (λ k. AtMost (at costs r.target) (sum cap k (at costs r.right))) (sym (end r.left f)) (at_most-inf (at costs r.target))
    | inl d ↦ elim (by-bool (is_done done r.right)) [
      | inr f ↦ subst (λ k. AtMost (at costs r.target) (sum cap (at costs r.left) k)) (sym (end r.right f))
          (at_most-trans (at costs r.target) Inf (sum cap (at costs r.left) Inf) (at_most-inf (at costs r.target)) (sum-right cap (at costs r.left) Inf (inl refl)))
      | inl e ↦ K.sums r m d e
    ]
  ]

  best : (t : Built) → IsBuilt rules t → AtMost (at costs (root t)) (value cap starts t)
  best (start y) b = K.below_start y
  best (by r s t) b =
      at_most-trans (at costs r.target) (sum_of cap costs r) (sum cap (value cap starts s) (value cap starts t)) (closed r b.0)
      (sum-le cap (at costs r.left) (at costs r.right) (value cap starts s) (value cap starts t)
      (subst (λ k. AtMost (at costs k) (value cap starts s)) b.1 (best s b.3))
      (subst (λ k. AtMost (at costs k) (value cap starts t)) b.2 (best t b.4)))

  pub finish : IsLowest cap rules starts costs
  finish = record {
    length_same = K.length_same;
    attained = K.attained;
    below_start = K.below_start;
    closed = closed;
    least = best;
  }
