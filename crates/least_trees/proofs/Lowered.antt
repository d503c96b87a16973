-- One pass of lowering, by induction on the rules.
use Rattle.std.proofs.Common.{◌≡◌, ◌≢◌, List, [], ◌∷◌, ℕ, ◌+◌, ◌≤◌, ◌<◌, min, length, get_or, set, refl, sym, ap, ◌∙◌, subst, arith, Bool, true, false, ◌&&◌, ◌||◌, not, cond, ◌⊎◌, inl, inr, true≢false}
use Rattle.std.proofs.lemmas.List.{get_or-set_same, get_or-set_other, length-set}
use Rattle.std.proofs.lemmas.Bool.{cases_eq, cases_lt, eqb-true, eq-eqb}
use Rattle.std.proofs.Common.{◌==◌, if◌then◌else◌}
use Rattle.tree_costs.specs.declared.cost.Cost.{Cost}
use Rattle.tree_costs.specs.declared.cost.Cost.TheVariants.{Fin, Inf}
use Rattle.tree_costs.specs.Costs.{sum, AtMost, IsSmall}
use Rattle.tree_costs.proofs.Costs.{at_most-refl, at_most-inf, at_most-trans}
use Rattle.least_trees.specs.declared.rules.Rule.{Rule}
use Rattle.least_trees.specs.Rules.{InRange, AllIn, lesser, at, is_done, sum_of, relaxed, applies, lower_all, Member, Lowers}

pub lesser-left : (c d : Cost) → AtMost (lesser c d) c
lesser-left (Fin a) (Fin b) = omega arith
lesser-left (Fin a) Inf = at_most-refl (Fin a)
lesser-left Inf d = at_most-inf d

pub lesser-right : (c d : Cost) → AtMost (lesser c d) d
lesser-right (Fin a) (Fin b) = omega arith
lesser-right (Fin a) Inf = tt
lesser-right Inf d = at_most-refl d

pub lesser-one : (c d : Cost) → (lesser c d ≡ d) ⊎ (lesser c d ≡ c)
lesser-one (Fin a) (Fin b) = elim (cases_lt a b) [
  | inl h ↦ inr (let e : min a b ≡ a = omega arith in ap Fin e)
  | inr h ↦ inl (let e : min a b ≡ b = omega arith in ap Fin e)
]
lesser-one (Fin a) Inf = inr refl
lesser-one Inf d = inl refl

abbrev pub Applies : List Bool → ℕ → Rule → Type 0
Applies done x r = (is_done done r.left ≡ true) × (is_done done r.right ≡ true) × (is_done done r.target ≡ false) × ((r.left ≡ x) ⊎ (r.right ≡ x))

parts : (p q c d e : Bool) → ((p || q) && (c && (d && not e))) ≡ true → (c ≡ true) × (d ≡ true) × (e ≡ false) × ((p ≡ true) ⊎ (q ≡ true))
parts true q true true false h = (refl, refl, refl, inl refl)
parts false true true true false h = (refl, refl, refl, inr refl)
parts true q false d e h = absurd (true≢false (sym h))
parts true q true false e h = absurd (true≢false (sym h))
parts true q true true true h = absurd (true≢false (sym h))
parts false false c d e h = absurd (true≢false (sym h))
parts false true false d e h = absurd (true≢false (sym h))
parts false true true false e h = absurd (true≢false (sym h))
parts false true true true true h = absurd (true≢false (sym h))

pub applies-parts : (done : List Bool) (x : ℕ) (r : Rule) → applies done x r ≡ true → Applies done x r
applies-parts done x r h =
    let t = parts (r.left == x) (r.right == x) (is_done done r.left) (is_done done r.right) (is_done done r.target) h in
    (t.0, t.1, t.2, elim t.3 [ inl e ↦ inl (eqb-true r.left x e) | inr e ↦ inr (eqb-true r.right x e) ])

from-parts : (p q : Bool) → (p ≡ true) ⊎ (q ≡ true) → ((p || q) && (true && (true && not false))) ≡ true
from-parts true q h = refl
from-parts false true h = refl
from-parts false false (inl h) = h
from-parts false false (inr h) = h

pub parts-apply : (done : List Bool) (x : ℕ) (r : Rule) → Applies done x r → applies done x r ≡ true
parts-apply done x r t =
    ap (λ k. (r.left == x || r.right == x) && (k && (is_done done r.right && not (is_done done r.target)))) t.0
    ∙ ap (λ k. (r.left == x || r.right == x) && (true && (k && not (is_done done r.target)))) t.1
    ∙ ap (λ k. (r.left == x || r.right == x) && (true && (true && not k))) t.2
    ∙ from-parts (r.left == x) (r.right == x) (elim t.3 [ inl e ↦ inl (eq-eqb r.left x e) | inr e ↦ inr (eq-eqb r.right x e) ])

module _ (cap : ℕ) (done : List Bool) (x : ℕ) where
  -- one rule that applies
  pub at-other : (r : Rule) (costs : List Cost) (y : ℕ) → (y ≡ r.target → ⊥) → at (relaxed cap r costs) y ≡ at costs y
  unfolding relaxed
  at-other r costs y n = get_or-set_other costs r.target y (lesser (sum_of cap costs r) (at costs r.target)) Inf n

  pub at-target : (r : Rule) (costs : List Cost) → r.target < length costs → at (relaxed cap r costs) r.target ≡ lesser (sum_of cap costs r) (at costs r.target)
  unfolding relaxed
  at-target r costs h = get_or-set_same costs r.target (lesser (sum_of cap costs r) (at costs r.target)) Inf h

  pub length-relaxed : (r : Rule) (costs : List Cost) → length (relaxed cap r costs) ≡ length costs
  unfolding relaxed
  length-relaxed r costs = length-set costs r.target (lesser (sum_of cap costs r) (at costs r.target))

  differ : (r : Rule) (y : ℕ) → applies done x r ≡ true → is_done done y ≡ true → y ≡ r.target → ⊥
  differ r y h d e = true≢false (sym d ∙ ap (is_done done) e ∙ (applies-parts done x r h).2)

  fixed : (r : Rule) (costs : List Cost) (y : ℕ) → applies done x r ≡ true → is_done done y ≡ true → at (relaxed cap r costs) y ≡ at costs y
  fixed r costs y h d = at-other r costs y (differ r y h d)

  same-sum : (r s : Rule) (costs : List Cost) → applies done x r ≡ true → applies done x s ≡ true → sum_of cap (relaxed cap r costs) s ≡ sum_of cap costs s
  same-sum r s costs h g =
      let p = applies-parts done x s g in
      ap (λ k. sum cap k (at (relaxed cap r costs) s.right)) (fixed r costs s.left h p.0)
      ∙ ap (λ k. sum cap (at costs s.left) k) (fixed r costs s.right h p.1)

  pass : (r : Rule) (rs : List Rule) (costs new : List Cost) → r.target < length costs → applies done x r ≡ true
      → Lowers cap done x rs (relaxed cap r costs) new → Lowers cap done x (r ∷ rs) costs new
  pass r rs costs new lt h L = record {
    length_same = L.length_same ∙ length-relaxed r costs;
    lower = λ y. elim (cases_eq y r.target) [
      | inl e ↦ at_most-trans (at new y) (at (relaxed cap r costs) y) (at costs y) (L.lower y)
          (subst (λ k. AtMost (at (relaxed cap r costs) k) (at costs k)) (sym e)
          (subst (λ k. AtMost k (at costs r.target)) (sym (at-target r costs lt)) (lesser-right (sum_of cap costs r) (at costs r.target))))
      | inr n ↦ subst (AtMost (at new y)) (at-other r costs y n) (L.lower y)
    ];
    settled = λ y d. L.settled y d ∙ fixed r costs y h d;
    from = λ y. elim (L.from y) [
      | inr t ↦ inr (t.0, inr t.1, t.2, t.3, t.4 ∙ same-sum r t.0 costs h t.2)
      | inl e ↦ elim (cases_eq y r.target) [
        | inr n ↦ inl (e ∙ at-other r costs y n)
        | inl q ↦
            let v : at new y ≡ lesser (sum_of cap costs r) (at costs r.target) = e ∙ ap (at (relaxed cap r costs)) q ∙ at-target r costs lt in
            elim (lesser-one (sum_of cap costs r) (at costs r.target)) [
              | inl w ↦ inl (v ∙ w ∙ ap (at costs) (sym q))
              | inr w ↦ inr (r, inl refl, h, sym q, v ∙ w)
            ]
      ]
    ];
    sums = λ s m g. elim m [
      | inl e ↦ subst (λ k. AtMost (at new k.target) (sum_of cap costs k)) (sym e)
          (at_most-trans (at new r.target) (at (relaxed cap r costs) r.target) (sum_of cap costs r) (L.lower r.target)
          (subst (λ k. AtMost k (sum_of cap costs r)) (sym (at-target r costs lt)) (lesser-left (sum_of cap costs r) (at costs r.target))))
      | inr k ↦ subst (AtMost (at new s.target)) (same-sum r s costs h g) (L.sums s k g)
    ];
  }

  skip : (r : Rule) (rs : List Rule) (costs new : List Cost) → applies done x r ≡ false
      → Lowers cap done x rs costs new → Lowers cap done x (r ∷ rs) costs new
  skip r rs costs new h L = record {
    length_same = L.length_same;
    lower = L.lower;
    settled = L.settled;
    from = λ y. elim (L.from y) [ inl e ↦ inl e | inr t ↦ inr (t.0, inr t.1, t.2, t.3, t.4) ];
    sums = λ s m g. elim m [
      | inl e ↦ absurd (true≢false (sym g ∙ ap (applies done x) e ∙ h))
      | inr k ↦ L.sums s k g
    ];
  }

  go : (r : Rule) (rs : List Rule) (costs : List Cost) (b : Bool) → applies done x r ≡ b → r.target < length costs
      → ((c : List Cost) → length c ≡ length costs → Lowers cap done x rs c (lower_all cap done x rs c))
      → Lowers cap done x (r ∷ rs) costs (lower_all cap done x rs (cond b (relaxed cap r costs) costs))
  go r rs costs true h lt rec = pass r rs costs (lower_all cap done x rs (relaxed cap r costs)) lt h (rec (relaxed cap r costs) (length-relaxed r costs))
  go r rs costs false h lt rec = skip r rs costs (lower_all cap done x rs costs) h (rec costs refl)

  pub lowers : (rules : List Rule) (costs : List Cost) → AllIn (length costs) rules → Lowers cap done x rules costs (lower_all cap done x rules costs)
  lowers [] costs h = record { length_same = refl; lower = λ y. at_most-refl (at costs y); settled = λ y d. refl; from = λ y. inl refl; sums = λ r m g. elim m [ ] }
  lowers (r ∷ rs) costs h = go r rs costs (applies done x r) refl h.0.0 (λ c e. lowers rs c (subst (λ k. AllIn k rs) (sym e) h.1))
