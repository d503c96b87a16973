-- Rows say what the spots do.
use Rattle.std.proofs.Common.{◌≡◌, ◌≤◌, ◌<◌, ◌+◌, ◌⊎◌, ◌&&◌, ℕ, zero, suc, List, [], ◌∷◌, ◌++◌, length, map, min, take, drop, get_or, Bool, true, false, cond, Option, Some, None, slice_get, inl, inr, refl, sym, ap, ◌∙◌, subst, arith, true≢false, nat_lt}
use Rattle.std.specs.Prelude.{option_and_then}
use Rattle.std.specs.Option.{option_map_or}
use Rattle.std.proofs.lemmas.List.{length-map, length-take, length-drop, get_or-take, get_or-drop, get_or-map, get_or_past, length_push}
use Rattle.std.proofs.lemmas.Bool.{cases_eq, cases_lt, ltb-true, ltb-false, lt-ltb, le-ltb}
use mathlib.Core.Path.{fun_ext}
use Rattle.tree_costs.specs.declared.cost.Cost.{Cost}
use Rattle.tree_costs.specs.declared.cost.Cost.TheVariants.{Inf}
use Rattle.tree_costs.specs.Graphs.{IsSolved}
use Rattle.tree_costs.specs.Numbered.{graph_of}
use Rattle.least_trees.specs.declared.settled.SettledRow.{SettledRow}
use Rattle.least_trees.specs.Plans.{Plan}
use Rattle.least_trees.specs.Rules.{at}
use Rattle.least_trees.specs.Rows.{m_in, p_in, m_of, p_of, IsCut, IsRowOf, AreRows, AreExact, IsSettled}
use Rattle.least_trees.specs.Spots.{base}
use Rattle.least_trees.proofs.Origins.{below-mono}
use Rattle.least_trees.proofs.Relax.{at-map}

-- ---- places in lists

pub got : {V : Type 0} (xs : List V) (i : ℕ) → i < length xs → (v : V) × (slice_get xs i ≡ Some v) × ((d : V) → get_or xs i d ≡ v)
got [] i h = absurd (omega arith)
got (x ∷ xs) zero h = (x, refl, λ d. refl)
got (x ∷ xs) (suc i) h = got xs i (omega arith)

pub past : {V : Type 0} (xs : List V) (i : ℕ) → length xs ≤ i → slice_get xs i ≡ None
past [] zero h = refl
past [] (suc i) h = refl
past (x ∷ xs) zero h = absurd (omega arith)
past (x ∷ xs) (suc i) h = past xs i (omega arith)

pub got_left : {V : Type 0} (xs : List V) (x : V) (i : ℕ) → i < length xs → slice_get (xs ++ x ∷ []) i ≡ slice_get xs i
got_left [] x i h = absurd (omega arith)
got_left (y ∷ xs) x zero h = refl
got_left (y ∷ xs) x (suc i) h = got_left xs x i (omega arith)

pub got_last : {V : Type 0} (xs : List V) (x : V) (i : ℕ) → length xs ≡ i → slice_get (xs ++ x ∷ []) i ≡ Some x
got_last [] x zero h = refl
got_last [] x (suc i) h = absurd (omega arith)
got_last (y ∷ xs) x zero h = absurd (omega arith)
got_last (y ∷ xs) x (suc i) h = got_last xs x i (omega arith)

-- ---- one more row

pub rows_more : {V : Type 0} (plan : Plan) (values : List V) (n : ℕ) (rows : List (SettledRow V)) (row : SettledRow V) → AreRows plan values n rows
    → IsCut values (plan.count + n) (base plan n) (plan.states n) row.m row.p → AreRows plan values (n + 1) (rows ++ row ∷ [])
rows_more {V} plan values n rows row R C = record {
  size = push-length rows ∙ ap (λ z. z + 1) R.size;
  each = λ e h. elim (cases_lt e n) [
    | inl t ↦
        let l : e < length rows = omega (arith, R.size) in
        subst (IsRowOf plan values e) (sym (got_left rows row e l)) (R.each e t)
    | inr t ↦
        let q : n ≡ e = omega arith in
        subst (IsRowOf plan values e) (sym (got_last rows row e (R.size ∙ q)))
        (subst (λ k. IsCut values (plan.count + k) (base plan k) (plan.states k) row.m row.p) q C)
  ];
}
  where
    push-length : (xs : List (SettledRow V)) → length (xs ++ row ∷ []) ≡ length xs + 1
    push-length xs = length_push xs row

-- ---- what they say

module _ {V : Type 0} (plan : Plan) (cost : V → Cost) (values : List V) (rows : List (SettledRow V)) (size : length values ≡ base plan plan.count)
    (R : AreRows plan values plan.count rows) where
  abbrev costs : List Cost
  costs = map cost values

  m-by : (e : ℕ) (o : Option (SettledRow V)) → e < plan.count → IsRowOf plan values e o → option_map_or (λ row. cost row.m) o Inf ≡ at costs (plan.count + e)
  m-by e None h r = absurd r
  m-by e (Some row) h r =
      let l : plan.count + e < length values = omega (arith, size) in
      sym (at-map cost values (plan.count + e) row.m r.own l)

  m-same : (e : ℕ) → m_of cost rows e ≡ m_in plan costs e
  m-same e = elim (cases_lt e plan.count) [
    | inl h ↦ m-by e (slice_get rows e) h (R.each e h) ∙ sym (ap (λ b. cond b (at costs (plan.count + e)) Inf) (lt-ltb e plan.count h))
    | inr h ↦
        let l : length rows ≤ e = omega (arith, R.size) in
        ap (λ o. option_map_or (λ row. cost row.m) o Inf) (past rows e l) ∙ sym (ap (λ b. cond b (at costs (plan.count + e)) Inf) (le-ltb e plan.count h))
  ]

  range-length : (e : ℕ) (row : SettledRow V) → e < plan.count → row.p ≡ take (plan.states e) (drop (base plan e) values) → length row.p ≡ plan.states e
  range-length e row h r =
      let m = below-mono plan e plan.count h in
      let a = length-take (plan.states e) (drop (base plan e) values) in
      let b = length-drop (base plan e) values in
      let q : length row.p ≡ length (take (plan.states e) (drop (base plan e) values)) = ap length r in
      omega (arith, m, a, b, q, size)

  p-by : (e i : ℕ) (o : Option (SettledRow V)) → e < plan.count → i < plan.states e → IsRowOf plan values e o
      → option_map_or cost (option_and_then (λ row. slice_get row.p i) o) Inf ≡ at costs (base plan e + i)
  p-by e i None h g r = absurd r
  p-by e i (Some row) h g r =
      let n = range-length e row h r.range in
      let l : i < length row.p = omega (arith, n) in
      let t = got row.p i l in
      let m = below-mono plan e plan.count h in
      let k : base plan e + i < length values = omega (arith, m, size) in
      let v : t.0 ≡ get_or values (base plan e + i) t.0 =
      sym (t.2 t.0) ∙ ap (λ z. get_or z i t.0) r.range ∙ get_or-take (plan.states e) (drop (base plan e) values) i t.0 g ∙ get_or-drop (base plan e) values i t.0 in
      ap (λ z. option_map_or cost z Inf) t.1 ∙ sym (at-map cost values (base plan e + i) t.0 v k)

  p-past : (e i : ℕ) (o : Option (SettledRow V)) → e < plan.count → plan.states e ≤ i → IsRowOf plan values e o
      → option_map_or cost (option_and_then (λ row. slice_get row.p i) o) Inf ≡ Inf
  p-past e i None h g r = absurd r
  p-past e i (Some row) h g r =
      let n = range-length e row h r.range in
      let l : length row.p ≤ i = omega (arith, n) in
      ap (λ z. option_map_or cost z Inf) (past row.p i l)

  p-same : (e i : ℕ) → p_of cost rows e i ≡ p_in plan costs e i
  p-same e i = elim (cases_lt e plan.count) [
    | inr h ↦
        let l : length rows ≤ e = omega (arith, R.size) in
        ap (λ o. option_map_or cost (option_and_then (λ row. slice_get row.p i) o) Inf) (past rows e l)
        ∙ sym (ap (λ b. cond (b && nat_lt i (plan.states e)) (at costs (base plan e + i)) Inf) (le-ltb e plan.count h))
    | inl h ↦ elim (cases_lt i (plan.states e)) [
      | inl g ↦
          p-by e i (slice_get rows e) h g (R.each e h)
          ∙ sym (ap (λ b. cond (b && nat_lt i (plan.states e)) (at costs (base plan e + i)) Inf) (lt-ltb e plan.count h)
          ∙ ap (λ b. cond (true && b) (at costs (base plan e + i)) Inf) (lt-ltb i (plan.states e) g))
      | inr g ↦
          p-past e i (slice_get rows e) h g (R.each e h)
          ∙ sym (ap (λ b. cond (b && nat_lt i (plan.states e)) (at costs (base plan e + i)) Inf) (lt-ltb e plan.count h)
          ∙ ap (λ b. cond (true && b) (at costs (base plan e + i)) Inf) (le-ltb i (plan.states e) g))
    ]
  ]

  states-by : (e : ℕ) (o : Option (SettledRow V)) → e < plan.count → IsRowOf plan values e o → option_map_or (λ row. length row.p) o 0 ≡ plan.states e
  states-by e None h r = absurd r
  states-by e (Some row) h r = range-length e row h r.range

  pub settled_rows : (firsts : List ℕ) → AreExact plan costs firsts → IsSettled plan cost rows
  settled_rows firsts A = record {
    count = R.size;
    states = λ e h. states-by e (slice_get rows e) h (R.each e h);
    solved = subst (λ f. IsSolved (graph_of plan.numbers) f (p_of cost rows)) (sym (fun_ext m-same))
        (subst (λ f. IsSolved (graph_of plan.numbers) (m_in plan costs) f) (sym (fun_ext (λ e. fun_ext (p-same e)))) A.solved);
  }
