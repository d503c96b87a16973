-- The solved graph of a set gives its table of least costs.
use Rattle.std.proofs.Common.{◌≡◌, ◌≤◌, ◌<◌, ◌+◌, ◌*◌, ℕ, zero, suc, List, [], ◌∷◌, length, map, ◌==◌, Bool, true, false, cond, Option, Some, None, slice_get, refl, sym, ap, ◌∙◌, subst, arith}
use Rattle.std.specs.Prelude.{option_and_then, option_map}
use Rattle.std.specs.Option.{option_map_or}
use Rattle.std.specs.List.{AllByRecursion}
use Rattle.std.proofs.lemmas.List.{length-map}
use mathlib.Core.Path.{fun_ext}
use Rattle.content_models.specs.declared.content.Content.{Content}
use Rattle.content_models.specs.declared.content.Content.TheVariants.{Empty, Any, Mixed, Children}
use Rattle.content_models.specs.Model.{Chars, model}
use Rattle.content_models.specs.Proper.{IsProper}
use Rattle.position_automata.specs.Automata.{states}
use Rattle.position_automata.specs.Stepping.{steps_of}
use Rattle.position_automata.proofs.Stepping.{few_steps}
use Rattle.position_automata.proofs.Tabled.{proper_count}
use Rattle.decl_set.specs.Asked.{IsKept, IsElement}
use Rattle.decl_set.specs.Declarations.{Declarations, Element, content_in, name_of}
use Rattle.decl_set.specs.Steps.{steps_in as steps_of_content, steps_at}
use Rattle.tree_costs.specs.declared.cost.Cost.{Cost}
use Rattle.tree_costs.specs.declared.cost.Cost.TheVariants.{Inf}
use Rattle.tree_costs.specs.declared.least.Least.{Least}
use Rattle.tree_costs.specs.declared.least.LeastRow.{LeastRow}
use Rattle.tree_costs.specs.Families.{AreExact}
use Rattle.tree_costs.specs.Leasts.{place_of, row_of, m_of as m_of_set, p_of as p_of_set, FitRows, IsExact}
use Rattle.tree_costs.specs.Numbered.{numbers_of, cost_by, state_cost_by}
use Rattle.tree_costs.proofs.Places.{is_at}
use Rattle.tree_costs.proofs.Placed.{numbered_is_exact}
use Rattle.least_trees.specs.declared.settled.SettledRow.{SettledRow}
use Rattle.least_trees.specs.Plans.{Plan, steps_within, steps_below, states_below, steps_in, states_in}
use Rattle.least_trees.specs.Rows.{m_of, p_of, IsSettled}
use Rattle.least_trees.specs.SetPlans.{plan_of}
use Rattle.least_trees.specs.SetRows.{least_row}

-- ---- a place's content

pub named_content : (set : Declarations) → IsKept set → (e : ℕ) (name : Chars) (o : Option Element) → slice_get set.elements e ≡ o → Some name ≡ option_map name_of o
    → content_in set name ≡ option_map (λ x. x.1) o
named_content set kept e name None h q = cc
named_content set kept e name (Some x) h q =
    let same : name ≡ x.0 = cc in
    ap (content_in set) same ∙ (is_at set kept e x h).0

-- ---- how large the graph of a set is

module _ (set : Declarations) (cap : ℕ) (kept : IsKept set) where
  few_in : (a : Content) (i : ℕ) → IsProper a → length (steps_of_content set a i) ≤ 1024
  few_in Empty i p = omega arith
  few_in Any i p = by (i == 0)
    where
      by : (b : Bool) → length {A = Chars × ℕ} (cond b (map {B = Chars × ℕ} (λ e. (e.0, 0)) set.elements) []) ≤ 1024
      by true = omega (arith, length-map {B = Chars × ℕ} set.elements (λ e. (e.0, 0)), kept.few)
      by false = omega arith
  few_in (Mixed listed) i p = few_steps (Mixed listed) i p
  few_in (Children part) i p = few_steps (Children part) i p

  few_states : (a : Content) → IsProper a → states a ≤ 1025
  few_states Empty p = omega arith
  few_states Any p = omega arith
  few_states (Mixed listed) p = omega arith
  few_states (Children part) p = omega (arith, proper_count (Children part) part refl p)

  element_at : (es : List Element) (e : ℕ) (x : Element) → AllByRecursion IsElement es → slice_get es e ≡ Some x → IsProper x.1
  element_at [] e x k h = cc
  element_at (y ∷ es) zero x k h = let same : y ≡ x = cc in subst (λ (z : Element). IsProper z.1) same (k.0).proper
  element_at (y ∷ es) (suc e) x k h = element_at es e x k.1 h

  abbrev P : Plan
  P = plan_of set cap

  few_at : (o : Option Element) (i : ℕ) → ((x : Element) → o ≡ Some x → IsProper x.1) → length (steps_at set o i) ≤ 1024
  few_at None i h = omega arith
  few_at (Some x) i h = few_in x.1 i (h x refl)

  few_states_at : (o : Option Element) → ((x : Element) → o ≡ Some x → IsProper x.1) → option_map_or (λ x. states x.1) o 0 ≤ 1025
  few_states_at None h = omega arith
  few_states_at (Some x) h = few_states x.1 (h x refl)

  proper_at : (e : ℕ) (x : Element) → slice_get set.elements e ≡ Some x → IsProper x.1
  proper_at e x h = element_at set.elements e x kept.elements_are h

  few_steps_at : (e i : ℕ) → length (P.numbers.steps e i) ≤ 1024
  few_steps_at e i =
      let n = length-map {B = Option ℕ × ℕ} (steps_at set (slice_get set.elements e) i) (λ t. (place_of set t.0, t.1)) in
      omega (arith, n, few_at (slice_get set.elements e) i (proper_at e))

  within-few : (e n : ℕ) → steps_within P e n ≤ n * 1024
  within-few e zero = omega arith
  within-few e (suc n) = omega (arith, within-few e n, few_steps_at e n)

  below-few : (n : ℕ) → steps_below P n ≤ n * 1049600
  below-few zero = omega arith
  below-few (suc n) = omega (arith, below-few n, within-few n (P.states n), few_states_at (slice_get set.elements n) (proper_at n))

  states-few : (n : ℕ) → states_below P n ≤ n * 1025
  states-few zero = omega arith
  states-few (suc n) = omega (arith, states-few n, few_states_at (slice_get set.elements n) (proper_at n))

  pub few-looks : steps_in P + states_in P < 9223372036854775808
  unfolding steps_in states_in
  few-looks = omega (arith, below-few P.count, states-few P.count, kept.few)

  pub few-sums : steps_in P + P.count < 9223372036854775808
  unfolding steps_in
  few-sums = omega (arith, below-few P.count, kept.few)

  -- ---- the table

  map-got : (rows : List (SettledRow Cost)) (x : ℕ) → (d : Cost) → option_map_or (λ row. row.m) (slice_get (map least_row rows) x) d ≡ option_map_or (λ row. row.m) (slice_get rows x) d
  map-got [] zero d = refl
  map-got [] (suc x) d = refl
  map-got (r ∷ rows) zero d = refl
  map-got (r ∷ rows) (suc x) d = map-got rows x d

  map-got-p : (rows : List (SettledRow Cost)) (x i : ℕ) → option_map_or (λ c. c) (option_and_then (λ row. slice_get row.p i) (slice_get (map least_row rows) x)) Inf
      ≡ option_map_or (λ c. c) (option_and_then (λ row. slice_get row.p i) (slice_get rows x)) Inf
  map-got-p [] zero i = refl
  map-got-p [] (suc x) i = refl
  map-got-p (r ∷ rows) zero i = refl
  map-got-p (r ∷ rows) (suc x) i = map-got-p rows x i

  fit : (es : List Element) (rows : List (SettledRow Cost)) → length rows ≡ length es
      → ((x : ℕ) → x < length es → option_map_or (λ row. length row.p) (slice_get rows x) 0 ≡ option_map_or (λ e. states e.1) (slice_get es x) 0) → FitRows es (map least_row rows)
  fit [] [] n h = tt
  fit [] (r ∷ rows) n h = absurd (omega arith)
  fit (e ∷ es) [] n h = absurd (omega arith)
  fit (e ∷ es) (r ∷ rows) n h = (h 0 (omega arith), fit es rows (omega arith) (λ x l. h (suc x) (omega arith)))

  module _ (rows : List (SettledRow Cost)) (S : IsSettled (plan_of set cap) (λ c. c) rows) where
    abbrev least : Least
    least = record { cap = cap; rows = map least_row rows }

    m-is : (o : Option ℕ) → option_map_or (λ row. row.m) (option_and_then (slice_get (map least_row rows)) o) Inf ≡ option_map_or (m_of (λ c. c) rows) o Inf
    m-is None = refl
    m-is (Some x) = map-got rows x Inf

    p-is : (o : Option ℕ) (i : ℕ) → option_map_or (λ c. c) (option_and_then (λ row. slice_get row.p i) (option_and_then (slice_get (map least_row rows)) o)) Inf
        ≡ option_map_or (λ x. p_of (λ c. c) rows x i) o Inf
    p-is None i = refl
    p-is (Some x) i = map-got-p rows x i

    pub table : IsExact set least
    table = record {
      rows = fit set.elements rows S.count S.states;
      costs = subst (λ f. AreExact set cap f (p_of_set set least)) (sym (fun_ext (λ e. m-is (place_of set e))))
          (subst (λ f. AreExact set cap (cost_by set (m_of (λ c. c) rows)) f) (sym (fun_ext (λ e. fun_ext (λ i. p-is (place_of set e) i))))
          (numbered_is_exact set cap (m_of (λ c. c) rows) (p_of (λ c. c) rows) kept S.solved));
    }
