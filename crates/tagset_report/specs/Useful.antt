-- Useful elements, as what steps reach among numbered states.
use Rattle.std.specs.Prelude.{◌≡◌, ◌+◌, ◌-◌, ◌*◌, ◌/◌, ◌%◌, ◌==◌, ◌&&◌, ℕ, Bool, false, List, [], ◌∷◌, ◌++◌, length, map, Option, Some, None, option_and_then, slice_get, slice_index_or, if◌then◌else◌}
use Rattle.std.specs.Bool.{Decides}
use Rattle.std.specs.Option.{option_map_or}
use Rattle.content_models.specs.Model.{Chars}
use Rattle.decl_set.specs.Declarations.{Declarations, Element}
use Rattle.decl_set.specs.Children.{child_step}
use Rattle.decl_set.specs.Steps.{steps_at}
use Rattle.decl_set.specs.Validity.{IsUseful}
use Rattle.tree_costs.specs.declared.cost.Cost.{Cost}
use Rattle.tree_costs.specs.declared.cost.Cost.TheVariants.{Inf}
use Rattle.tree_costs.specs.declared.least.LeastRow.{LeastRow}
use Rattle.tagset_report.specs.Finite.{is_finite}

-- the flags tell which elements are useful, by their places
pub record TellUseful (set : Declarations) (root : Chars) (flags : List Bool) : Type 0 where
  pub length_same : length flags ≡ length set.elements
  pub told : (e : ℕ) (x : Element) → slice_get set.elements e ≡ Some x → Decides (slice_index_or flags e false) (IsUseful set root x.0)

-- ---- by rows of least costs

-- the least size of the element at a place
abbrev pub size_at : List LeastRow → ℕ → Cost
size_at rows e = option_map_or (λ row. row.m) (slice_get rows e) Inf

-- the least sum from one of its states
abbrev pub sum_at : List LeastRow → ℕ → ℕ → Cost
sum_at rows e i = option_map_or (λ c. c) (option_and_then (λ row. slice_get row.p i) (slice_get rows e)) Inf

-- the number of a state of the element at a place: a content has at most 1,025 states, and 0 stands before them all
abbrev pub number_at : ℕ → ℕ → ℕ
number_at e i = 1 + (e * 1025 + i)

-- what a step leads to, where its element has documents and live names lead on to acceptance: the state after it, and the
-- start of its element
abbrev pub step_numbers : List LeastRow → ℕ → Option ℕ × ℕ → List ℕ
step_numbers rows e (None, k) = []
step_numbers rows e (Some x, k) = if is_finite (size_at rows x) && is_finite (sum_at rows e k) then number_at e k ∷ number_at x 0 ∷ [] else []

abbrev pub steps_numbers : List LeastRow → ℕ → List (Option ℕ × ℕ) → List ℕ
steps_numbers rows e [] = []
steps_numbers rows e (step ∷ steps) = step_numbers rows e step ++ steps_numbers rows e steps

-- the steps of a state of the element at a place
abbrev pub children_at : Declarations → ℕ → ℕ → List (Option ℕ × ℕ)
children_at set e i = map (child_step set) (steps_at set (slice_get set.elements e) i)

-- the start of the root, where it has documents
abbrev pub root_numbers : List LeastRow → Option ℕ → List ℕ
root_numbers rows None = []
root_numbers rows (Some x) = if is_finite (size_at rows x) then number_at x 0 ∷ [] else []

-- what a number leads to
abbrev pub next_numbers : Declarations → List LeastRow → Option ℕ → ℕ → List ℕ
next_numbers set rows root n =
    if n == 0 then root_numbers rows root else steps_numbers rows ((n - 1) / 1025) (children_at set ((n - 1) / 1025) ((n - 1) % 1025))

-- how many numbers there are
abbrev pub count_numbers : Declarations → ℕ
count_numbers set = 1 + length set.elements * 1025
