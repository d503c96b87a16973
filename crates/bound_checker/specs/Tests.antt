-- The inequalities of tables in the order in which they are tested, and the first that fails.
use Rattle.std.specs.Prelude.{◌≡◌, ℕ, ◌+◌, Bool, not, ◌&&◌, List, [], ◌∷◌, ◌++◌, Option, Some, None, is_some, find, if◌then◌else◌, ◌↔◌, Result, Ok, Err}
use Rattle.std.specs.List.{flat_map, range_with_len}
use Rattle.std.specs.Option.{option_map_or}
use Rattle.content_models.specs.declared.content.Content.{Content}
use Rattle.content_models.specs.Model.{Chars}
use Rattle.position_automata.specs.Automata.{states}
use Rattle.decl_set.specs.Declarations.{Declarations, Element, content_in}
use Rattle.decl_set.specs.Asked.{IsKept}
use Rattle.bound_checker.specs.declared.check.Broken.{Broken}
use Rattle.tree_costs.specs.declared.cost.Cost.{Cost}
use Rattle.tree_costs.specs.declared.cost.Cost.TheVariants.{Fin}
use Rattle.bound_checker.specs.declared.tables.PairRow.{PairRow}
use Rattle.bound_checker.specs.declared.tables.Tables.{Tables}
use Rattle.tree_costs.specs.Costs.{sum, at_most}
use Rattle.decl_set.specs.Oddness.{odd_in}
use Rattle.position_automata.specs.Stepping.{does_accept, step_on}
use Rattle.decl_set.specs.Steps.{steps_in}
use Rattle.bound_checker.specs.Tabled.{Costs, costs_of, row_of}
use Rattle.bound_checker.specs.Kinds.{AreFeasible}

-- for each of a list with its place, counted from k
abbrev pub each_at : {X Y : Type 0} → (ℕ → X → List Y) → ℕ → List X → List Y
each_at f k [] = []
each_at f k (x ∷ xs) = f k x ++ each_at f (k + 1) xs

-- the test, where it is wanted
abbrev pub where_so : Bool → Broken → List Broken
where_so wanted t = if wanted then t ∷ [] else []

abbrev pub test : ℕ → ℕ → ℕ → ℕ → ℕ → Cost → Cost → Broken
test kind n i j k left right = record { kind = kind; element = n; i = i; j = j; step = k; left = left; right = right }

module _ (first second : Declarations) (cap : ℕ) (c : Costs) where
  -- kinds 2 to 4 at a step
  abbrev pub on_step : ℕ → Chars → ℕ → ℕ → (Chars × ℕ) → List Broken
  on_step n e i k s =
      test 2 n i 0 k (c.p e i) (sum cap (c.m s.0) (c.p e s.1))
      ∷ test 3 n i 0 k (c.f e i) (sum cap (c.v s.0) (c.p e s.1))
      ∷ test 4 n i 0 k (c.f e i) (sum cap (c.m s.0) (c.f e s.1)) ∷ []

  -- a state: kind 1, and then its steps
  abbrev pub on_state : ℕ → Chars → Content → ℕ → List Broken
  on_state n e a i = where_so (does_accept a i) (test 1 n i 0 0 (c.p e i) (Fin 0)) ++ each_at (on_step n e i) 0 (steps_in first a i)

  -- kind 6 or 7 at a step
  abbrev pub on_both : ℕ → Chars → ℕ → ℕ → ℕ → (Chars × ℕ) → Option ℕ → Broken
  on_both n e i j k s (Some l) = test 6 n i j k (c.g e i j) (sum cap (c.m s.0) (c.g e s.1 l))
  on_both n e i j k s None = test 7 n i j k (c.g e i j) (sum cap (c.m s.0) (c.p e s.1))

  -- a pair: kind 5, and then its steps
  abbrev pub on_pair : ℕ → Chars → Content → Content → PairRow → List Broken
  on_pair n e a b x =
      where_so (does_accept a x.i && not (does_accept b x.j)) (test 5 n x.i x.j 0 (c.g e x.i x.j) (Fin 0))
      ++ each_at (λ k s. on_both n e x.i x.j k s (step_on b x.j s.0) ∷ []) 0 (steps_in first a x.i)

  abbrev pub on_pairs : ℕ → Chars → Content → Option Content → List PairRow → List Broken
  on_pairs n e a None pairs = []
  on_pairs n e a (Some b) pairs = flat_map (on_pair n e a b) pairs

  -- kinds 10 and 11
  abbrev pub on_last : ℕ → Chars → List Broken
  on_last n e =
      where_so (is_some (content_in second e)) (test 10 n 0 0 0 (c.v e) (sum cap (Fin 1) (c.g e 0 0)))
      ++ where_so (is_some (odd_in first second e)) (test 11 n 0 0 0 (c.v e) (c.m e))

  -- the last four
  abbrev pub on_top : ℕ → Chars → List Broken
  on_top n e =
      test 8 n 0 0 0 (c.m e) (sum cap (Fin 1) (c.p e 0))
      ∷ test 9 n 0 0 0 (c.v e) (sum cap (Fin 1) (c.f e 0))
      ∷ on_last n e

  -- an element: each state, then each listed pair, then the last four
  abbrev pub on_element : (Chars → List PairRow) → ℕ → Element → List Broken
  on_element pairs n e =
      flat_map (on_state n e.0 e.1) (range_with_len 0 (states e.1)) ++ (on_pairs n e.0 e.1 (content_in second e.0) (pairs e.0) ++ on_top n e.0)

-- the listed pairs of an element
abbrev pub pairs_of : Declarations → Tables → Chars → List PairRow
pairs_of first tables e = option_map_or (λ row. row.pairs) (row_of first tables e) []

-- all inequalities, in order
abbrev pub tests_of : Declarations → Declarations → Tables → List Broken
tests_of first second tables =
    each_at (on_element first second tables.cap (costs_of first tables) (pairs_of first tables)) 0 first.elements

-- the first of these that fails
abbrev pub failing : List Broken → Option Broken
failing tests = find (λ t. not (at_most t.left t.right)) tests

-- the first of all that fails
abbrev pub first_broken : Declarations → Declarations → Tables → Option Broken
first_broken first second tables = failing (tests_of first second tables)

-- none fails exactly where the tables are feasible
abbrev pub NoneIsBroken : Type 0
NoneIsBroken =
    (first second : Declarations) (tables : Tables) → IsKept first → IsKept second
    → (first_broken first second tables ≡ None) ↔ AreFeasible first second tables

-- the tables are feasible, or this is the first inequality that fails
abbrev pub Checks : Declarations → Declarations → Tables → Result (Unit {0}) Broken → Type 0
Checks first second tables (Ok u) = AreFeasible first second tables
Checks first second tables (Err broken) = first_broken first second tables ≡ Some broken
