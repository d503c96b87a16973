-- The costs by which trees are chosen: by the places of elements, and by their names.
use Rattle.std.specs.Prelude.{◌≤◌, ℕ, Option, find, option_and_then, slice_get}
use Rattle.std.specs.List.{AllByRecursion}
use Rattle.std.specs.Option.{option_map_or}
use Rattle.decl_set.specs.Asked.{IsKept}
use Rattle.decl_set.specs.Declarations.{Declarations}
use Rattle.tree_costs.specs.declared.cost.Cost.{Cost}
use Rattle.tree_costs.specs.declared.cost.Cost.TheVariants.{Fin, Inf}
use Rattle.tree_costs.specs.Leasts.{m_of, p_of}
use Rattle.bound_checker.specs.Tabled.{Costs, costs_of, is_pair, state_of, AreAscending}
use Rattle.separating_article.specs.declared.guide.Book.{Book}
use Rattle.separating_article.specs.declared.guide.Book.TheVariants.{One, Two}
use Rattle.separating_article.specs.declared.guide.Guide.{Guide}

-- ---- by places

abbrev pub m_at : Book → Option ℕ → Cost
m_at (One least) o = option_map_or (λ row. row.m) (option_and_then (slice_get least.now.rows) o) Inf
m_at (Two tables) o = option_map_or (λ row. row.m) (option_and_then (slice_get tables.now.rows) o) Inf

abbrev pub v_at : Book → Option ℕ → Cost
v_at (One least) o = Inf
v_at (Two tables) o = option_map_or (λ row. row.v) (option_and_then (slice_get tables.now.rows) o) Inf

abbrev pub p_at : Book → ℕ → ℕ → Cost
p_at (One least) e i = option_map_or (λ c. c) (option_and_then (λ row. slice_get row.p i) (slice_get least.now.rows e)) Inf
p_at (Two tables) e i = option_map_or (λ s. s.p) (option_and_then (λ row. state_of row i) (slice_get tables.now.rows e)) Inf

abbrev pub f_at : Book → ℕ → ℕ → Cost
f_at (One least) e i = Inf
f_at (Two tables) e i = option_map_or (λ s. s.f) (option_and_then (λ row. state_of row i) (slice_get tables.now.rows e)) Inf

abbrev pub g_at : Book → ℕ → ℕ → ℕ → Cost
g_at (One least) e i j = Fin 0
g_at (Two tables) e i j = option_map_or (λ s. s.g) (option_and_then (λ row. find (is_pair i j) row.pairs) (slice_get tables.now.rows e)) (Fin 0)

-- ---- by names

abbrev pub costs_by : Declarations → Book → Costs
costs_by first (One least) = record { m = m_of first least.now; v = λ e. Inf; p = p_of first least.now; f = λ e i. Inf; g = λ e i j. Fin 0 }
costs_by first (Two tables) = costs_of first tables.now

abbrev pub costs_in : Guide → Costs
costs_in guide = costs_by guide.first.now guide.book

-- ---- what is known of them

-- the pairs of each row ascend
abbrev pub HaveOrder : Book → Type 0
HaveOrder (One least) = Unit {0}
HaveOrder (Two tables) = AllByRecursion (λ row. AreAscending row.pairs) tables.now.rows

pub record IsGuide (guide : Guide) : Type 0 where
  pub first : IsKept guide.first.now
  pub second : IsKept guide.second.now
  pub cap : guide.cap ≤ 100000
  pub order : HaveOrder guide.book
