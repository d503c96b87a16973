-- The next step of a chosen tree, by the places of elements.
use Rattle.std.specs.Prelude.{◌≡◌, ℕ, Bool, false, ◌&&◌, ◌||◌, not, find, nat_lt, slice_get, Option, Some, None, option_map, option_and_then, if◌then◌else◌}
use Rattle.std.specs.Option.{option_map_or}
use Rattle.content_models.specs.declared.content.Content.{Content}
use Rattle.content_models.specs.Model.{Chars}
use Rattle.position_automata.specs.Automata.{states}
use Rattle.position_automata.specs.Stepping.{does_accept, step_on}
use Rattle.decl_set.specs.Declarations.{content_in}
use Rattle.decl_set.specs.Steps.{steps_at}
use Rattle.tree_costs.specs.declared.cost.Cost.{Cost}
use Rattle.tree_costs.specs.declared.cost.Cost.TheVariants.{Fin}
use Rattle.tree_costs.specs.Costs.{at_most, sum}
use Rattle.tree_costs.specs.Leasts.{place_of}
use Rattle.separating_article.specs.declared.choosing.Child.{Child}
use Rattle.separating_article.specs.declared.choosing.Path.{Path}
use Rattle.separating_article.specs.declared.choosing.Path.TheVariants.{Own, Wrong, Pair}
use Rattle.separating_article.specs.declared.choosing.Step.{Step}
use Rattle.separating_article.specs.declared.guide.Guide.{Guide}
use Rattle.separating_article.specs.Guides.{m_at, v_at, p_at, f_at, g_at}

-- whether two costs are the same
abbrev pub is_same : Cost → Cost → Bool
is_same c d = at_most c d && at_most d c

-- the contents of the element at a place, in the first set and in the second
abbrev pub own_content : Guide → ℕ → Option Content
own_content guide e = option_map (λ x. x.1) (slice_get guide.first.now.elements e)

abbrev pub other_content : Guide → ℕ → Option Content
other_content guide e = option_and_then (λ x. content_in guide.second.now x.0) (slice_get guide.first.now.elements e)

-- whether a state accepts, where there is one
abbrev pub accepts_in : Option Content → ℕ → Bool
accepts_in o i = option_map_or (λ a. nat_lt i (states a) && does_accept a i) o false

-- where a content steps from a state on a name, where there is one
abbrev pub step_in : Option Content → ℕ → Chars → Option ℕ
step_in o i name = option_and_then (λ a. if nat_lt i (states a) then step_on a i name else None) o

-- what follows a step of the first set, by the state of the second that it leads to
abbrev pub past_at : Guide → ℕ → ℕ → Option ℕ → Cost
past_at guide e k (Some l) = g_at guide.book e k l
past_at guide e k None = p_at guide.book e k

-- ---- a step with the place of its element

abbrev pub step_by : Child → Chars × ℕ
step_by child = (child.name.now, child.to)

abbrev pub IsPlaced : Guide → Child → Type 0
IsPlaced guide child = child.place ≡ place_of guide.first.now child.name.now

-- ---- the steps that attain what is least

abbrev pub m_on : Guide → Chars → Cost
m_on guide name = m_at guide.book (place_of guide.first.now name)

abbrev pub attains_own : Guide → ℕ → ℕ → Chars × ℕ → Bool
attains_own guide e i s = is_same (p_at guide.book e i) (sum guide.cap (m_on guide s.0) (p_at guide.book e s.1))

-- with a separating child, or with one later
abbrev pub attains_here : Guide → ℕ → ℕ → Chars × ℕ → Bool
attains_here guide e i s = is_same (f_at guide.book e i) (sum guide.cap (v_at guide.book (place_of guide.first.now s.0)) (p_at guide.book e s.1))

abbrev pub attains_later : Guide → ℕ → ℕ → Chars × ℕ → Bool
attains_later guide e i s = is_same (f_at guide.book e i) (sum guide.cap (m_on guide s.0) (f_at guide.book e s.1))

abbrev pub attains_odd : Guide → ℕ → ℕ → ℕ → Chars × ℕ → Bool
attains_odd guide e i j s = is_same (g_at guide.book e i j) (sum guide.cap (m_on guide s.0) (past_at guide e s.1 (step_in (other_content guide e) j s.0)))

abbrev pub attains : Guide → ℕ → Path → Chars × ℕ → Bool
attains guide e (Own i) s = attains_own guide e i s
attains guide e (Wrong i) s = attains_here guide e i s || attains_later guide e i s
attains guide e (Pair i j) s = attains_odd guide e i j s

-- ---- where a path goes on

-- the state of the first set at which a path stands
abbrev pub state_of : Path → ℕ
state_of (Own i) = i
state_of (Wrong i) = i
state_of (Pair i j) = i

-- whether the child of a step separates
abbrev pub has_wrong : Guide → ℕ → Path → Chars × ℕ → Bool
has_wrong guide e (Own i) s = false
has_wrong guide e (Wrong i) s = attains_here guide e i s
has_wrong guide e (Pair i j) s = false

-- the path of G goes on where the second steps, and is one of P where it does not
abbrev pub past_path : ℕ → Option ℕ → Path
past_path k (Some l) = Pair k l
past_path k None = Own k

-- the path behind a step
abbrev pub path_behind : Guide → ℕ → Path → Chars × ℕ → Path
path_behind guide e (Own i) s = Own s.1
path_behind guide e (Wrong i) s = if attains_here guide e i s then Own s.1 else Wrong s.1
path_behind guide e (Pair i j) s = past_path s.1 (step_in (other_content guide e) j s.0)

-- a path of P ends where the state accepts, and one of G where G is 0 and the first accepts and the second does not
abbrev pub ends : Guide → ℕ → Path → Bool
ends guide e (Own i) = accepts_in (own_content guide e) i
ends guide e (Wrong i) = false
ends guide e (Pair i j) = is_same (g_at guide.book e i j) (Fin 0) && (accepts_in (own_content guide e) i && not (accepts_in (other_content guide e) j))

-- the first step that attains what is least
abbrev pub first_step : Guide → ℕ → Path → Option (Chars × ℕ)
first_step guide e path = find (attains guide e path) (steps_at guide.first.now (slice_get guide.first.now.elements e) (state_of path))

-- a step on an element that is declared
abbrev pub taken : Guide → ℕ → Path → Chars × ℕ → Option Step
taken guide e path s =
    option_map (λ x. record { place = x; separates = has_wrong guide e path s; path = path_behind guide e path s }) (place_of guide.first.now s.0)

-- the step that is taken: none where the path ends
abbrev pub next_step : Guide → ℕ → Path → Option Step
next_step guide e path = if ends guide e path then None else option_and_then (taken guide e path) (first_step guide e path)
