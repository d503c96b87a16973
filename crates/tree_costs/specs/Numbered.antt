-- A graph whose elements and states are numbered, and the graph that it stands for.
use Rattle.std.specs.Prelude.{◌≡◌, ◌⊎◌, ◌↔◌, ℕ, Bool, false, List, map, Option, Some, slice_get, IsTrue, Contains}
use Rattle.std.specs.Option.{option_map_or}
use Rattle.content_models.specs.Model.{Chars}
use Rattle.position_automata.specs.Stepping.{does_accept}
use Rattle.decl_set.specs.Declarations.{Declarations}
use Rattle.decl_set.specs.Steps.{steps_at}
use Rattle.tree_costs.specs.declared.cost.Cost.{Cost}
use Rattle.tree_costs.specs.declared.cost.Cost.TheVariants.{Inf}
use Rattle.tree_costs.specs.Graphs.{Graph, Forest, Grows, Path}
use Rattle.tree_costs.specs.Leasts.{place_of}

-- no tree has this top
abbrev pub IsDead : {E S : Type 0} → Graph E S → E → Type 0
IsDead {E} G x = (f : Forest E) → Grows G x (G.start x) f → ⊥

-- no path leads from this state to one that accepts
abbrev pub IsStuck : {E S : Type 0} → Graph E S → E → S → Type 0
IsStuck {E} G x s = (ys : List E) → Path G x s ys → ⊥

-- each element and state of N stands for one of G, with its steps; steps on elements that no tree has may be left out, and
-- what none stands for has no trees and no paths
pub record StandsFor {E S F T : Type 0} (N : Graph E S) (G : Graph F T) (label : E → F) (state : E → S → T) : Type 0 where
  pub cap : N.cap ≡ G.cap
  pub weight : (x : E) → N.weight x ≡ G.weight (label x)
  pub start : (x : E) → state x (N.start x) ≡ G.start (label x)
  pub ends : (x : E) (s : S) → N.accepts x s ↔ G.accepts (label x) (state x s)
  pub steps : (x : E) (s : S) (y : E) (t : S) → N.step x s y t → G.step (label x) (state x s) (label y) (state x t)
  pub back : (x : E) (s : S) (v : F) (w : T) → G.step (label x) (state x s) v w
      → ((y : E) × (t : S) × N.step x s y t × (label y ≡ v) × (state x t ≡ w)) ⊎ IsDead G v
  pub elements : (v : F) → ((x : E) × (label x ≡ v)) ⊎ IsDead G v
  pub states : (v : F) (w : T) → ((x : E) × (s : S) × (label x ≡ v) × (state x s ≡ w)) ⊎ IsStuck G v w

-- the costs of what stands for it, and Inf where nothing does
pub record AreCarried {E S F T : Type 0} (G : Graph F T) (label : E → F) (state : E → S → T) (m : E → Cost) (p : E → S → Cost) (c : F → Cost) (d : F → T → Cost) : Type 0 where
  pub elements : (x : E) → c (label x) ≡ m x
  pub dead : (v : F) → IsDead G v → c v ≡ Inf
  pub states : (x : E) (s : S) → d (label x) (state x s) ≡ p x s
  pub stuck : (v : F) (w : T) → IsStuck G v w → d v w ≡ Inf

-- ---- graphs of numbers, as a solver has them

-- elements and states are numbers; a step is on an element, or on a name that is none
pub record Numbers : Type 0 where
  pub cap : ℕ
  pub weight : ℕ → ℕ
  pub accepts : ℕ → ℕ → Bool
  pub steps : ℕ → ℕ → List (Option ℕ × ℕ)

-- the start is state 0
abbrev pub graph_of : Numbers → Graph ℕ ℕ
graph_of n = record {
  cap = n.cap;
  weight = n.weight;
  start = λ x. 0;
  accepts = λ x s. IsTrue (n.accepts x s);
  step = λ x s y t. Contains (n.steps x s) (Some y, t);
}

-- a set's own graph in numbers: its elements by their places, with the states and steps of their contents
abbrev pub numbers_of : Declarations → ℕ → Numbers
numbers_of set cap = record {
  cap = cap;
  weight = λ x. 1;
  accepts = λ x s. option_map_or (λ e. does_accept e.1 s) (slice_get set.elements x) false;
  steps = λ x s. map (λ t. (place_of set t.0, t.1)) (steps_at set (slice_get set.elements x) s);
}

-- the cost of a name by its place, and Inf where it is not declared
abbrev pub cost_by : Declarations → (ℕ → Cost) → Chars → Cost
cost_by set m e = option_map_or m (place_of set e) Inf

-- the cost of a state of a name by its place
abbrev pub state_cost_by : Declarations → (ℕ → ℕ → Cost) → Chars → ℕ → Cost
state_cost_by set p e i = option_map_or (λ x. p x i) (place_of set e) Inf
