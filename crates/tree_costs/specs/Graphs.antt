-- Graphs of steps, the trees that they grow, and their least costs.
use Rattle.std.specs.Prelude.{◌≡◌, ℕ, ◌+◌, List, [], ◌∷◌, Some}
use Rattle.content_models.specs.declared.content.Content.{Content}
use Rattle.content_models.specs.Model.{Chars}
use Rattle.position_automata.specs.Automata.{FollowsOn, Accepts}
use Rattle.decl_set.specs.Declarations.{Declarations, content_in}
use Rattle.tree_costs.specs.declared.cost.Cost.{Cost}
use Rattle.tree_costs.specs.Costs.{cut, total, IsLeast}

-- elements with weights, and states of each, of which one is the start, some accept, and steps lead from one to another on an element
pub record Graph (E S : Type 0) : Type 1 where
  pub cap : ℕ
  pub weight : E → ℕ
  pub start : E → S
  pub accepts : E → S → Type 0
  pub step : E → S → E → S → Type 0

-- trees side by side: each has a top and others inside it
pub data Forest (E : Type 0) : Type 0 where
  bare : Forest E
  tree : (top : E) (inside later : Forest E) → Forest E

-- the tops are on a path from this state of x to one that accepts, and so it is inside each
abbrev pub Grows : {E S : Type 0} → Graph E S → E → S → Forest E → Type 0
Grows G x s bare = G.accepts x s
Grows {E} {S} G x s (tree y inside later) = (t : S) × G.step x s y t × Grows G y (G.start y) inside × Grows G x t later

abbrev pub weights : {E S : Type 0} → Graph E S → Forest E → ℕ
weights G bare = 0
weights G (tree y inside later) = G.weight y + weights G inside + weights G later

-- the weight of a tree with this top
abbrev pub OfTree : {E S : Type 0} → Graph E S → E → Cost → Type 0
OfTree {E} G x c = (f : Forest E) × Grows G x (G.start x) f × (c ≡ cut G.cap (G.weight x + weights G f))

-- a path on these elements from this state of x to one that accepts
abbrev pub Path : {E S : Type 0} → Graph E S → E → S → List E → Type 0
Path G x s [] = G.accepts x s
Path {E} {S} G x s (y ∷ ys) = (t : S) × G.step x s y t × Path G x t ys

-- the sum of m along a path
abbrev pub OfPath : {E S : Type 0} → Graph E S → (E → Cost) → E → S → Cost → Type 0
OfPath {E} G m x s c = (ys : List E) × Path G x s ys × (c ≡ total G.cap m ys)

-- the least weights of trees, and the least sums along paths
pub record IsSolved {E S : Type 0} (G : Graph E S) (m : E → Cost) (p : E → S → Cost) : Type 0 where
  pub trees : (x : E) → IsLeast (OfTree G x) (m x)
  pub paths : (x : E) (s : S) → IsLeast (OfPath G m x s) (p x s)

-- ---- a set's own graph

-- the content of e accepts in state i
abbrev pub Ends : Declarations → Chars → ℕ → Type 0
Ends set e i = (a : Content) × (content_in set e ≡ Some a) × Accepts a i

-- the content of e steps from state i on a name to state k
abbrev pub Moves : Declarations → Chars → ℕ → Chars → ℕ → Type 0
Moves set e i name k = (a : Content) × (content_in set e ≡ Some a) × FollowsOn a i name k

-- each element weighs 1, and its states and steps are those of its content: its trees are the documents of the set
abbrev pub own_graph : Declarations → ℕ → Graph Chars ℕ
own_graph set cap = record { cap = cap; weight = λ e. 1; start = λ e. 0; accepts = Ends set; step = Moves set }
