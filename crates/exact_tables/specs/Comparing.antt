-- The graph whose costs are the tables of a comparison: each element of the first, and a copy of it whose trees separate.
use Rattle.std.specs.Prelude.{◌≡◌, ℕ, Some, is_some, IsTrue, ◌⊎◌}
use Rattle.content_models.specs.declared.content.Content.{Content}
use Rattle.content_models.specs.Model.{Chars}
use Rattle.position_automata.specs.Automata.{FollowsOn, Accepts}
use Rattle.decl_set.specs.Declarations.{Declarations, content_in}
use Rattle.decl_set.specs.Asked.{IsKept}
use Rattle.tree_costs.specs.declared.cost.Cost.{Cost}
use Rattle.tree_costs.specs.declared.cost.Cost.TheVariants.{Fin}
use Rattle.decl_set.specs.Oddness.{odd_in}
use Rattle.bound_checker.specs.Tabled.{Costs}
use Rattle.exact_tables.specs.Families.{IsListed, IsExact}
use Rattle.tree_costs.specs.Graphs.{Graph, IsSolved}

-- an element, or its copy
pub data Elem : Type 0 where
  Plain : Chars → Elem
  Copy : Chars → Elem

abbrev pub name : Elem → Chars
name (Plain e) = e
name (Copy e) = e

-- a state for P, one for F, a pair for G, or the start of a copy
pub data State : Type 0 where
  Go : ℕ → State
  Fs : ℕ → State
  Gs : ℕ → ℕ → State
  Start : State

abbrev pub start : Elem → State
start (Plain e) = Go 0
start (Copy e) = Start

module _ (first second : Declarations) where
  -- the first accepts
  abbrev pub Ends : Chars → ℕ → Type 0
  Ends e i = (a : Content) × (content_in first e ≡ Some a) × Accepts a i

  -- the first accepts, and the second does not, at a listed pair
  abbrev pub EndsAlone : Chars → ℕ → ℕ → Type 0
  EndsAlone e i j =
      (a : Content) × (b : Content) × (content_in first e ≡ Some a) × (content_in second e ≡ Some b) × Accepts a i × (Accepts b j → ⊥) × IsListed first a b i j

  -- the first steps
  abbrev pub Moves : Chars → ℕ → Chars → ℕ → Type 0
  Moves e i on k = (a : Content) × (content_in first e ≡ Some a) × FollowsOn a i on k

  -- both step, from a listed pair to a listed pair
  abbrev pub MovesBoth : Chars → ℕ → ℕ → Chars → ℕ → ℕ → Type 0
  MovesBoth e i j on k l =
      (a : Content) × (b : Content) × (content_in first e ≡ Some a) × (content_in second e ≡ Some b) × FollowsOn a i on k × FollowsOn b j on l × IsListed first a b i j × IsListed first a b k l

  -- the first steps, and the second does not, from a listed pair
  abbrev pub MovesAlone : Chars → ℕ → ℕ → Chars → ℕ → Type 0
  MovesAlone e i j on k =
      (a : Content) × (b : Content) × (content_in first e ≡ Some a) × (content_in second e ≡ Some b) × FollowsOn a i on k × ((l : ℕ) → FollowsOn b j on l → ⊥) × IsListed first a b i j

  abbrev pub IsOdd : Chars → Type 0
  IsOdd e = IsTrue (is_some (odd_in first second e))

  -- kinds 1 and 5; the start of a copy accepts as the pair (0, 0) does, and where it is odd as state 0 does
  abbrev pub accepts : Elem → State → Type 0
  accepts x (Go i) = Ends (name x) i
  accepts (Copy e) (Gs i j) = EndsAlone e i j
  accepts (Copy e) Start = EndsAlone e 0 0 ⊎ IsOdd e × Ends e 0
  accepts x s = ⊥

  -- kinds 2 to 4, 6 and 7; the start of a copy has the steps of F(0) and of the pair (0, 0), and where it is odd of state 0
  abbrev pub step : Elem → State → Elem → State → Type 0
  step x (Go i) (Plain on) (Go k) = Moves (name x) i on k
  step (Copy e) (Fs i) (Copy on) (Go k) = Moves e i on k
  step (Copy e) (Fs i) (Plain on) (Fs k) = Moves e i on k
  step (Copy e) (Gs i j) (Plain on) (Gs k l) = MovesBoth e i j on k l
  step (Copy e) (Gs i j) (Plain on) (Go k) = MovesAlone e i j on k
  step (Copy e) Start (Copy on) (Go k) = Moves e 0 on k
  step (Copy e) Start (Plain on) (Fs k) = Moves e 0 on k
  step (Copy e) Start (Plain on) (Gs k l) = MovesBoth e 0 0 on k l
  step (Copy e) Start (Plain on) (Go k) = MovesAlone e 0 0 on k ⊎ IsOdd e × Moves e 0 on k
  step x s y t = ⊥

  abbrev pub comparison : ℕ → Graph Elem State
  comparison cap = record { cap = cap; weight = λ x. 1; start = start; accepts = accepts; step = step }

-- the tables that the costs of the graph are: those of elements, of copies, and of their states
pub record AreTables (first second : Declarations) (m : Elem → Cost) (p : Elem → State → Cost) (c : Costs) : Type 0 where
  pub elements : (e : Chars) → c.m e ≡ m (Plain e)
  pub copies : (e : Chars) → c.v e ≡ m (Copy e)
  pub states : (e : Chars) (a : Content) (i : ℕ) → content_in first e ≡ Some a → c.p e i ≡ p (Plain e) (Go i)
  pub wrong : (e : Chars) (a : Content) (i : ℕ) → content_in first e ≡ Some a → c.f e i ≡ p (Copy e) (Fs i)
  pub pairs : (e : Chars) (a b : Content) (i j : ℕ) → content_in first e ≡ Some a → content_in second e ≡ Some b → IsListed first a b i j
      → c.g e i j ≡ p (Copy e) (Gs i j)
  pub unlisted : (e : Chars) (a b : Content) (i j : ℕ) → content_in first e ≡ Some a → content_in second e ≡ Some b → (IsListed first a b i j → ⊥)
      → c.g e i j ≡ Fin 0

-- the solved graph of a comparison gives the exact tables
abbrev pub SolvedIsExact : Type 0
SolvedIsExact =
    (first second : Declarations) (cap : ℕ) (m : Elem → Cost) (p : Elem → State → Cost) (c : Costs) → IsKept first → IsKept second
    → IsSolved (comparison first second cap) m p → AreTables first second m p c → IsExact first second cap c
