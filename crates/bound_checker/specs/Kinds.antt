-- The eleven kinds of inequality.
use Rattle.std.specs.Prelude.{◌≡◌, ℕ, Some, is_some, IsTrue}
use Rattle.content_models.specs.declared.content.Content.{Content}
use Rattle.content_models.specs.Model.{Chars}
use Rattle.position_automata.specs.Automata.{FollowsOn, Accepts}
use Rattle.decl_set.specs.Declarations.{Declarations, content_in}
use Rattle.tree_costs.specs.declared.cost.Cost.TheVariants.{Fin}
use Rattle.bound_checker.specs.declared.tables.Tables.{Tables}
use Rattle.tree_costs.specs.Costs.{AtMost, sum}
use Rattle.decl_set.specs.Oddness.{odd_in}
use Rattle.bound_checker.specs.Tabled.{Costs, costs_of}

module _ (first second : Declarations) (cap : ℕ) (c : Costs) where
  -- P(i) is 0 where i accepts
  abbrev pub Kind1 : Type 0
  Kind1 = (e : Chars) (a : Content) (i : ℕ) → content_in first e ≡ Some a → Accepts a i → AtMost (c.p e i) (Fin 0)

  abbrev pub Kind2 : Type 0
  Kind2 = (e name : Chars) (a : Content) (i k : ℕ) → content_in first e ≡ Some a → FollowsOn a i name k → AtMost (c.p e i) (sum cap (c.m name) (c.p e k))

  abbrev pub Kind3 : Type 0
  Kind3 = (e name : Chars) (a : Content) (i k : ℕ) → content_in first e ≡ Some a → FollowsOn a i name k → AtMost (c.f e i) (sum cap (c.v name) (c.p e k))

  abbrev pub Kind4 : Type 0
  Kind4 = (e name : Chars) (a : Content) (i k : ℕ) → content_in first e ≡ Some a → FollowsOn a i name k → AtMost (c.f e i) (sum cap (c.m name) (c.f e k))

  -- G(i, j) is 0 where i accepts and j does not
  abbrev pub Kind5 : Type 0
  Kind5 = (e : Chars) (a b : Content) (i j : ℕ) → content_in first e ≡ Some a → content_in second e ≡ Some b
      → Accepts a i → (Accepts b j → ⊥) → AtMost (c.g e i j) (Fin 0)

  -- both step
  abbrev pub Kind6 : Type 0
  Kind6 = (e name : Chars) (a b : Content) (i j k l : ℕ) → content_in first e ≡ Some a → content_in second e ≡ Some b
      → FollowsOn a i name k → FollowsOn b j name l → AtMost (c.g e i j) (sum cap (c.m name) (c.g e k l))

  -- the first steps, and the second does not
  abbrev pub Kind7 : Type 0
  Kind7 = (e name : Chars) (a b : Content) (i j k : ℕ) → content_in first e ≡ Some a → content_in second e ≡ Some b
      → FollowsOn a i name k → ((l : ℕ) → FollowsOn b j name l → ⊥) → AtMost (c.g e i j) (sum cap (c.m name) (c.p e k))

  abbrev pub Kind8 : Type 0
  Kind8 = (e : Chars) (a : Content) → content_in first e ≡ Some a → AtMost (c.m e) (sum cap (Fin 1) (c.p e 0))

  abbrev pub Kind9 : Type 0
  Kind9 = (e : Chars) (a : Content) → content_in first e ≡ Some a → AtMost (c.v e) (sum cap (Fin 1) (c.f e 0))

  -- the second declares it too
  abbrev pub Kind10 : Type 0
  Kind10 = (e : Chars) (a b : Content) → content_in first e ≡ Some a → content_in second e ≡ Some b → AtMost (c.v e) (sum cap (Fin 1) (c.g e 0 0))

  -- it is odd
  abbrev pub Kind11 : Type 0
  Kind11 = (e : Chars) (a : Content) → content_in first e ≡ Some a → IsTrue (is_some (odd_in first second e)) → AtMost (c.v e) (c.m e)

-- all inequalities hold
pub record Feasible (first second : Declarations) (cap : ℕ) (c : Costs) : Type 0 where
  pub k1 : Kind1 first second cap c
  pub k2 : Kind2 first second cap c
  pub k3 : Kind3 first second cap c
  pub k4 : Kind4 first second cap c
  pub k5 : Kind5 first second cap c
  pub k6 : Kind6 first second cap c
  pub k7 : Kind7 first second cap c
  pub k8 : Kind8 first second cap c
  pub k9 : Kind9 first second cap c
  pub k10 : Kind10 first second cap c
  pub k11 : Kind11 first second cap c

-- the tables' own costs
abbrev pub AreFeasible : Declarations → Declarations → Tables → Type 0
AreFeasible first second tables = Feasible first second tables.cap (costs_of first tables)
