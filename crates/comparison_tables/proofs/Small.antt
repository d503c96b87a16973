-- Solved costs are small.
use Rattle.std.proofs.Common.{◌<◌, ◌+◌, ℕ, inl, inr, List, [], ◌∷◌, sym, subst}
use Rattle.content_models.specs.declared.content.Content.{Content}
use Rattle.content_models.specs.Model.{Chars}
use Rattle.position_automata.specs.Automata.{states, Leads, Way}
use Rattle.position_automata.proofs.Running.{start_within, follows_to}
use Rattle.position_automata.proofs.States.{leads_by_ways}
use Rattle.tree_costs.specs.declared.cost.Cost.{Cost}
use Rattle.tree_costs.specs.Costs.{IsSmall}
use Rattle.tree_costs.specs.Graphs.{Graph, IsSolved, weights}
use Rattle.tree_costs.proofs.Costs.{cut-is, total-is}

module _ {E S : Type 0} (G : Graph E S) (m : E → Cost) (p : E → S → Cost) (X : IsSolved G m p) where
  pub tree_small : (x : E) → IsSmall G.cap (m x)
  tree_small x = elim (X.trees x).1 [ inl q ↦ inl q | inr t ↦ subst (IsSmall G.cap) (sym t.2) (cut-is G.cap (G.weight x + weights G t.0)) ]

  pub path_small : (x : E) (s : S) → IsSmall G.cap (p x s)
  path_small x s = elim (X.paths x s).1 [ inl q ↦ inl q | inr t ↦ subst (IsSmall G.cap) (sym t.2) (total-is G.cap m t.0) ]

-- names lead to a state
way_within : (a : Content) (names : List Chars) (i j : ℕ) → i < states a → Way a i names j → j < states a
way_within a [] i j l w = subst (λ k. k < states a) w l
way_within a (name ∷ names) i j l w = way_within a names w.0 j (follows_to a i w.0 name w.1) w.2

pub leads_within : (a : Content) (names : List Chars) (i : ℕ) → Leads a names i → i < states a
leads_within a names i h = way_within a names 0 i (start_within a) ((leads_by_ways a names i).0 h)
