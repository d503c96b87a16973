-- The costs of a graph of numbers, by the numbers of what they stand for.
use Rattle.std.proofs.Common.{◌≡◌, ◌⊎◌, inl, inr, map, Option, Some, None, refl, sym, ap, ◌∙◌, subst}
use Rattle.std.specs.Option.{option_map_or}
use Rattle.tree_costs.specs.declared.cost.Cost.{Cost}
use Rattle.tree_costs.specs.declared.cost.Cost.TheVariants.{Inf}
use Rattle.tree_costs.specs.Costs.{IsLeast}
use Rattle.tree_costs.specs.Graphs.{Graph, Grows, OfTree, Path, OfPath, IsSolved}
use Rattle.tree_costs.specs.Numbered.{IsDead, IsStuck, StandsFor, AreCarried}
use Rattle.tree_costs.proofs.Numbered.{tree-to, path-to}

-- a family with no member has no least cost
no_least : (L : Cost → Type 0) (c : Cost) → ((d : Cost) → L d → ⊥) → IsLeast L c → c ≡ Inf
no_least L c n h = elim h.1 [ inl q ↦ q | inr l ↦ absurd (n c l) ]

module _ {E S F T : Type 0} (N : Graph E S) (G : Graph F T) (label : E → F) (state : E → S → T) (R : StandsFor N G label state)
    (number : F → Option E) (state_number : F → T → Option (E × S)) where
  -- the number of what stands for it, and no number where it has no tree
  abbrev pub Counts : E → Type 0
  Counts x = (number (label x) ≡ Some x) ⊎ ((number (label x) ≡ None) × IsDead N x)

  abbrev pub CountsState : E → S → Type 0
  CountsState x s = (state_number (label x) (state x s) ≡ Some (x, s)) ⊎ ((state_number (label x) (state x s) ≡ None) × IsStuck N x s)

  -- numbers are told rightly
  pub record AreNumbers : Type 0 where
    pub counts : (x : E) → Counts x
    pub counts_states : (x : E) (s : S) → CountsState x s
    pub named : (v : F) (x : E) → number v ≡ Some x → label x ≡ v
    pub named_states : (v : F) (w : T) (x : E) (s : S) → state_number v w ≡ Some (x, s) → (label x ≡ v) × (state x s ≡ w)

  module _ (m : E → Cost) (p : E → S → Cost) (X : IsSolved N m p) (K : AreNumbers) where
    abbrev c : F → Cost
    c v = option_map_or m (number v) Inf

    abbrev d : F → T → Cost
    d v w = option_map_or (λ n. p n.0 n.1) (state_number v w) Inf

    element_cost : (x : E) → c (label x) ≡ m x
    element_cost x = elim (K.counts x) [
      | inl q ↦ ap (λ o. option_map_or m o Inf) q
      | inr q ↦ ap (λ o. option_map_or m o Inf) q.0 ∙ sym (no_least (OfTree N x) (m x) (λ d t. q.1 t.0 t.1) (X.trees x))
    ]

    state_cost : (x : E) (s : S) → d (label x) (state x s) ≡ p x s
    state_cost x s = elim (K.counts_states x s) [
      | inl q ↦ ap (λ o. option_map_or (λ n. p n.0 n.1) o Inf) q
      | inr q ↦ ap (λ o. option_map_or (λ n. p n.0 n.1) o Inf) q.0 ∙ sym (no_least (OfPath N m x s) (p x s) (λ d t. q.1 t.0 t.1) (X.paths x s))
    ]

    dead_cost : (v : F) → IsDead G v → c v ≡ Inf
    dead_cost v n = by (number v) refl
      where
        by : (o : Option E) → number v ≡ o → option_map_or m o Inf ≡ Inf
        by None q = refl
        by (Some x) q = no_least (OfTree N x) (m x)
            (λ d t. let u = tree-to N G label state R x d t in n u.0 (subst (λ w. Grows G w (G.start w) u.0) (K.named v x q) u.1)) (X.trees x)

    stuck_cost : (v : F) (w : T) → IsStuck G v w → d v w ≡ Inf
    stuck_cost v w n = by (state_number v w) refl
      where
        by : (o : Option (E × S)) → state_number v w ≡ o → option_map_or (λ n. p n.0 n.1) o Inf ≡ Inf
        by None q = refl
        by (Some x) q =
            let e = K.named_states v w x.0 x.1 q in
            no_least (OfPath N m x.0 x.1) (p x.0 x.1)
            (λ d t. n (map label t.0) (subst (λ z. Path G z w (map label t.0)) e.0
            (subst (λ z. Path G (label x.0) z (map label t.0)) e.1 (path-to N G label state R t.0 x.0 x.1 t.1)))) (X.paths x.0 x.1)

    pub carried : AreCarried G label state m p c d
    carried = record { elements = element_cost; dead = dead_cost; states = state_cost; stuck = stuck_cost }
