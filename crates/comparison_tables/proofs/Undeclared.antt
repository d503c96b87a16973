-- What the first set does not declare has no trees and no paths in the graph of a comparison.
use Rattle.std.proofs.Common.{◌≡◌, ℕ, inl, inr, [], ◌∷◌, Some, None, refl, sym, ◌∙◌}
use Rattle.content_models.specs.declared.content.Content.{Content}
use Rattle.content_models.specs.Model.{Chars}
use Rattle.decl_set.specs.Declarations.{Declarations, content_in}
use Rattle.tree_costs.specs.Graphs.{Graph, bare, tree}
use Rattle.tree_costs.specs.Numbered.{IsDead, IsStuck}
use Rattle.exact_tables.specs.Comparing.{Elem, Plain, Copy, name, State, Go, Fs, Gs, Start, start, accepts, step, comparison}

module _ (first second : Declarations) where
  -- a step or an end tells that the element is declared
  pub step_declared : (x : Elem) (s : State) (y : Elem) (t : State) → step first second x s y t → (a : Content) × (content_in first (name x) ≡ Some a)
  step_declared x (Go i) (Plain on) (Go k) h = (h.0, h.1)
  step_declared (Copy e) (Fs i) (Copy on) (Go k) h = (h.0, h.1)
  step_declared (Copy e) (Fs i) (Plain on) (Fs k) h = (h.0, h.1)
  step_declared (Copy e) (Gs i j) (Plain on) (Gs k l) h = (h.0, h.2)
  step_declared (Copy e) (Gs i j) (Plain on) (Go k) h = (h.0, h.2)
  step_declared (Copy e) Start (Copy on) (Go k) h = (h.0, h.1)
  step_declared (Copy e) Start (Plain on) (Fs k) h = (h.0, h.1)
  step_declared (Copy e) Start (Plain on) (Gs k l) h = (h.0, h.2)
  step_declared (Copy e) Start (Plain on) (Go k) (inl h) = (h.0, h.2)
  step_declared (Copy e) Start (Plain on) (Go k) (inr h) = (h.1.0, h.1.1)
  step_declared x s y t h = elim h [ ]

  pub end_declared : (x : Elem) (s : State) → accepts first second x s → (a : Content) × (content_in first (name x) ≡ Some a)
  end_declared x (Go i) h = (h.0, h.1)
  end_declared (Copy e) (Gs i j) h = (h.0, h.2)
  end_declared (Copy e) Start (inl h) = (h.0, h.2)
  end_declared (Copy e) Start (inr h) = (h.1.0, h.1.1)
  end_declared (Copy e) (Fs i) h = elim h [ ]
  end_declared (Plain e) (Gs i j) h = elim h [ ]
  end_declared (Plain e) (Fs i) h = elim h [ ]
  end_declared (Plain e) Start h = elim h [ ]

  pub not_declared : (e : Chars) → content_in first e ≡ None → ((a : Content) × (content_in first e ≡ Some a)) → ⊥
  not_declared e q h = let z : None ≡ Some h.0 = sym q ∙ h.1 in cc

  module _ (cap : ℕ) where
    abbrev G : Graph Elem State
    G = comparison first second cap

    pub is_dead : (x : Elem) → content_in first (name x) ≡ None → IsDead G x
    is_dead x q bare g = not_declared (name x) q (end_declared x (start x) g)
    is_dead x q (tree y inside later) g = not_declared (name x) q (step_declared x (start x) y g.0 g.1)

    pub is_stuck : (x : Elem) (s : State) → content_in first (name x) ≡ None → IsStuck G x s
    is_stuck x s q [] g = not_declared (name x) q (end_declared x s g)
    is_stuck x s q (y ∷ ys) g = not_declared (name x) q (step_declared x s y g.0 g.1)

    -- what neither accepts nor steps has no path
    pub none_leads : (x : Elem) (s : State) → (accepts first second x s → ⊥) → ((y : Elem) (t : State) → step first second x s y t → ⊥) → IsStuck G x s
    none_leads x s a n [] g = a g
    none_leads x s a n (y ∷ ys) g = n y g.0 g.1

  -- the states of elements themselves are those for P
  pub own_only : (e : Chars) (s : State) (y : Elem) (t : State) → ((i : ℕ) → s ≡ Go i → ⊥) → step first second (Plain e) s y t → ⊥
  own_only e (Go i) y t n h = n i refl
  own_only e (Fs i) (Plain on) (Go k) n h = elim h [ ]
  own_only e (Gs i j) (Plain on) (Go k) n h = elim h [ ]
  own_only e Start (Plain on) (Go k) n h = elim h [ ]
  own_only e s y t n h = elim h [ ]

  pub own_ends : (e : Chars) (s : State) → ((i : ℕ) → s ≡ Go i → ⊥) → accepts first second (Plain e) s → ⊥
  own_ends e (Go i) n h = n i refl
  own_ends e (Fs i) n h = elim h [ ]
  own_ends e (Gs i j) n h = elim h [ ]
  own_ends e Start n h = elim h [ ]
