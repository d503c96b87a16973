-- A plan of two elements. Element 0 weighs 2 and has states 0 and 1, of which 1 accepts; from 0 lead to 1 a step on a name that
-- is no element, one on element 0 itself and one on element 1. Element 1 weighs 3; its one state accepts, and has a step on
-- element 0.
use Rattle.std.specs.Prelude.{ℕ, zero, suc, List, [], ◌∷◌, Bool, true, false, Some, None}
use Rattle.least_trees.specs.Plans.{Plan, Step}

abbrev pub states : ℕ → ℕ
states zero = 2
states (suc zero) = 1
states (suc (suc e)) = 0

abbrev pub weight : ℕ → ℕ
weight zero = 2
weight (suc e) = 3

abbrev pub accepts : ℕ → ℕ → Bool
accepts zero zero = false
accepts zero (suc zero) = true
accepts zero (suc (suc i)) = false
accepts (suc zero) zero = true
accepts (suc zero) (suc i) = false
accepts (suc (suc e)) i = false

abbrev pub steps : ℕ → ℕ → List Step
steps zero zero = (None, 1) ∷ (Some 0, 1) ∷ (Some 1, 1) ∷ []
steps zero (suc i) = []
steps (suc zero) zero = (Some 0, 0) ∷ []
steps (suc zero) (suc i) = []
steps (suc (suc e)) i = []

abbrev pub literal_plan : Plan
literal_plan = record {
  count = 2;
  states = states;
  numbers = record { cap = 100; weight = weight; accepts = accepts; steps = steps };
}
