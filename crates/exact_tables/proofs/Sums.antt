-- Sums in which one name is counted apart.
use Rattle.std.proofs.Common.{List, [], ◌∷◌, ℕ}
use Rattle.content_models.specs.Model.{Chars}
use Rattle.tree_costs.specs.declared.cost.Cost.{Cost}
use Rattle.tree_costs.specs.Costs.{IsSmall, total}
use Rattle.tree_costs.proofs.Costs.{sum-is}
use Rattle.exact_tables.specs.Families.{total_with}

pub total_with-is : (cap : ℕ) (m v : Chars → Cost) (before : List Chars) (name : Chars) (after : List Chars) → IsSmall cap (total_with cap m v before name after)
total_with-is cap m v [] name after = sum-is cap (v name) (total cap m after)
total_with-is cap m v (x ∷ before) name after = sum-is cap (m x) (total_with cap m v before name after)
