-- The shape of what is held of elements: whatever is known of it is known in one way, so that a graph may keep it.
use Rattle.std.specs.Prelude.{◌≤◌, ℕ, List, [], ◌∷◌, length, Option, Some, None}
use Rattle.std.specs.Coded.{×_prop, Unit-prop, le_prop, Coded-set, coded_ℕ}
use Rattle.std.specs.List.{AllByRecursion-prop}
use Rattle.std.proofs.Common.{inl, inr, ap, arith}
use Rattle.decl_set.specs.Declarations.{Element}
use Rattle.model_inclusion.specs.Listed.{Precedes, IsAscending}
use Rattle.least_trees.specs.Plans.{Plan, IsOn, IsPlan}
use Rattle.comparison_tables.specs.declared.sides.Side.{Side}

-- the pairs ascend, and are not too many
abbrev pub IsFine : Side → Type 0
IsFine side = IsAscending side.pairs × (length side.pairs ≤ 2000000)

-- one for each of these elements
abbrev pub AreFine : List Element → List Side → Type 0
AreFine [] [] = Unit {0}
AreFine [] (side ∷ sides) = ⊥
AreFine (e ∷ es) [] = ⊥
AreFine (e ∷ es) (side ∷ sides) = IsFine side × AreFine es sides

-- ---- in one way

is_on_prop : (count : ℕ) (o : Option ℕ) → IsProp (IsOn count o)
is_on_prop count None = Unit-prop
is_on_prop count (Some x) = le_prop

pub is_plan_prop : (plan : Plan) → IsProp (IsPlan plan)
is_plan_prop plan = hlevel (le_prop, is_on_prop)

precedes_prop : (p q : ℕ × ℕ) → IsProp (Precedes p q)
precedes_prop p q (inl a) (inl b) = ap inl (le_prop a b)
precedes_prop p q (inl a) (inr b) = absurd (omega (arith, b.0))
precedes_prop p q (inr a) (inl b) = absurd (omega (arith, a.0))
precedes_prop p q (inr a) (inr b) = ap inr (×_prop (Coded-set coded_ℕ p.0 q.0) le_prop a b)

ascending_prop : (pairs : List (ℕ × ℕ)) → IsProp (IsAscending pairs)
ascending_prop [] = Unit-prop
ascending_prop (p ∷ pairs) = ×_prop (AllByRecursion-prop (Precedes p) (precedes_prop p) pairs) (ascending_prop pairs)

none_prop : IsProp ⊥
none_prop x y = absurd x

pub are_fine_prop : (es : List Element) (sides : List Side) → IsProp (AreFine es sides)
are_fine_prop [] [] = Unit-prop
are_fine_prop [] (side ∷ sides) = none_prop
are_fine_prop (e ∷ es) [] = none_prop
are_fine_prop (e ∷ es) (side ∷ sides) = ×_prop (×_prop (ascending_prop side.pairs) le_prop) (are_fine_prop es sides)
