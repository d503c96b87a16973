-- An element in turn, with what is held of it.
use Rattle.std.specs.Prelude.{◌≡◌, ◌≤◌, Some, slice_get}
use Rattle.std.specs.List.{AllByRecursion}
use Rattle.decl_set.specs.Asked.{IsKept}
use Rattle.decl_set.specs.Declarations.{content_in}
use Rattle.bound_checker.specs.declared.held.Held.{Held}
use Rattle.bound_checker.specs.Tabled.{Costs, costs_of, row_of, IsPair, AreAscending}

-- the name and the automaton are those of the element at the place, and the row is its own, with pairs of both contents that ascend
pub record IsHeld (held : Held) : Type 0 where
  pub cap : held.tables.now.cap ≤ 100000
  pub first : IsKept held.first.now
  pub second : IsKept held.second.now
  pub place : slice_get held.first.now.elements held.place ≡ Some (held.name.now, held.automaton.now)
  pub declared : content_in held.first.now held.name.now ≡ Some held.automaton.now
  pub row : row_of held.first.now held.tables.now held.name.now ≡ Some held.row.now
  pub pairs : AllByRecursion (IsPair held.tables.now.cap held.automaton.now (content_in held.second.now held.name.now)) held.row.now.pairs
  pub ascending : AreAscending held.row.now.pairs

-- the costs that the tables give
abbrev pub costs_in : Held → Costs
costs_in held = costs_of held.first.now held.tables.now
