-- An element of the first set, with what is held of it.
use Rattle.std.specs.Prelude.{◌≡◌, Some, slice_get}
use Rattle.std.specs.Option.{option_copied}
use Rattle.decl_set.specs.Asked.{IsKept}
use Rattle.comparison_tables.specs.declared.held.Held.{Held}
use Rattle.comparison_tables.specs.Shapes.{IsFine}
use Rattle.comparison_tables.specs.Sides.{Known}

-- the name and the automaton are those of the element at the place, and the pairs of the side ascend
pub record IsHeld (held : Held) : Type 0 where
  pub first : IsKept held.first.now
  pub place : slice_get held.first.now.elements held.place ≡ Some (held.name.now, held.automaton.now)
  pub side : IsFine held.side.now

-- what is known of the element
abbrev pub known_in : Held → Known
known_in held = record { content = held.automaton.now; other = option_copied held.other; odd = held.side.now.odd; pairs = held.side.now.pairs }
