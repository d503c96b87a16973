use Rattle.std.proofs.Common.{◌≡◌, ◌++◌, drop}
use Rattle.position_automata.specs.Places.{beside}
use Rattle.position_automata.proofs.owed.push_beside.Given as goal

abbrev pub invariant-loop-y : goal.invariant-loop-y
invariant-loop-y l = l.edges.items ++ beside l.x (drop l.y-index l.ys) ≡ l.initial.edges.items ++ beside l.x l.ys
