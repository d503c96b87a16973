use Rattle.std.proofs.Common.{◌≡◌, ◌++◌, drop}
use Rattle.position_automata.specs.Owed.{spread}
use Rattle.position_automata.proofs.owed.push_owed.Given as goal

abbrev pub invariant-loop-one : goal.invariant-loop-one
invariant-loop-one l = l.edges.items ++ spread (drop l.one-index l.owed) ≡ l.initial.edges.items ++ spread l.owed
