use Rattle.std.proofs.Common.{◌≡◌, ◌++◌, drop}
use Rattle.position_automata.specs.Places.{product}
use Rattle.position_automata.proofs.owed.push_product.Given as goal

abbrev pub invariant-loop-x : goal.invariant-loop-x
invariant-loop-x l = l.edges.items ++ product (drop l.x-index l.xs) l.ys ≡ l.initial.edges.items ++ product l.xs l.ys
