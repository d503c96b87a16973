use Rattle.std.proofs.Common.{◌≡◌, ◌<◌, ◌≤◌, ◌+◌, length, map}
use Rattle.least_trees.specs.Board.{IsWholeFrom}
use Rattle.least_trees.proofs.board.set_up.Given as goal

abbrev pub invariant-loop-at : goal.invariant-loop-at
invariant-loop-at g l = record {
  within : l.at ≤ length l.done;
  board : IsWholeFrom l.at l.done (map g.G.Value.Worth.cost l.values) l.winners;
}

abbrev pub decreases-loop-at : goal.decreases-loop-at
decreases-loop-at g l = l.at
