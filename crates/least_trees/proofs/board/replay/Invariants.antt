use Rattle.std.proofs.Common.{◌≡◌, ◌<◌, ◌≤◌, ◌+◌, length, map}
use Rattle.least_trees.specs.Board.{IsAbove, IsWholeBut}
use Rattle.least_trees.proofs.board.replay.Given as goal

abbrev pub invariant-loop-at : goal.invariant-loop-at
invariant-loop-at g l = record {
  above : IsAbove l.at (length l.done + l.y);
  within : l.at < length l.done + length l.done;
  board : IsWholeBut (length l.done + l.y) l.at l.done (map g.G.Value.Worth.cost l.values) l.winners;
}

abbrev pub decreases-loop-at : goal.decreases-loop-at
decreases-loop-at g l = l.at
