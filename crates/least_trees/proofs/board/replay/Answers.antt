use Rattle.std.proofs.Common.{◌+◌, length, map, arith}
use Rattle.least_trees.proofs.Boards.{above-half, replayed, whole-of}
use Rattle.least_trees.proofs.board.replay.Goals as goal

pub loop-at-preserved : goal.loop-at-preserved
loop-at-preserved g c = record {
  above = above-half c.loop-at.at (length c.args.done.now + c.args.y) c.loop-at.invariant.above;
  within = omega arith;
  board = replayed (length c.args.done.now + c.args.y) c.loop-at.at c.args.done.now (map g.G.Value.Worth.cost c.args.values.now) c.loop-at.winners c.play.new.winners
      c.loop-at.invariant.above (omega arith) c.loop-at.invariant.within c.loop-at.invariant.board c.play.ensures;
}
