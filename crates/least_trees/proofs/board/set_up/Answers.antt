use Rattle.std.proofs.Common.{◌+◌, length, map, arith}
use Rattle.least_trees.proofs.Boards.{set_one, whole-from}
use Rattle.least_trees.proofs.board.set_up.Goals as goal

pub loop-at-preserved : goal.loop-at-preserved
loop-at-preserved g c = record {
  within = omega arith;
  board = set_one c.loop-at.at c.args.done.now (map g.G.Value.Worth.cost c.args.values.now) c.loop-at.winners c.play.new.winners
      (omega arith) c.loop-at.invariant.within c.loop-at.invariant.board c.play.ensures;
}
