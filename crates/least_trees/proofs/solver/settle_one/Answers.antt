use Rattle.std.proofs.Common.{map}
use Rattle.least_trees.proofs.Boards.{settled-board}
use Rattle.least_trees.proofs.solver.settle_one.Goals as goal

pub replay-requires-clause-board : goal.replay-requires-clause-board
replay-requires-clause-board g c = settled-board c.args.done.now (map g.G.Value.Worth.cost c.args.values.now) c.args.winners.now c.args.x c.requires.spot c.requires.board
