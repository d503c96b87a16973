use Rattle.model_inclusion.proofs.Telling.{pair_first, pair_second}
use Rattle.model_inclusion.proofs.parting.any_part.Goals as goal

pub parts_at-requires-clause-i_in : goal.parts_at-requires-clause-i_in
parts_at-requires-clause-i_in c = pair_first c.args.firsts.now c.args.seconds.now c.args.pairs.now c.loop-i.i-index c.loop-i-test.true c.requires.within

pub parts_at-requires-clause-j_in : goal.parts_at-requires-clause-j_in
parts_at-requires-clause-j_in c = pair_second c.args.firsts.now c.args.seconds.now c.args.pairs.now c.loop-i.i-index c.loop-i-test.true c.requires.within
