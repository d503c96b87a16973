use Rattle.model_inclusion.proofs.Ending.{lists_same}
use Rattle.model_inclusion.proofs.side.pairs.Goals as goal

pub returns : goal.returns
returns c =
    lists_same c.in_ok-live.live c.args.live.now c.in_ok-live.ensures c.args.first.now c.args.second.now c.args.left c.pairs_among.result c.pairs_among.ensures
