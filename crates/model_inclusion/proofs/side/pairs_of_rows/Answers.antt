use Rattle.model_inclusion.proofs.Ending.{inside_by, collected}
use Rattle.model_inclusion.proofs.side.pairs_of_rows.Goals as goal

pub reached-requires-clause-within : goal.reached-requires-clause-within
reached-requires-clause-within c =
    inside_by c.args.live.now c.args.first.now c.args.second.now c.args.firsts.now c.args.seconds.now c.len.result c.requires.first c.requires.second c.len.ensures.value c.states-width.ensures.deterministic

pub returns : goal.returns
returns c =
    collected c.args.live.now c.args.first.now c.args.second.now c.args.firsts.now c.args.seconds.now c.len.result c.requires.first c.requires.second c.len.ensures.value c.states-width.ensures.deterministic
    c.states-width.result c.states-width.ensures.states c.in_ok-seen.seen.items c.as_slice.result.now c.in_ok-seen.ensures c.as_slice.ensures.value c.collect.result c.collect.ensures
