use Rattle.std.proofs.Common.{arith, ◌∙◌, ap}
use Rattle.model_inclusion.proofs.Telling.{pairs_within, told_apart, same_rows}
use Rattle.std.specs.List.{list_any}
use Rattle.model_inclusion.specs.Included.{do_part}
use Rattle.model_inclusion.proofs.side.compare.Goals as goal

pub any_part-requires-clause-within : goal.any_part-requires-clause-within
any_part-requires-clause-within c =
    pairs_within c.args.live.now c.args.first.now c.args.second.now c.in_ok-firsts.firsts c.in_ok-seconds.seconds c.as_slice-3.result.now c.as_slice-4.result.now c.as_slice-5.result.now c.in_ok-found.found
    c.in_ok-firsts.ensures.rows c.in_ok-seconds.ensures.rows c.as_slice-3.ensures c.as_slice-4.ensures c.as_slice-5.ensures c.in_ok-found.ensures

pub returns : goal.returns
returns c = (
  (c.in_ok-found.found, c.in_ok-found.ensures, c.len-pairs.ensures),
  omega arith,
  told_apart c.args.live.now c.args.first.now c.args.second.now c.as_slice-3.result.now c.as_slice-4.result.now c.args.ends.now
      (same_rows c.args.live.now c.args.first.now c.in_ok-firsts.firsts c.as_slice-3.result.now c.as_slice-3.ensures c.in_ok-firsts.ensures.rows)
      (same_rows c.args.live.now c.args.second.now c.in_ok-seconds.seconds c.as_slice-4.result.now c.as_slice-4.ensures c.in_ok-seconds.ensures.rows)
      c.states.ensures.deterministic c.requires c.in_ok-found.found c.in_ok-found.ensures c.len.result c.len.ensures.value c.in_ok-separates.separates
      (c.in_ok-separates.ensures ∙ ap (list_any (do_part c.args.first.now c.args.second.now c.as_slice-3.result.now c.as_slice-4.result.now c.len.result c.args.ends.now)) c.as_slice-5.ensures),
)
