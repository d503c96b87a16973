use Rattle.decl_set.proofs.CoveredOdd.{covered_odd}
use Rattle.decl_set.proofs.oddness.are_odd.Goals as goal

pub returns : goal.returns
returns c = covered_odd c.args.first.now c.args.second.now c.lists_cover.result c.len.ensures.kept c.len-2.ensures.kept c.lists_cover.ensures.covers
