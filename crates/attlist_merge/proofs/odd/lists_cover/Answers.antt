use Rattle.attlist_merge.proofs.Showing.{cover_by}
use Rattle.attlist_merge.proofs.odd.lists_cover.Goals as goal

pub returns-clause-covers : goal.returns-clause-covers
returns-clause-covers c = cover_by c.args.first.now c.args.second.now c.are_alike.result c.len.ensures.kept c.len-2.ensures.kept c.are_alike.ensures
