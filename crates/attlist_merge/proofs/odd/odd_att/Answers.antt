use Rattle.attlist_merge.proofs.Showing.{told_by, none_by}
use Rattle.attlist_merge.proofs.odd.odd_att.Goals as goal

pub returns-clause-told : goal.returns-clause-told
returns-clause-told c = told_by c.args.first.now c.args.second.now c.first_odd.result c.len.ensures.kept c.len-2.ensures.kept c.first_odd.ensures

pub returns-clause-none : goal.returns-clause-none
returns-clause-none c = none_by c.args.first.now c.args.second.now c.first_odd.result c.len.ensures.kept c.len-2.ensures.kept c.first_odd.ensures
