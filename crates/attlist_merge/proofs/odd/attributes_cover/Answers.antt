use Rattle.std.specs.Option.{option_copied}
use Rattle.attlist_merge.specs.Shown.{attributes}
use Rattle.attlist_merge.proofs.Showing.{cover_by}
use Rattle.attlist_merge.proofs.odd.attributes_cover.Goals as goal

pub returns-clause-covers : goal.returns-clause-covers
returns-clause-covers c = cover_by (attributes (option_copied c.args.first)) (attributes (option_copied c.args.second)) c.are_alike_in.result c.count.ensures.kept c.count-2.ensures.kept c.are_alike_in.ensures
