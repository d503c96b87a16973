use Rattle.std.proofs.Common.{sym}
use Rattle.attlist_merge.proofs.Covering.{covered_told}
use Rattle.attlist_merge.proofs.odd.is_covered.Goals as goal

pub returns-in-Some : goal.returns-in-Some
returns-in-Some c = covered_told c.args.name.now c.args.definition.now c.args.second.now c.in-Some.other.now c.covers.result c.requires c.in-Some.ensures.sound (sym c.in-Some.ensures.value) c.covers.ensures
