use Rattle.std.proofs.Common.{subst, sym}
use Rattle.attlist_merge.specs.Lists.{IsKept}
use Rattle.attlist_merge.proofs.Taken.{kept_taken}
use Rattle.attlist_merge.proofs.list.AttList.truncate.Goals as goal

pub invariant_of-self : goal.invariant_of-self
invariant_of-self c = subst IsKept (sym c.truncate.ensures.entries) (kept_taken c.args.len c.self.inside.atts.entries c.self.invariant)
