use Rattle.std.proofs.Common.{◌≡◌, [], drop}
use Rattle.attlist_merge.specs.Lists.{again}
use Rattle.attlist_merge.proofs.Seen.{lent}
use Rattle.attlist_merge.proofs.check.doubled_name.Given as goal

abbrev pub invariant-loop-name : goal.invariant-loop-name
invariant-loop-name l = again (lent l.seen.keys) (drop l.name-index l.names) ≡ again [] l.names
