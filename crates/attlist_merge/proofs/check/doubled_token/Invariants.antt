use Rattle.std.proofs.Common.{◌≡◌, [], drop}
use Rattle.attlist_merge.specs.Lists.{again}
use Rattle.attlist_merge.proofs.Seen.{lent}
use Rattle.attlist_merge.proofs.check.doubled_token.Given as goal

abbrev pub invariant-loop-token : goal.invariant-loop-token
invariant-loop-token l = again (lent l.seen.keys) (drop l.token-index l.tokens) ≡ again [] l.tokens
