use Rattle.std.proofs.Common.{◌≡◌, drop}
use Rattle.bound_checker.specs.Certificates.{after}
use Rattle.bound_checker.proofs.words.after_name.Given as goal

abbrev pub invariant-loop-n : goal.invariant-loop-n
invariant-loop-n l = after (drop l.n-index l.name) l.left ≡ after l.name l.line
