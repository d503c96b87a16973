use Rattle.std.proofs.Common.{◌≡◌, drop}
use Rattle.bound_checker.specs.Certificates.{after}
use Rattle.bound_checker.proofs.words.after.Given as goal

abbrev pub invariant-loop-byte : goal.invariant-loop-byte
invariant-loop-byte l = after (drop l.byte-index l.word) l.left ≡ after l.word l.line
