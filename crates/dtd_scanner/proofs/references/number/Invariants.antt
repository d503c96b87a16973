use Rattle.std.proofs.Common.{◌≡◌, take}
use Rattle.std.specs.Prelude.{min}
use Rattle.dtd_scanner.specs.References as spec
use Rattle.dtd_scanner.proofs.references.number.Given as goal

abbrev pub invariant-loop-digit : goal.invariant-loop-digit
invariant-loop-digit l = l.number ≡ min (spec.number l.base (take l.digit-index l.digits)) 0x110000
