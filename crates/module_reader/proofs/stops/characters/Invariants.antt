use Rattle.std.proofs.Common.{◌≡◌, take}
use Rattle.module_reader.proofs.stops.characters.Given as goal

abbrev pub invariant-loop-b : goal.invariant-loop-b
invariant-loop-b l = l.chars ≡ take l.b-index l.bytes
