use Rattle.std.proofs.Common.{◌≡◌, map, take}
use Rattle.pe_expansion.specs.Pausing.{place_of}
use Rattle.pe_expansion.proofs.pausing.places_of.Given as goal

abbrev pub invariant-loop-frame : goal.invariant-loop-frame
invariant-loop-frame l = l.places.items ≡ map place_of (take l.frame-index l.frames)
