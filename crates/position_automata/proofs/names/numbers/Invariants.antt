use Rattle.std.proofs.Common.{◌≡◌, take}
use Rattle.position_automata.specs.Rows.{numbers_of}
use Rattle.position_automata.proofs.names.numbers.Given as goal

abbrev pub invariant-loop-name : goal.invariant-loop-name
invariant-loop-name l = l.numbers.items ≡ numbers_of l.found.keys (take l.name-index l.names)
