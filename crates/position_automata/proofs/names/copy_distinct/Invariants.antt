use Rattle.std.proofs.Common.{◌≡◌, take}
use Rattle.position_automata.proofs.names.copy_distinct.Given as goal

abbrev pub invariant-loop-name : goal.invariant-loop-name
invariant-loop-name l = l.copied.keys ≡ take l.name-index l.names.keys
