use Rattle.std.proofs.Common.{◌≡◌, take}
use Rattle.attribute_types.proofs.classes.tokens_of_names.Given as goal

abbrev pub invariant-loop-name : goal.invariant-loop-name
invariant-loop-name l = l.tokens ≡ take l.name-index l.names
