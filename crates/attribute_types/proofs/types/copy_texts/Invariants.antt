use Rattle.std.proofs.Common.{◌≡◌, take}
use Rattle.attribute_types.proofs.types.copy_texts.Given as goal

abbrev pub invariant-loop-text : goal.invariant-loop-text
invariant-loop-text l = l.copy ≡ take l.text-index l.texts
