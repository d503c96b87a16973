use Rattle.std.proofs.Common.{◌≡◌, ◌++◌, drop}
use Rattle.position_automata.specs.Places.{all_letters, models}
use Rattle.position_automata.proofs.names.+spell.Given as goal

abbrev pub invariant-spell_parts-loop-part : goal.invariant-spell_parts-loop-part
invariant-spell_parts-loop-part l = l.out ++ all_letters (models (drop l.part-index l.parts)) ≡ l.initial.out ++ all_letters (models l.parts)
