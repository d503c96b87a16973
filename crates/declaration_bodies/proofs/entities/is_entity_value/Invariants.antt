use Rattle.std.proofs.Common.{◌≡◌, length}
use Rattle.declaration_bodies.specs.Entities.{is_entity_value}
use Rattle.declaration_bodies.proofs.entities.is_entity_value.Given as goal

abbrev pub invariant-loop-c : goal.invariant-loop-c
invariant-loop-c l = is_entity_value l.rest ≡ is_entity_value l.text

abbrev pub decreases-loop-c : goal.decreases-loop-c
decreases-loop-c l = length l.rest
