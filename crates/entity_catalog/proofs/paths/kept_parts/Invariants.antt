use Rattle.std.proofs.Common.{◌≡◌, Some, map}
use Rattle.entity_catalog.specs.Join.{kept_of}
use Rattle.entity_catalog.proofs.paths.kept_parts.Given as goal

abbrev pub invariant-loop-part : goal.invariant-loop-part
invariant-loop-part l =
    (goal.iterator-loop-part).can_next l.part-iterator × (goal.iterator-loop-part).is_finite l.part-iterator × (kept_of (map (λ x. x.now) l.yielded) ≡ Some (map (λ x. x.now) l.kept.items))
