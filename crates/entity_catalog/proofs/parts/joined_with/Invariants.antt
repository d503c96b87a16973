use Rattle.std.proofs.Common.{◌≡◌, map, take}
use Rattle.std.specs.List.{join_with_byte}
use Rattle.entity_catalog.proofs.parts.joined_with.Given as goal

abbrev pub invariant-loop-k : goal.invariant-loop-k
invariant-loop-k l = l.joined ≡ join_with_byte l.separator (map (λ x. x.now) (take l.k l.parts))
