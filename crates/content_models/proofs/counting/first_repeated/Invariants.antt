use Rattle.std.proofs.Common.{◌≡◌, map, take, drop}
use Rattle.content_models.specs.Proper.{repeated_after, repeated}
use Rattle.content_models.proofs.counting.first_repeated.Given as goal

abbrev pub invariant-loop-name : goal.invariant-loop-name
invariant-loop-name l = record {
  seen : map (λ x. x.now) l.seen.keys ≡ take l.name-index l.names;
  rest : repeated_after (take l.name-index l.names) (drop l.name-index l.names) ≡ repeated l.names;
}
