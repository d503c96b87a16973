use Rattle.std.proofs.Common.{◌≡◌, drop, replicate, None}
use Rattle.std.specs.List.{list_any}
use Rattle.model_inclusion.specs.Included.{do_part}
use Rattle.model_inclusion.proofs.parting.any_part.Given as goal

abbrev pub invariant-loop-i : goal.invariant-loop-i
invariant-loop-i l = record {
  blank : l.steps.items ≡ replicate l.names None;
  rest : list_any (do_part l.first l.second l.firsts l.seconds l.names l.ends) (drop l.i-index l.pairs)
      ≡ list_any (do_part l.first l.second l.firsts l.seconds l.names l.ends) l.pairs;
}
