use Rattle.std.proofs.Common.{◌≡◌, ◌+◌, ◌-◌, ◌≤◌, [], length}
use Rattle.attlist_merge.specs.Reading.{definitions}
use Rattle.attlist_merge.proofs.parse.read_definitions.Given as goal

abbrev pub invariant-loop-rest : goal.invariant-loop-rest
invariant-loop-rest l = record {
  few : length l.atts + length l.rest ≤ length l.text;
  value : definitions (length l.text - length l.atts) l.atts l.rest ≡ definitions (length l.text) [] l.text;
}

abbrev pub decreases-loop-rest : goal.decreases-loop-rest
decreases-loop-rest l = length l.rest
