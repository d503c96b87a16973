use Rattle.std.proofs.Common.{◌≡◌, ◌+◌, ◌-◌, ◌≤◌, [], length}
use Rattle.attlist_merge.specs.Reading.{group}
use Rattle.attlist_merge.proofs.parse.read_tokens.Given as goal

abbrev pub invariant-loop-token : goal.invariant-loop-token
invariant-loop-token l = record {
  few : length l.tokens + length l.rest ≤ length l.text;
  value : group (length l.text - length l.tokens) l.tokens l.rest ≡ group (length l.text) [] l.text;
}

abbrev pub decreases-loop-token : goal.decreases-loop-token
decreases-loop-token l = length l.rest
