use Rattle.std.proofs.Common.{◌≡◌, ◌+◌, ◌-◌, ◌≤◌, [], length, true}
use Rattle.std.specs.List.{list_all}
use Rattle.jats_chars.specs.Names.{is_name}
use Rattle.attlist_merge.specs.Reading.{group}
use Rattle.attlist_merge.proofs.parse.read_names.Given as goal

abbrev pub invariant-loop-names : goal.invariant-loop-names
invariant-loop-names l = record {
  few : length l.names + length l.rest ≤ length l.text;
  named : list_all is_name l.names ≡ true;
  value : group (length l.text - length l.names) l.names l.rest ≡ group (length l.text) [] l.text;
}

abbrev pub decreases-loop-names : goal.decreases-loop-names
decreases-loop-names l = length l.rest
