use Rattle.std.proofs.Common.{◌≡◌, ◌-◌, ◌≤◌, [], drop, length}
use Rattle.content_models.specs.Reading.{more, bare}
use Rattle.content_models.proofs.parsing.read_names.Given as goal

abbrev pub invariant-loop-end : goal.invariant-loop-end
invariant-loop-end l = record {
  within : l.end ≤ length l.text;
  onward : l.at ≤ l.end;
  few : length l.list ≤ l.end;
  value : more bare (length l.text - length l.list) 124 l.list (drop l.end l.text) ≡ more bare (length l.text) 124 [] (drop l.at l.text);
}

abbrev pub decreases-loop-end : goal.decreases-loop-end
decreases-loop-end l = length l.text - l.end
