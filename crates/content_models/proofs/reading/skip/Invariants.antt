use Rattle.std.proofs.Common.{◌≡◌, ◌-◌, ◌≤◌, drop, length}
use Rattle.content_models.specs.Reading.{skip}
use Rattle.content_models.proofs.reading.skip.Given as goal

abbrev pub invariant-loop-end : goal.invariant-loop-end
invariant-loop-end l = record {
  from : l.at ≤ l.end;
  within : l.end ≤ length l.text;
  value : skip (drop l.end l.text) ≡ skip (drop l.at l.text);
}

abbrev pub decreases-loop-end : goal.decreases-loop-end
decreases-loop-end l = length l.text - l.end
