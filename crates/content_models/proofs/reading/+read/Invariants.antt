use Rattle.std.proofs.Common.{◌≡◌, ◌+◌, ◌-◌, ◌*◌, ◌≤◌, drop, length}
use Rattle.content_models.specs.Reading.{more, read}
use Rattle.content_models.proofs.reading.+read.Given as goal

abbrev pub decreases-read : goal.decreases-read
decreases-read l = 4 * l.depth

abbrev pub decreases-read_group : goal.decreases-read_group
decreases-read_group l = 4 * l.depth + 3

abbrev pub decreases-read_group_by : goal.decreases-read_group_by
decreases-read_group_by l = 4 * l.depth + 2

abbrev pub decreases-read_more : goal.decreases-read_more
decreases-read_more l = 4 * l.depth + 1

abbrev pub invariant-read_more-loop-end : goal.invariant-read_more-loop-end
invariant-read_more-loop-end l = record {
  within : l.end ≤ length l.text;
  onward : l.initial.end ≤ l.end;
  few : length l.list ≤ l.end;
  value : more (read (length l.text) l.depth) (length l.text + 1 - length l.list) l.separator l.list (drop l.end l.text)
      ≡ more (read (length l.text) l.depth) (length l.text + 1 - length l.initial.list) l.separator l.initial.list (drop l.initial.end l.text);
}

abbrev pub decreases-read_more-loop-end : goal.decreases-read_more-loop-end
decreases-read_more-loop-end l = length l.text - l.end
