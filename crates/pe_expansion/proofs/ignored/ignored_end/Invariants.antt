use Rattle.std.proofs.Common.{◌≡◌, ◌+◌, ◌≤◌, drop}
use Rattle.pe_expansion.specs.Ignored.{ignored_end, end_from}
use Rattle.pe_expansion.proofs.ignored.ignored_end.Given as goal

-- the end is the one from here on, and there are no more open sections than characters before
abbrev pub invariant-loop-place : goal.invariant-loop-place
invariant-loop-place l = record {
  found : ignored_end l.text l.at ≡ end_from l.place l.depth (drop l.place l.text);
  shallow : l.at + l.depth ≤ l.place;
}
