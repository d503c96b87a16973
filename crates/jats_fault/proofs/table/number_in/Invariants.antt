use Rattle.std.proofs.Common.{◌≡◌, map, drop, IsTrue}
use Rattle.jats_fault.specs.Table as spec
use Rattle.jats_fault.proofs.table.number_in.Given as goal

-- what is left decides, and its numbers have two digits
abbrev pub invariant-loop-row : goal.invariant-loop-row
invariant-loop-row l = record {
  decides : spec.number_in (map (λ r. (r.0, r.1.now)) l.rows) l.bytes ≡ spec.number_in (map (λ r. (r.0, r.1.now)) (drop l.row-index l.rows)) l.bytes;
  digits : IsTrue (spec.have_two_digits (map (λ r. (r.0, r.1.now)) (drop l.row-index l.rows)));
}
