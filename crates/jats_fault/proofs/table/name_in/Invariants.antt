use Rattle.std.proofs.Common.{◌≡◌, map, drop}
use Rattle.jats_fault.specs.Table as spec
use Rattle.jats_fault.proofs.table.name_in.Given as goal

-- what is left decides
abbrev pub invariant-loop-row : goal.invariant-loop-row
invariant-loop-row l = spec.name_in (map (λ r. (r.0, r.1.now)) l.rows) l.number ≡ spec.name_in (map (λ r. (r.0, r.1.now)) (drop l.row-index l.rows)) l.number
