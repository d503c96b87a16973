use Rattle.std.proofs.Common.{◌≡◌, None, map, length}
use Rattle.entity_catalog.specs.Lines.{line_of}
use Rattle.entity_catalog.specs.Catalogs.{first_fault, named_in}
use Rattle.entity_catalog.proofs.catalog.read_catalog.Given as goal

abbrev pub invariant-loop-line : goal.invariant-loop-line
invariant-loop-line l =
    let lines = map line_of (map (λ x. x.now) l.yielded) in
    (goal.iterator-loop-line).can_next l.line-iterator × (goal.iterator-loop-line).is_finite l.line-iterator × (l.number ≡ length l.yielded) × (first_fault l.place 1 lines ≡ None) × (l.catalog ≡ named_in l.place lines)
