use Rattle.std.proofs.Common.{map, slice_get}
use Rattle.decl_set.specs.DeclaredBy.{declared_by, as_element}
use Rattle.decl_set.proofs.Reading.{step_found}
use Rattle.decl_set.proofs.Stepping.{told}
use Rattle.decl_set.proofs.set.DeclSet.step_at.Goals as goal

pub returns-in_default-clause-told : goal.returns-in_default-clause-told
returns-in_default-clause-told c =
    rw (← c.self.view_is) (step_found (declared_by c.self.inside) c.self.inside.elements.entries c.args.e (c.in-Some.field-0-0.now, c.in-Some.declared.now) c.args.state c.args.k _ c.self.invariant.built c.in-Some.ensures.entry c.in_default.not-Any c.step_within.ensures)

pub returns-in_default-clause-value : goal.returns-in_default-clause-value
returns-in_default-clause-value c =
    rw (← c.self.view_is) (told (declared_by c.self.inside) (slice_get (map as_element c.self.inside.elements.entries) c.args.e) c.args.state c.args.k _
    (step_found (declared_by c.self.inside) c.self.inside.elements.entries c.args.e (c.in-Some.field-0-0.now, c.in-Some.declared.now) c.args.state c.args.k _ c.self.invariant.built c.in-Some.ensures.entry c.in_default.not-Any c.step_within.ensures))
