use Rattle.std.proofs.Common.{◌≡◌, ◌∙◌, ℕ, ap, map, slice_get, Option}
use Rattle.std.specs.Prelude.{option_map}
use Rattle.decl_set.specs.Children.{child_step}
use Rattle.decl_set.specs.Declarations.{Declarations}
use Rattle.decl_set.specs.DeclaredBy.{declared_by, as_element}
use Rattle.decl_set.proofs.Reading.{step_found}
use Rattle.decl_set.proofs.Stepping.{told}
use Rattle.decl_set.proofs.set.DeclSet.child_at.Goals as goal

pub returns-in_default-clause-value : goal.returns-in_default-clause-value
returns-in_default-clause-value c =
    let known = told (declared_by c.self.inside) (slice_get (map as_element c.self.inside.elements.entries) c.args.e) c.args.state c.args.k _
    (step_found (declared_by c.self.inside) c.self.inside.elements.entries c.args.e (c.in-Some.field-0-0.now, c.in-Some.declared.now) c.args.state c.args.k _ c.self.invariant.built c.in-Some.ensures.entry c.in_default.not-Any c.place_within.ensures.told) in
    c.child_of.ensures ∙ rw (← c.self.view_is) (ap (option_map {U = Option ℕ × ℕ} (child_step (declared_by c.self.inside))) known)
