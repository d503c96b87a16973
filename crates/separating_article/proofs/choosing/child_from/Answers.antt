use Rattle.std.specs.Option.{option_copied}
use Rattle.std.proofs.Common.{ap, sym, ◌∙◌, slice_get, ℕ, Option, Some}
use Rattle.decl_set.specs.Steps.{steps_at}
use Rattle.bound_checker.proofs.ByPlace.{step_named}
use Rattle.separating_article.proofs.choosing.child_from.Goals as goal

pub returns-in-Some-clause-step : goal.returns-in-Some-clause-step
returns-in-Some-clause-step c =
    let set = c.args.guide.now.first.now in
    (step_named set (slice_get (steps_at set (slice_get set.elements c.args.e) c.args.state) c.args.k) c.in-Some-Some-default.place c.in-Some-Some-default.to c.in-Some.name.now
    (ap (λ (x : Option ℕ). Some (x, c.in-Some-Some-default.to)) (sym c.in-Some-Some-default.field-0-0-is) ∙ sym c.in-Some-Some-default.is ∙ c.child_at.ensures.value)
    (sym c.name_at.ensures ∙ ap option_copied c.in-Some.is)).0

pub returns-in-Some-clause-placed : goal.returns-in-Some-clause-placed
returns-in-Some-clause-placed c =
    let set = c.args.guide.now.first.now in
    (step_named set (slice_get (steps_at set (slice_get set.elements c.args.e) c.args.state) c.args.k) c.in-Some-Some-default.place c.in-Some-Some-default.to c.in-Some.name.now
    (ap (λ (x : Option ℕ). Some (x, c.in-Some-Some-default.to)) (sym c.in-Some-Some-default.field-0-0-is) ∙ sym c.in-Some-Some-default.is ∙ c.child_at.ensures.value)
    (sym c.name_at.ensures ∙ ap option_copied c.in-Some.is)).1
