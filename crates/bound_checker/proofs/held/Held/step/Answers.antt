use Rattle.std.specs.Option.{option_copied}
use Rattle.std.proofs.Common.{ap, sym, ◌∙◌, slice_get, ℕ, Option, Some}
use Rattle.decl_set.specs.Steps.{steps_in}
use Rattle.bound_checker.proofs.ByPlace.{step_named, told_child}
use Rattle.bound_checker.proofs.held.Held.step.Goals as goal

pub returns-in-Some-clause-step : goal.returns-in-Some-clause-step
returns-in-Some-clause-step c =
    let set = c.args.self.now.first.now in
    (step_named set (slice_get (steps_in set c.args.self.now.automaton.now c.args.state) c.args.k) c.in-Some-Some-default.child c.in-Some-Some-default.to c.in-Some.name.now
    (ap (λ (x : Option ℕ). Some (x, c.in-Some-Some-default.to)) (sym c.in-Some-Some-default.field-0-0-is) ∙ sym c.in-Some-Some-default.is ∙ told_child set c.args.self.now.place c.args.state c.args.k c.args.self.now.name.now c.args.self.now.automaton.now c.child_at.result c.requires.place c.child_at.ensures.value)
    (sym c.name_at.ensures ∙ ap option_copied c.in-Some.is)).0

pub returns-in-Some-clause-child : goal.returns-in-Some-clause-child
returns-in-Some-clause-child c =
    let set = c.args.self.now.first.now in
    (step_named set (slice_get (steps_in set c.args.self.now.automaton.now c.args.state) c.args.k) c.in-Some-Some-default.child c.in-Some-Some-default.to c.in-Some.name.now
    (ap (λ (x : Option ℕ). Some (x, c.in-Some-Some-default.to)) (sym c.in-Some-Some-default.field-0-0-is) ∙ sym c.in-Some-Some-default.is ∙ told_child set c.args.self.now.place c.args.state c.args.k c.args.self.now.name.now c.args.self.now.automaton.now c.child_at.result c.requires.place c.child_at.ensures.value)
    (sym c.name_at.ensures ∙ ap option_copied c.in-Some.is)).1
