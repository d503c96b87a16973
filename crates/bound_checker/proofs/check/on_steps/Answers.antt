use Rattle.std.proofs.Common.{arith, refl, sym, ◌∙◌, None, slice_get}
use Rattle.decl_set.specs.Steps.{steps_in}
use Rattle.bound_checker.specs.Holding.{costs_in}
use Rattle.bound_checker.specs.Tests.{on_step}
use Rattle.bound_checker.proofs.ByPlace.{child_told, child_none, told_child}
use Rattle.bound_checker.proofs.Firsts.{each_stop, each_hit, each_miss, each_end}
use Rattle.bound_checker.proofs.Stepping.{few}
use Rattle.bound_checker.proofs.check.on_steps.Goals as goal

pub returns-in-None : goal.returns-in-None
returns-in-None c =
    let steps = steps_in c.args.held.now.first.now c.args.held.now.automaton.now c.args.state in
    each_stop (on_step c.args.held.now.first.now c.args.held.now.second.now c.args.held.now.tables.now.cap (costs_in c.args.held.now) c.args.held.now.place c.args.held.now.name.now c.args.state)
    steps c.loop-step.step None
    (sym (child_none c.args.held.now.first.now (slice_get steps c.loop-step.step)
    (sym c.in-None.is ∙ told_child c.args.held.now.first.now c.args.held.now.place c.args.state c.loop-step.step c.args.held.now.name.now c.args.held.now.automaton.now c.child_at.result c.requires.place c.child_at.ensures.value)))
    refl c.loop-step.invariant

pub returns-in-Some-on_step : goal.returns-in-Some-on_step
returns-in-Some-on_step c =
    let steps = steps_in c.args.held.now.first.now c.args.held.now.automaton.now c.args.state in
    let step = child_told c.args.held.now.first.now (slice_get steps c.loop-step.step) c.in-Some.child c.in-Some.to
    (sym c.in-Some.is ∙ told_child c.args.held.now.first.now c.args.held.now.place c.args.state c.loop-step.step c.args.held.now.name.now c.args.held.now.automaton.now c.child_at.result c.requires.place c.child_at.ensures.value) in
    each_hit (on_step c.args.held.now.first.now c.args.held.now.second.now c.args.held.now.tables.now.cap (costs_in c.args.held.now) c.args.held.now.place c.args.held.now.name.now c.args.state)
    steps c.loop-step.step (step.0, c.in-Some.to) c.on_step.result c.in-Some-on_step.broken (sym step.1) (c.on_step.ensures step.0 step.2) c.in-Some-on_step.is c.loop-step.invariant

pub loop-step-preserved : goal.loop-step-preserved
loop-step-preserved c =
    let steps = steps_in c.args.held.now.first.now c.args.held.now.automaton.now c.args.state in
    let step = child_told c.args.held.now.first.now (slice_get steps c.loop-step.step) c.in-Some.child c.in-Some.to
    (sym c.in-Some.is ∙ told_child c.args.held.now.first.now c.args.held.now.place c.args.state c.loop-step.step c.args.held.now.name.now c.args.held.now.automaton.now c.child_at.result c.requires.place c.child_at.ensures.value) in
    each_miss (on_step c.args.held.now.first.now c.args.held.now.second.now c.args.held.now.tables.now.cap (costs_in c.args.held.now) c.args.held.now.place c.args.held.now.name.now c.args.state)
    steps c.loop-step.step (step.0, c.in-Some.to) c.on_step.result (sym step.1) (c.on_step.ensures step.0 step.2) c.in-None-on_step.is c.loop-step.invariant

pub returns : goal.returns
returns c =
    let small = few c.args.held.now.first.now c.args.held.now.name.now c.args.held.now.automaton.now c.args.state c.requires.first c.requires.declared in
    each_end (on_step c.args.held.now.first.now c.args.held.now.second.now c.args.held.now.tables.now.cap (costs_in c.args.held.now) c.args.held.now.place c.args.held.now.name.now c.args.state)
    (steps_in c.args.held.now.first.now c.args.held.now.automaton.now c.args.state) c.loop-step.step (omega (arith, small, c.loop-step-test.false)) c.loop-step.invariant
