use Rattle.std.proofs.Common.{◌∙◌, sym, arith, slice_get}
use Rattle.decl_set.specs.Steps.{steps_at}
use Rattle.separating_article.specs.Choosing.{attains, state_of, step_by}
use Rattle.separating_article.proofs.NextSteps.{left_found, left_next, left_end, left_none, few_steps}
use Rattle.separating_article.proofs.choosing.first_step.Goals as goal

pub returns-in-None-clause-step : goal.returns-in-None-clause-step
returns-in-None-clause-step c =
    let guide = c.args.guide.now in
    left_none (attains guide c.args.e c.args.path) (steps_at guide.first.now (slice_get guide.first.now.elements c.args.e) (state_of c.args.path)) c.loop-k.k
    c.in-None.ensures.step c.loop-k.invariant

pub returns-then-attains-clause-step : goal.returns-then-attains-clause-step
returns-then-attains-clause-step c =
    let guide = c.args.guide.now in
    left_found (attains guide c.args.e c.args.path) (steps_at guide.first.now (slice_get guide.first.now.elements c.args.e) (state_of c.args.path)) c.loop-k.k
    (step_by c.in-Some.child) c.in-Some.ensures.step (sym c.attains.ensures ∙ c.if-attains.true) c.loop-k.invariant

pub loop-k-preserved : goal.loop-k-preserved
loop-k-preserved c =
    let guide = c.args.guide.now in
    left_next (attains guide c.args.e c.args.path) (steps_at guide.first.now (slice_get guide.first.now.elements c.args.e) (state_of c.args.path)) c.loop-k.k
    (step_by c.in-Some.child) c.in-Some.ensures.step (sym c.attains.ensures ∙ c.if-attains.false) c.loop-k.invariant

pub returns-clause-step : goal.returns-clause-step
returns-clause-step c =
    let guide = c.args.guide.now in
    let small = few_steps guide.first.now c.requires.first c.args.e (state_of c.args.path) in
    left_end (attains guide c.args.e c.args.path) (steps_at guide.first.now (slice_get guide.first.now.elements c.args.e) (state_of c.args.path)) c.loop-k.k
    (omega (arith, small, c.loop-k-test.false)) c.loop-k.invariant
