use Rattle.std.proofs.Common.{arith, refl}
use Rattle.article_validator.specs.FillingSteps.{whole_of, steps_of}
use Rattle.article_validator.proofs.FillingSteps.{all_filled, element_left, none_waits}
use Rattle.article_validator.proofs.filling.leave_element.Goals as goal

pub returns-in-None-clause-all : goal.returns-in-None-clause-all
unfolding whole_of
returns-in-None-clause-all c =
    let w = c.args.work.now in
    all_filled c.args.set.now w.node w.later.now w.waiting.items c.requires (none_waits w.waiting.items (omega (arith, w.waiting.ok.0, c.in-None.ensures.cases.0)))

pub returns-in_ok-push-in-Some-clause-leaves : goal.returns-in_ok-push-in-Some-clause-leaves
unfolding whole_of steps_of
returns-in_ok-push-in-Some-clause-leaves c =
    let w = c.args.work.now in
    element_left c.args.set.now w.node c.in-Some.waiting.node c.push.new.self w.later.now c.in-Some.waiting.later.now c.pop.new.self.items w.waiting.items c.in-Some.waiting c.requires c.in-Some.ensures.items refl refl
    (rw (c.replace-inner.ensures.after, c.replace-inner.ensures.value) at c.in_ok-push-in-Some.ensures.ok)
