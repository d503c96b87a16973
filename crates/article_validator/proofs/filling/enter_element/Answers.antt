use Rattle.std.proofs.Common.{refl, sym}
use Rattle.article_validator.specs.FillingSteps.{whole_of, steps_of}
use Rattle.article_validator.proofs.FillingSteps.{element_put}
use Rattle.article_validator.proofs.filling.enter_element.Goals as goal

pub returns : goal.returns
unfolding whole_of steps_of
returns c =
    let w = c.args.work.now in
    let n = c.node.inside in
    element_put c.args.set.now c.args.node.now c.in_ok-inner.inner w.node c.replace-outer.new.dest w.later.now c.args.after.now c.as_slice-work.result.now n.items w.waiting.items c.push.new.self.items _ n.name n.atts
    c.requires (sym c.node.view_is) c.as_slice-work.ensures c.in_ok-inner.ensures c.replace-outer.ensures.after c.replace-outer.ensures.value refl c.in_ok-push.ensures.items
