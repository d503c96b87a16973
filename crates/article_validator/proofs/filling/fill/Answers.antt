use Rattle.std.proofs.Common.{◌∙◌, sym}
use Rattle.article_validator.specs.FillingSteps.{whole_of}
use Rattle.article_validator.proofs.FillingSteps.{fill_put}
use Rattle.article_validator.proofs.filling.fill.Goals as goal

pub returns : goal.returns
unfolding whole_of
returns c =
    let n = c.node.inside in
    c.in_ok-fill_all.ensures ∙ fill_put c.args.set.now c.args.node.now _ _ n.items _ n.name n.atts (sym c.node.view_is) c.as_slice.ensures c.in_ok-begun.ensures c.new.ensures.items
