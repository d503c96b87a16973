use Rattle.std.proofs.Common.{subst}
use Rattle.separating_article.specs.ChosenSteps.{Found, Keeps}
use Rattle.separating_article.proofs.FoundSteps.{kept}
use Rattle.separating_article.proofs.chosen_steps.ChosenSteps.keep.Goals as goal

pub returns : goal.returns
returns c =
    subst (λ (old : Found). Keeps (c.args.e, c.args.state) c.args.step old c.insert.new.self.entries) c.self.view_is
    (kept c.self.inside.steps c.insert.new.self (c.args.e, c.args.state) c.args.step c.insert.result c.insert.ensures.updates c.insert.ensures.err)
