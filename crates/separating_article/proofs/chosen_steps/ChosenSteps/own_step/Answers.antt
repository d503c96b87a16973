use Rattle.separating_article.proofs.FoundSteps.{chosen_at, more_chosen}
use Rattle.separating_article.proofs.chosen_steps.ChosenSteps.own_step.Goals as goal

pub returns-in-Some-clause-value : goal.returns-in-Some-clause-value
returns-in-Some-clause-value c =
    chosen_at c.args.guide.now c.args.self.now c.args.e c.args.state c.in-Some.step c.requires.chosen c.in-Some.ensures

pub returns-in-None-clause-chosen : goal.returns-in-None-clause-chosen
returns-in-None-clause-chosen c =
    more_chosen c.args.guide.now c.args.self.now c.keep.new.self c.args.e c.args.state c.next_step-step.result c.requires.chosen c.next_step-step.ensures c.keep.ensures
