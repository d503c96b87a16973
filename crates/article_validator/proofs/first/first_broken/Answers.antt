use Rattle.article_validator.proofs.Told.{none_told}
use Rattle.article_validator.proofs.first.first_broken.Goals as goal

pub returns-clause-none : goal.returns-clause-none
returns-clause-none c = none_told c.args.set.now c.args.node.now c.first_in.result c.count.ensures.kept c.first_in.ensures
