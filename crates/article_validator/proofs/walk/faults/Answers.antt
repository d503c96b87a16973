use Rattle.article_validator.proofs.Told.{valid_told}
use Rattle.article_validator.proofs.walk.faults.Goals as goal

pub returns-clause-none : goal.returns-clause-none
returns-clause-none c = valid_told c.args.set.now c.args.root.now c.args.node.now c.list_of.result c.count.ensures.kept c.list_of.ensures
