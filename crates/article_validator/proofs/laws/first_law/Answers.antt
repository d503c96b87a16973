use Rattle.article_validator.proofs.Unbroken.{none_broken}
use Rattle.article_validator.proofs.laws.first_law.Goals as goal

pub returns : goal.returns
returns c = none_broken
