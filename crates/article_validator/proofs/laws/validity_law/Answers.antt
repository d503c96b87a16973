use Rattle.article_validator.proofs.Valid.{valid_without_faults}
use Rattle.article_validator.proofs.laws.validity_law.Goals as goal

pub returns : goal.returns
returns c = valid_without_faults
