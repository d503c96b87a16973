use Rattle.article_validator.proofs.Filled.{filled_once}
use Rattle.article_validator.proofs.FilledValid.{filled_valid}
use Rattle.article_validator.proofs.laws.filling_law.Goals as goal

pub returns-clause-once : goal.returns-clause-once
returns-clause-once c = filled_once

pub returns-clause-valid : goal.returns-clause-valid
returns-clause-valid c = filled_valid
