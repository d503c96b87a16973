use Rattle.article_validator.proofs.Deriving.{derived_by_states}
use Rattle.article_validator.proofs.laws.deriving_law.Goals as goal

pub returns : goal.returns
returns c = derived_by_states
