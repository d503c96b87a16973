use Rattle.model_inclusion.proofs.Separating.{separates_at_pairs}
use Rattle.model_inclusion.proofs.laws.inclusion_law.Goals as goal

pub returns : goal.returns
returns c = separates_at_pairs
