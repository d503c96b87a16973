use Rattle.content_models.proofs.Readable.{name_rule, sequence_rule, choice_rule}
use Rattle.content_models.proofs.laws.derivation_law.Goals as goal

pub returns : goal.returns
returns c = record { name = name_rule; sequence = sequence_rule; choice = choice_rule }
