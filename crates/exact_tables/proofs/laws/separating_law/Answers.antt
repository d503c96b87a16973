use Rattle.exact_tables.proofs.Chosen.{chosen_is_built}
use Rattle.exact_tables.proofs.Existing.{chosen_exists}
use Rattle.exact_tables.proofs.laws.separating_law.Goals as goal

pub returns : goal.returns
returns c = record { built = chosen_is_built; exists = chosen_exists }
