use Rattle.exact_tables.proofs.Chosen.{least_is_built}
use Rattle.exact_tables.proofs.Existing.{least_exists}
use Rattle.exact_tables.proofs.laws.least_law.Goals as goal

pub returns : goal.returns
returns c = record { built = least_is_built; exists = least_exists }
