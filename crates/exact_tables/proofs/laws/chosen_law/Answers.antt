use Rattle.exact_tables.proofs.Choosing.{one_least, one_chosen}
use Rattle.exact_tables.proofs.laws.chosen_law.Goals as goal

pub returns : goal.returns
returns c = record {
  least = one_least;
  chosen = one_chosen;
}
