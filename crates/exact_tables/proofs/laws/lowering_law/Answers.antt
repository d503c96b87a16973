use Rattle.exact_tables.proofs.Lowering.{each_gives}
use Rattle.exact_tables.proofs.laws.lowering_law.Goals as goal

pub returns : goal.returns
returns c = each_gives
