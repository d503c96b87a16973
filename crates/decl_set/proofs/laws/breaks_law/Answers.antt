use Rattle.decl_set.proofs.Turns.{turn_by_turn}
use Rattle.decl_set.proofs.laws.breaks_law.Goals as goal

pub returns : goal.returns
returns c = turn_by_turn
