use Rattle.position_automata.proofs.States.{derives_by_runs}
use Rattle.position_automata.proofs.laws.runs_law.Goals as goal

pub returns : goal.returns
returns c = derives_by_runs
