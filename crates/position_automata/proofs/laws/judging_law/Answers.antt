use Rattle.position_automata.proofs.Judging.{judges, one_judgement, judged_built, judged_refused}
use Rattle.position_automata.proofs.laws.judging_law.Goals as goal

pub returns : goal.returns
returns c = record { judged = judges; one = one_judgement; built = judged_built; refused = judged_refused }
