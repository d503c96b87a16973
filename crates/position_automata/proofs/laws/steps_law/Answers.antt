use Rattle.position_automata.proofs.Stepping.{accepts_by_test, steps_are_told, steps_follow, step_on_follows, one_step_on, steps_agree, are_within, few_steps}
use Rattle.position_automata.proofs.laws.steps_law.Goals as goal

pub returns : goal.returns
returns c = record { accepts = accepts_by_test; told = steps_are_told; follow = steps_follow; on = step_on_follows; one = one_step_on; agree = steps_agree; within = are_within; few = few_steps }
