use Rattle.position_automata.proofs.States.{derives_by_states, leads_by_ways, one_state_follows}
use Rattle.position_automata.proofs.laws.states_law.Goals as goal

pub returns : goal.returns
returns c = record { derives = derives_by_states; leads = leads_by_ways; one = one_state_follows }
