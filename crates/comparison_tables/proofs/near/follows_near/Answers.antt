use Rattle.std.proofs.Common.{arith}
use Rattle.comparison_tables.proofs.Outside.{none_steps}
use Rattle.comparison_tables.proofs.near.follows_near.Goals as goal

pub returns-else-state-states : goal.returns-else-state-states
returns-else-state-states c = none_steps c.args.automaton.now c.args.state c.args.name.now (omega (arith, c.states.ensures.states, c.if-state-states.false))
