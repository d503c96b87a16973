use Rattle.std.proofs.Common.{◌∙◌, arith}
use Rattle.std.proofs.lemmas.Bool.{le-ltb}
use Rattle.comparison_tables.proofs.Outside.{none_accepts}
use Rattle.comparison_tables.proofs.accepting.accepts.Goals as goal

pub returns-else-i-states : goal.returns-else-i-states
returns-else-i-states c =
    le-ltb c.args.i c.states.result c.if-i-states.false ∙ none_accepts c.args.automaton.now c.args.i (omega (arith, c.states.ensures.states, c.if-i-states.false))
