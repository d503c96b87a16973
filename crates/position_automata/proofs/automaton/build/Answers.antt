use Rattle.position_automata.proofs.Tabled.{proper_count}
use Rattle.position_automata.proofs.automaton.build.Goals as goal

pub build_model-requires-clause-small : goal.build_model-requires-clause-small
build_model-requires-clause-small c = proper_count c.args.content.now c.in-Children.part c.in-Children.is c.requires
