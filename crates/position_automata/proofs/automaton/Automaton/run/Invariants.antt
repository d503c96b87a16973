use Rattle.std.proofs.Common.{◌<◌, take}
use Rattle.position_automata.specs.Automata.{states, Leads}
use Rattle.position_automata.proofs.automaton.Automaton.run.Given as goal

abbrev pub invariant-loop-name : goal.invariant-loop-name
invariant-loop-name l = record {
  leads : Leads l.self (take l.name-index l.names) l.state;
  within : l.state < states l.self;
}
