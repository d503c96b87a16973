use Rattle.std.proofs.Common.{◌∙◌, sym, bytes_eq}
use Rattle.position_automata.proofs.Numbers.{unnumbered}
use Rattle.position_automata.proofs.names.number_of.Goals as goal

pub returns-in-None : goal.returns-in-None
returns-in-None c = c.len.ensures.len ∙ unnumbered (bytes_eq c.args.name.now) c.args.found.now.keys (sym c.in-None.ensures.index)
