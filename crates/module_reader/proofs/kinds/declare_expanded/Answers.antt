use Rattle.std.proofs.Common.{Result, Ok, Err, OnOk}
use Rattle.module_reader.specs.Moves.{GoesOn}
use Rattle.module_reader.specs.declared.refusals.Stop.{Stop}
use Rattle.module_reader.specs.declared.state.State.{State}
use Rattle.module_reader.proofs.Going.{goes_further}
use Rattle.module_reader.proofs.kinds.declare_expanded.Goals as goal

declared_on : (a b c : State) (r : Result (Unit {0}) Stop) → GoesOn a b → OnOk r (GoesOn b c) → OnOk r (GoesOn a c)
declared_on a b c (Ok x) first second = goes_further a b c first second
declared_on a b c (Err f) first second = tt

pub returns-in-Ok-clause-goes_on : goal.returns-in-Ok-clause-goes_on
returns-in-Ok-clause-goes_on g c = declared_on c.args.state.now c.expand_body.new.state c.declare.new.state c.declare.result c.in-Ok.ensures.goes_on c.declare.ensures.goes_on
