use Rattle.module_reader.proofs.Asked.{opens_not}
use Rattle.module_reader.proofs.asking.open_once.Goals as goal

pub returns-in-Err : goal.returns-in-Err
returns-in-Err c = opens_not c.args.chain.now c.args.state.now c.args.name.now c.in-Err.fault c.in-Err.ensures.opens
