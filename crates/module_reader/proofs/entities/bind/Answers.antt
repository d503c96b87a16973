use Rattle.module_reader.proofs.Growing.{binds_on}
use Rattle.module_reader.proofs.entities.bind.Goals as goal

pub returns-in-Ok-clause-goes_on : goal.returns-in-Ok-clause-goes_on
returns-in-Ok-clause-goes_on c = binds_on c.args.state.now c.bind.new.self c.args.name c.args.text c.bind.result c.in-Ok.field-0 c.in-Ok.is c.bind.ensures c.requires.chars
