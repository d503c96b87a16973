use Rattle.jats_io.proofs.Puts.{held-put_in, held-put_in-other, names-put_in}
use Rattle.jats_io.proofs.laws.put_law.Goals as goal

pub returns-clause-name : goal.returns-clause-name
returns-clause-name c = held-put_in

pub returns-clause-others : goal.returns-clause-others
returns-clause-others c = held-put_in-other

pub returns-clause-order : goal.returns-clause-order
returns-clause-order c = names-put_in
