use Rattle.decl_set.proofs.ValueNames.{found_name}
use Rattle.decl_set.proofs.spelled.found.Goals as goal

pub returns-clause-name : goal.returns-clause-name
returns-clause-name c = found_name (λ p. p.0.now) c.args.name.now c.args.entities.now.entries c.get_key_value.result c.get_key_value.ensures.key
