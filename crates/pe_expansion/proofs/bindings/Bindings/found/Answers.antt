use Rattle.pe_expansion.proofs.Found.{found_name}
use Rattle.pe_expansion.proofs.bindings.Bindings.found.Goals as goal

pub returns-clause-name : goal.returns-clause-name
returns-clause-name c = found_name (λ p. p.0.now) c.args.name.now c.self.inside.entries.entries c.get_key_value.result c.get_key_value.ensures.key
