use Rattle.pe_expansion.proofs.Found.{found_name}
use Rattle.pe_expansion.proofs.bindings.Bindings.numbered.Goals as goal

pub returns-clause-name : goal.returns-clause-name
returns-clause-name c = found_name (λ p. p.1.now) c.args.name.now c.self.inside.entries.entries c.get_full.result c.get_full.ensures.key
