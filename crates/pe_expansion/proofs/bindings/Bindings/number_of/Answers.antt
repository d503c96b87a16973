use Rattle.std.proofs.Common.{◌∙◌, ap, bytes_eq, position}
use Rattle.pe_expansion.proofs.Found.{place_found, position_keys}
use Rattle.pe_expansion.proofs.bindings.Bindings.number_of.Goals as goal

pub returns-clause-place : goal.returns-clause-place
returns-clause-place c = c.get_index_of.ensures.index ∙ rw (← c.self.view_is) (position_keys (bytes_eq c.args.name.now) c.self.inside.entries.entries)

pub returns-clause-text : goal.returns-clause-text
returns-clause-text c = rw (← c.self.view_is) (place_found c.self.inside.entries.entries c.args.name.now c.get_index_of.result c.get_index_of.ensures.found c.get_index_of.ensures.value)
