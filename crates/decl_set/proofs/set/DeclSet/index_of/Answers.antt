use Rattle.std.proofs.Common.{◌∙◌}
use Rattle.decl_set.proofs.Reading.{place_found}
use Rattle.decl_set.proofs.set.DeclSet.index_of.Goals as goal

pub returns : goal.returns
returns c = rw (← c.self.view_is) (c.get_index_of.ensures.index ∙ place_found c.self.inside.elements.entries c.args.name.now)
