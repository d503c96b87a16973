use Rattle.std.proofs.Common.{◌∙◌}
use Rattle.decl_set.proofs.Growing.{declared_found}
use Rattle.decl_set.proofs.set.DeclSet.is_declared.Goals as goal

pub returns : goal.returns
returns c = rw (← c.self.view_is) (c.contains_key.ensures ∙ declared_found c.self.inside c.args.name.now)
