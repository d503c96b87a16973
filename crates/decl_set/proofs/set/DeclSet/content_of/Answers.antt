use Rattle.decl_set.proofs.Reading.{content_none, content_some}
use Rattle.decl_set.proofs.set.DeclSet.content_of.Goals as goal

pub returns-in-None : goal.returns-in-None
returns-in-None c = rw (← c.self.view_is) (content_none c.self.inside.elements.entries c.args.name.now c.in-None.ensures.value)

pub returns-in-Some : goal.returns-in-Some
returns-in-Some c = rw (← c.self.view_is) (content_some c.self.inside.elements.entries c.args.name.now c.in-Some.declared.now c.in-Some.ensures.value)
