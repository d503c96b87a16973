use Rattle.decl_set.proofs.Reading.{content_none, automaton_some}
use Rattle.decl_set.proofs.set.DeclSet.automaton_of.Goals as goal

pub returns-in-None : goal.returns-in-None
returns-in-None c = rw (← c.self.view_is) (content_none c.self.inside.elements.entries c.args.name.now c.in-None.ensures.value)

pub returns-in-Some : goal.returns-in-Some
returns-in-Some c = rw (← c.self.view_is) (automaton_some c.self.inside.elements.entries c.args.name.now c.in-Some.declared.now c.self.invariant.built c.in-Some.ensures.value)
