use Rattle.decl_set.proofs.Reading.{content_none, content_some, automaton_some}
use Rattle.decl_set.proofs.set.DeclSet.declared_of.Goals as goal

pub returns-in-None-clause-content : goal.returns-in-None-clause-content
returns-in-None-clause-content c = rw (← c.self.view_is) (content_none c.self.inside.elements.entries c.args.name.now c.in-None.ensures.value)

pub returns-in-None-clause-automaton : goal.returns-in-None-clause-automaton
returns-in-None-clause-automaton c = rw (← c.self.view_is) (content_none c.self.inside.elements.entries c.args.name.now c.in-None.ensures.value)

pub returns-in-Some-clause-content : goal.returns-in-Some-clause-content
returns-in-Some-clause-content c = rw (← c.self.view_is) (content_some c.self.inside.elements.entries c.args.name.now c.in-Some.declared.now c.in-Some.ensures.value)

pub returns-in-Some-clause-automaton : goal.returns-in-Some-clause-automaton
returns-in-Some-clause-automaton c = rw (← c.self.view_is) (automaton_some c.self.inside.elements.entries c.args.name.now c.in-Some.declared.now c.self.invariant.built c.in-Some.ensures.value)
