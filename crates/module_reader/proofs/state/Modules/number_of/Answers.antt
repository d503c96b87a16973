use Rattle.module_reader.proofs.Modules.{finds}
use Rattle.module_reader.proofs.state.Modules.number_of.Goals as goal

pub returns-in-Some : goal.returns-in-Some
returns-in-Some c = rw (← c.self.view_is) (finds c.self.inside.texts.entries c.args.name.now c.in-Some.number c.in-Some.field-0-1.now c.in-Some.field-0-2.now c.in-Some.ensures.entry c.in-Some.ensures.key c.in-Some.ensures.value)
