use Rattle.std.proofs.Common.{◌∙◌, sym}
use Rattle.decl_set.proofs.Outcomes.{ended_by_entity, ended_by_list}
use Rattle.decl_set.proofs.set.DeclSet.first_fault.Goals as goal

pub returns-in-Some : goal.returns-in-Some
returns-in-Some c = ended_by_entity c.args.self.now c.in-Some.fault (sym c.in-Some.is ∙ c.in_ok-fault.ensures)

pub returns-in-None : goal.returns-in-None
returns-in-None c = ended_by_list c.args.self.now c.first_list_fault.result (sym c.in-None.is ∙ c.in_ok-fault.ensures) c.first_list_fault.ensures
