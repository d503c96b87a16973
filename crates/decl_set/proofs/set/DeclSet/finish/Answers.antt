use Rattle.std.proofs.Common.{◌∙◌, sym}
use Rattle.decl_set.specs.Declaring.{end_fault}
use Rattle.decl_set.proofs.Outcomes.{finishes}
use Rattle.decl_set.proofs.set.DeclSet.finish.Goals as goal

pub returns-in-Ok-Some : goal.returns-in-Ok-Some
returns-in-Ok-Some c = finishes (end_fault c.args.self.now) c.in-Ok-Some.fault (sym c.in-Ok-Some.field-0-is ∙ c.in-Ok-Some.ensures)
