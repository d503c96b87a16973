use Rattle.std.proofs.Common.{◌∙◌, sym}
use Rattle.attlist_merge.proofs.Turns.{some_found, some_next}
use Rattle.decl_set.specs.Declaring.{entity_fault}
use Rattle.decl_set.proofs.set.DeclSet.first_entity_fault.Goals as goal

pub returns-in-Some : goal.returns-in-Some
returns-in-Some c = sym (some_found (entity_fault c.args.self.now) c.args.self.now.entities c.loop-at.at c.in-Some.fault (sym c.in_ok-fault.ensures ∙ c.in-Some.is) c.loop-at.invariant)

pub loop-at-preserved : goal.loop-at-preserved
loop-at-preserved c = some_next (entity_fault c.args.self.now) c.args.self.now.entities c.loop-at.at (sym c.in_ok-fault.ensures ∙ c.in-None.is) c.loop-at.invariant
