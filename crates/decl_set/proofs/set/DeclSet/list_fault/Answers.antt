use Rattle.std.proofs.Common.{◌∙◌, sym}
use Rattle.attlist_merge.proofs.Turns.{some_found, some_next}
use Rattle.decl_set.specs.Declaring.{notation_fault}
use Rattle.decl_set.proofs.set.DeclSet.list_fault.Goals as goal

pub returns-in-Some : goal.returns-in-Some
returns-in-Some c = sym (some_found (notation_fault c.args.self.now c.args.element.now) c.args.list.now c.loop-at.at c.in-Some.fault (sym c.in_ok-fault.ensures ∙ c.in-Some.is) c.loop-at.invariant)

pub loop-at-preserved : goal.loop-at-preserved
loop-at-preserved c = some_next (notation_fault c.args.self.now c.args.element.now) c.args.list.now c.loop-at.at (sym c.in_ok-fault.ensures ∙ c.in-None.is) c.loop-at.invariant
