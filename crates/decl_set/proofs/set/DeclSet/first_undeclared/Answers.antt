use Rattle.std.proofs.Common.{◌∙◌, sym}
use Rattle.attlist_merge.proofs.Turns.{some_found, some_next}
use Rattle.decl_set.specs.Declaring.{undeclared}
use Rattle.decl_set.proofs.Outcomes.{item_gives}
use Rattle.decl_set.proofs.set.DeclSet.first_undeclared.Goals as goal

pub returns-in-Some : goal.returns-in-Some
returns-in-Some c =
    let f = undeclared c.args.self.now c.args.element.now in
    let i = c.loop-notation.notation-index in
    sym (some_found f c.args.notations.now i c.in-Some.fault (item_gives f c.args.notations.now i c.notation-item.result c.in_ok-fault.field-0 c.loop-notation-test.true c.notation-item.is c.in_ok-fault.ensures ∙ c.in-Some.is) c.loop-notation.invariant)

pub loop-notation-preserved : goal.loop-notation-preserved
loop-notation-preserved c =
    let f = undeclared c.args.self.now c.args.element.now in
    let i = c.loop-notation.notation-index in
    some_next f c.args.notations.now i (item_gives f c.args.notations.now i c.notation-item.result c.in_ok-fault.field-0 c.loop-notation-test.true c.notation-item.is c.in_ok-fault.ensures ∙ c.in-None.is) c.loop-notation.invariant
