use Rattle.decl_set.proofs.AddedAttributes.{all_next, begins_next}
use Rattle.decl_set.proofs.attributes.add_all.Goals as goal

pub loop-att-preserved : goal.loop-att-preserved
loop-att-preserved c = record {
  answers = all_next c.args.entities.now.entries c.args.element.now c.loop-att.list c.add_one.new.list c.loop-att.budget.spent c.add_one.new.budget.spent c.args.atts.now c.loop-att.att-index c.att-item.result _ c.loop-att-test.true c.att-item.is c.loop-att.invariant.answers c.in-Ok.ensures;
  begins = begins_next c.args.entities.now.entries c.args.element.now c.args.list.now c.loop-att.list c.add_one.new.list c.loop-att.budget.spent c.add_one.new.budget.spent c.att-item.result c.in-Ok.ensures c.loop-att.invariant.begins;
}
