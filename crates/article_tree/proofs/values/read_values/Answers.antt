use Rattle.std.proofs.Common.{map}
use Rattle.article_tree.specs.Outcomes.{standing_of}
use Rattle.article_tree.specs.Taken.{raw_of}
use Rattle.article_tree.proofs.Valued.{att_at, fails_on, first_raw, valued_on, valued_stops}
use Rattle.article_tree.proofs.values.read_values.Goals as goal

pub read_attribute-requires : goal.read_attribute-requires
read_attribute-requires c = first_raw _ _ _ (att_at c.args.atts.now c.loop-att.att-index _ c.loop-att-test.true) c.loop-att.invariant.are_raw

pub returns-in-Err : goal.returns-in-Err
returns-in-Err c =
    fails_on _ _ c.in-Err.fault (λ f e. valued_stops c.args.set.now.entities c.args.chain.now (standing_of c.args.stand.now) c.args.at (map raw_of c.args.atts.now) c.args.budget.now.spent c.loop-att.list.items c.loop-att.budget.spent _ _ _ f
    (att_at c.args.atts.now c.loop-att.att-index _ c.loop-att-test.true) c.loop-att.invariant e) c.in-Err.ensures.value

pub loop-att-preserved : goal.loop-att-preserved
loop-att-preserved c =
    valued_on c.args.set.now.entities c.args.chain.now (standing_of c.args.stand.now) c.args.at (map raw_of c.args.atts.now) c.args.budget.now.spent c.loop-att.list.items c.push.new.self.items c.loop-att.budget.spent _ _ _ c.in-Ok.pair.0 c.in-Ok.pair.1 c.read_attribute.new.budget.spent
    (att_at c.args.atts.now c.loop-att.att-index _ c.loop-att-test.true) c.loop-att.invariant c.in-Ok.ensures.name c.in-Ok.ensures.value c.in_ok-push-in-Ok.ensures.items
