use Rattle.std.proofs.Common.{refl}
use Rattle.article_validator.proofs.Named.{named_on}
use Rattle.article_validator.proofs.specified.names_of.Goals as goal

pub loop-att-preserved : goal.loop-att-preserved
loop-att-preserved c =
    named_on c.args.atts.now c.loop-att.names.keys c.insert.new.self.keys _ c.in-Some.att.now c.loop-att.rest.now c.in-Some.after.now c.in-Some.ensures.cases.0 c.loop-att.invariant refl c.in_ok-insert.ensures.keys
