use Rattle.dtd_flattener.specs.Flat.{is_special}
use Rattle.dtd_flattener.proofs.Appended.{escaped_more}
use Rattle.dtd_flattener.proofs.texts.put_escaped.Goals as goal

pub loop-c-preserved : goal.loop-c-preserved
loop-c-preserved c =
    escaped_more is_special c.args.text.now c.loop-c.c-index c.c-item.result c.args.out.now c.loop-c.out c.put_special.new.out
    c.loop-c-test.true c.c-item.is c.loop-c.invariant c.in_ok-put_special.ensures
