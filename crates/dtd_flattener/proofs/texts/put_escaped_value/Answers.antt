use Rattle.dtd_flattener.specs.Flat.{is_special_value}
use Rattle.dtd_flattener.proofs.Appended.{escaped_more}
use Rattle.dtd_flattener.proofs.texts.put_escaped_value.Goals as goal

pub loop-c-preserved : goal.loop-c-preserved
loop-c-preserved c =
    escaped_more is_special_value c.args.text.now c.loop-c.c-index c.c-item.result c.args.out.now c.loop-c.out c.put_special_value.new.out
    c.loop-c-test.true c.c-item.is c.loop-c.invariant c.in_ok-put_special_value.ensures
