use Rattle.std.specs.Prelude.{string_bytes}
use Rattle.dtd_flattener.proofs.Streamed.{element_bytes}
use Rattle.dtd_flattener.proofs.writing.put_elements.Goals as goal

pub loop-at-preserved : goal.loop-at-preserved
loop-at-preserved c =
    element_bytes c.args.set.now c.loop-at.at c.in-Some.name.now (string_bytes c.args.out.now) (string_bytes c.loop-at.out) (string_bytes c.put_element_line.new.out)
    c.count-at-end.ensures.kept c.in-Some.ensures c.loop-at.invariant c.in_ok-put_element_line-in-Some.ensures
