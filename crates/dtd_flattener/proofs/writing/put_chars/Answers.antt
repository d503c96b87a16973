use Rattle.std.specs.Prelude.{string_bytes}
use Rattle.dtd_flattener.proofs.Streamed.{chars_more}
use Rattle.dtd_flattener.proofs.writing.put_chars.Goals as goal

pub loop-c-preserved : goal.loop-c-preserved
loop-c-preserved c =
    chars_more c.args.text.now c.loop-c.c-index c.c-item.result (string_bytes c.args.out.now) (string_bytes c.loop-c.out) (string_bytes c.push.new.self)
    c.loop-c-test.true c.c-item.is c.loop-c.invariant c.in_ok-push.ensures.bytes
