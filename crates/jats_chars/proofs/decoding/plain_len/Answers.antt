use Rattle.std.proofs.Common.{arith}
use Rattle.std.proofs.lemmas.List.Elements.{All-more}
use Rattle.jats_chars.specs.Decoded.{IsPlain}
use Rattle.jats_chars.proofs.decoding.plain_len.Goals as goal

pub loop-len-preserved : goal.loop-len-preserved
loop-len-preserved c = record {
  within = omega (arith, c.loop-len-test.true);
  plain = All-more IsPlain c.args.bytes.now c.loop-len.len 0 c.loop-len-test.true c.loop-len.invariant.plain (c.if-bytes-len-ge32.true, c.if-bytes-len-lt128.true);
}
