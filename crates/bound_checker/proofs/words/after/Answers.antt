use Rattle.std.proofs.Common.{get_or}
use Rattle.std.proofs.lemmas.Option.{slice_get-get_or}
use Rattle.bound_checker.proofs.Cutting.{after_short}
use Rattle.bound_checker.proofs.words.after.Goals as goal

pub returns-in-None : goal.returns-in-None
returns-in-None c =
    after_short c.args.word.now c.loop-byte.byte-index (get_or c.args.word.now c.loop-byte.byte-index 0) c.loop-byte.left.now c.args.line.now
    (slice_get-get_or c.args.word.now c.loop-byte.byte-index 0 c.loop-byte-test.true) c.in-None.ensures.cases c.loop-byte.invariant
