use Rattle.std.proofs.Common.{arith, ◌∙◌, length-drop}
use Rattle.jats_io.proofs.Failures.{kept_ok}
use Rattle.jats_io.proofs.Pieces.{Appended-more, rest_of}
use Rattle.jats_io.proofs.sink.write_all.Goals as goal

pub loop-done-preserved : goal.loop-done-preserved
loop-done-preserved g c = (
  omega (arith, (rw rest_of at c.in-Ok.ensures.count).0, length-drop c.loop-done.done c.args.bytes.now),
  c.write.ensures.made ∙ c.loop-done.invariant.1,
  kept_ok _ _ _ _ c.in-Ok.is c.write.ensures.failures ∙ c.loop-done.invariant.2,
  Appended-more _ _ _ _ _ _ c.loop-done.invariant.3 (rw rest_of at c.in-Ok.ensures.appends),
)
