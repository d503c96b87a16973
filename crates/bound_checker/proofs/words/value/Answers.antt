use Rattle.std.proofs.Common.{arith, length, refl}
use Rattle.std.proofs.lemmas.Option.{slice_get_read}
use Rattle.bound_checker.proofs.Spelling.{too_large}
use Rattle.bound_checker.proofs.words.value.Goals as goal

pub returns-in-None-clause-value : goal.returns-in-None-clause-value
returns-in-None-clause-value c =
    let digit = c.in_ok-digit.ensures.value in
    let large = c.in-None.ensures in
    too_large c.args.digits.now c.loop-c.value c.loop-c.c-index c.c-item.result
    (slice_get_read c.args.digits.now (length c.args.digits.now) c.loop-c.c-index c.c-item.result refl c.loop-c-test.true c.c-item.is)
    (omega (arith, digit, large)) c.loop-c.invariant.read
