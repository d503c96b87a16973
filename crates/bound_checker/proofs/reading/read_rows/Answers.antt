use Rattle.std.proofs.Common.{arith}
use Rattle.bound_checker.specs.Certificates.{read_rows}
use Rattle.bound_checker.specs.Left.{rest_of}
use Rattle.bound_checker.specs.Lines.{lines_of}
use Rattle.bound_checker.proofs.Glued.{rows_fault, rows_more}
use Rattle.bound_checker.proofs.reading.read_rows.Goals as goal

pub returns-in-Err : goal.returns-in-Err
returns-in-Err c =
    let count = c.count-place-end.ensures.value in
    rows_fault c.args.cap c.args.second.now c.args.first.now.elements c.loop-place.place c.loop-place.at.line (lines_of c.loop-place.at.rest.now)
    (read_rows c.args.cap c.args.second.now c.args.first.now.elements c.args.at.now.line (lines_of c.args.at.now.rest.now)) c.loop-place.rows (rest_of c.read_place.new.at) (rest_of c.read_place.new.at) c.in-Err.fault
    (omega (arith, count, c.loop-place-test.true)) c.loop-place.invariant c.in-Err.ensures

pub loop-place-preserved : goal.loop-place-preserved
loop-place-preserved c =
    let count = c.count-place-end.ensures.value in
    rows_more c.args.cap c.args.second.now c.args.first.now.elements c.loop-place.place c.loop-place.at.line (lines_of c.loop-place.at.rest.now)
    (read_rows c.args.cap c.args.second.now c.args.first.now.elements c.args.at.now.line (lines_of c.args.at.now.rest.now)) c.loop-place.rows c.push.new.self c.in-Ok.row (rest_of c.read_place.new.at)
    (omega (arith, count, c.loop-place-test.true)) c.loop-place.invariant c.in-Ok.ensures c.in_ok-push-in-Ok.ensures.ok
