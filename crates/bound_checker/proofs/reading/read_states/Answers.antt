use Rattle.bound_checker.specs.Certificates.{read_states}
use Rattle.bound_checker.specs.Left.{rest_of}
use Rattle.bound_checker.specs.Lines.{lines_of}
use Rattle.bound_checker.proofs.Glued.{states_more}
use Rattle.bound_checker.proofs.reading.read_states.Goals as goal

pub loop-i-preserved : goal.loop-i-preserved
loop-i-preserved c =
    states_more c.args.cap c.args.count c.loop-i.i c.loop-i.at.line (lines_of c.loop-i.at.rest.now)
    (read_states c.args.cap c.args.count 0 c.args.at.now.line (lines_of c.args.at.now.rest.now)) c.loop-i.rows c.push.new.self c.in-Ok.row (rest_of c.read_state.new.at)
    c.loop-i-test.true c.loop-i.invariant c.in-Ok.ensures c.in_ok-push-in-Ok.ensures.ok
