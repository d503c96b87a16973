use Rattle.std.proofs.Common.{ℕ, List}
use Rattle.module_reader.specs.Asking.{written}
use Rattle.module_reader.proofs.Asked.{on_loads, turn_stops, same_stop}
use Rattle.module_reader.proofs.asking.write_turn.Goals as goal

pub returns-in-Err-want-clause-told : goal.returns-in-Err-want-clause-told
returns-in-Err-want-clause-told g c =
    turn_stops (List ℕ) (g.S.Store.holds c.args.store.now) c.args.catalog.now c.args.standing.now c.args.at (written c.args.manner c.args.state.now.bound c.args.chain.now c.args.state.now.spent c.args.text.now)
    c.args.state.now c.write_once.new.state c.want.new.state c.in-Err.fault c.in-Err-want.fault c.in-Err.ensures.writes.0 c.in-Err.ensures.writes.1 (λ e. same_stop c.in-Err-want.fault (c.in-Err-want.ensures.memory e)) c.in-Err-want.ensures.told

pub returns-in-Ok-want-clause-on : goal.returns-in-Ok-want-clause-on
returns-in-Ok-want-clause-on g c =
    on_loads c.args.manner c.args.chain.now c.write_once.new.state c.want.new.state c.args.text.now c.write_once.new.paused c.in-Ok-want.ensures.loads c.in-Err.ensures.on
