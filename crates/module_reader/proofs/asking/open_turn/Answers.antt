use Rattle.pe_expansion.specs.Opening.{opening}
use Rattle.pe_expansion.specs.declared.openings.Opened.{Opened}
use Rattle.module_reader.proofs.Asked.{turn_stops, same_stop}
use Rattle.module_reader.proofs.asking.open_turn.Goals as goal

pub returns-in-Err-want-clause-told : goal.returns-in-Err-want-clause-told
returns-in-Err-want-clause-told g c =
    turn_stops Opened (g.S.Store.holds c.args.store.now) c.args.catalog.now c.args.standing.now c.args.at (opening c.args.state.now.bound c.args.chain.now c.args.state.now.spent c.args.name.now)
    c.args.state.now c.open_once.new.state c.want.new.state c.in-Err.fault c.in-Err-want.fault c.in-Err.ensures.0 c.in-Err.ensures.1 (λ e. same_stop c.in-Err-want.fault (c.in-Err-want.ensures.memory e)) c.in-Err-want.ensures.told
