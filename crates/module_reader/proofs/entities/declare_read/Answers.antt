use Rattle.std.proofs.Common.{sym, ◌∙◌}
use Rattle.module_reader.proofs.EntityMoves.{new_bound, new_declared}
use Rattle.module_reader.proofs.entities.declare_read.Goals as goal

pub returns-then-parameter-clause-told : goal.returns-then-parameter-clause-told
returns-then-parameter-clause-told g c =
    new_bound (g.S.Store.holds c.args.store.now) c.args.catalog.now c.args.chain.now c.args.standing.now c.args.at c.args.state.now c.bind_entity.new.state c.args.entity c.bind_entity.result
    c.if-parameter.true (sym c.is_bound.ensures ∙ c.if-is_bound.false) c.bind_entity.ensures.told

pub returns-clause-told : goal.returns-clause-told
returns-clause-told g c =
    new_declared (g.S.Store.holds c.args.store.now) c.args.catalog.now c.args.chain.now c.args.standing.now c.args.at c.args.state.now c.put_entity.new.state c.args.entity c.put_entity.result
    c.if-parameter.false (sym c.is_declared.ensures ∙ c.if-is_declared.false) c.put_entity.ensures.told
