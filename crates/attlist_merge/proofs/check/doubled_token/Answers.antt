use Rattle.std.proofs.Common.{◌∙◌, Some, refl, sym, ap}
use Rattle.attlist_merge.proofs.Seen.{again_found, again_next}
use Rattle.attlist_merge.proofs.check.doubled_token.Goals as goal

pub returns-then-contains : goal.returns-then-contains
returns-then-contains c =
    ap Some c.in_ok-copy.ensures
    ∙ again_found c.args.tokens.now c.loop-token.token-index c.token-item.result c.loop-token.seen.keys c.loop-token-test.true c.token-item.is c.loop-token.invariant (sym c.contains.ensures ∙ c.if-contains.true)

pub loop-token-preserved : goal.loop-token-preserved
loop-token-preserved c =
    again_next c.args.tokens.now c.loop-token.token-index c.token-item.result c.loop-token.seen.keys c.loop-token-test.true c.token-item.is c.loop-token.invariant _ c.insert.new.self.keys refl
    (sym c.contains.ensures ∙ c.if-contains.false) c.in_ok-insert.ensures.keys
