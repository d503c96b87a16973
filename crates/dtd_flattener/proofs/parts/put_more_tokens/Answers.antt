use Rattle.std.proofs.Common.{◌++◌, ap, ◌∙◌}
use Rattle.content_models.proofs.Spelled.{name_more}
use Rattle.dtd_flattener.proofs.parts.put_more_tokens.Goals as goal

pub loop-token-preserved : goal.loop-token-preserved
loop-token-preserved c =
    name_more 124 c.args.tokens.now c.loop-token.token-index c.token-item.result c.args.out.now c.loop-token.out c.push.new.self c.push_slice.new.self
    c.loop-token-test.true c.token-item.is c.loop-token.invariant c.in_ok-push.ensures.ok
    (c.in_ok-push_slice.ensures.ok ∙ ap (λ k. c.push.new.self ++ k) c.as_slice.ensures)
