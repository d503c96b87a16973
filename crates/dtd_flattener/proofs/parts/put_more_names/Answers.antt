use Rattle.std.proofs.Common.{◌++◌, ap, ◌∙◌}
use Rattle.content_models.proofs.Spelled.{name_more}
use Rattle.dtd_flattener.proofs.parts.put_more_names.Goals as goal

pub loop-name-preserved : goal.loop-name-preserved
loop-name-preserved c =
    name_more 124 c.args.names.now c.loop-name.name-index c.name-item.result c.args.out.now c.loop-name.out c.push.new.self c.push_slice.new.self
    c.loop-name-test.true c.name-item.is c.loop-name.invariant c.in_ok-push.ensures.ok
    (c.in_ok-push_slice.ensures.ok ∙ ap (λ k. c.push.new.self ++ k) (c.as_slice.ensures ∙ c.text.ensures.value))
