use Rattle.dtd_flattener.proofs.Sized.{attribute_sum}
use Rattle.dtd_flattener.proofs.sizes.attribute_size.Goals as goal

pub returns : goal.returns
returns c =
    attribute_sum c.args._element.now (c.args.name.now, c.args.definition.now) c.args.front c.in_ok-rest.rest c.saturating_add.result c.saturating_add-2.result
    c.requires c.in_ok-rest.ensures c.saturating_add.ensures c.saturating_add-2.ensures
