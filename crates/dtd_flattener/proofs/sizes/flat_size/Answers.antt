use Rattle.dtd_flattener.proofs.Sized.{size_whole}
use Rattle.dtd_flattener.proofs.sizes.flat_size.Goals as goal

pub returns : goal.returns
returns c =
    size_whole c.args.set.now c.in_ok-notations.notations c.in_ok-entities.entities c.in_ok-elements.elements c.in_ok-lists.lists c.saturating_add-rest.result c.saturating_add.result c.saturating_add-2.result
    c.in_ok-notations.ensures c.in_ok-entities.ensures c.in_ok-elements.ensures c.in_ok-lists.ensures c.saturating_add-rest.ensures c.saturating_add.ensures c.saturating_add-2.ensures
