use Rattle.std.proofs.Common.{◌∙◌}
use Rattle.comparison_tables.proofs.Halves.{found_place}
use Rattle.comparison_tables.proofs.places.pair_place.Goals as goal

pub returns : goal.returns
returns c = c.ok.ensures.value ∙ found_place c.args.pairs.now c.args.i c.args.j c.binary_search.result c.requires c.binary_search.ensures.bound c.binary_search.ensures.position
