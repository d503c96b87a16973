use Rattle.entity_catalog.proofs.Inside.{join_inside}
use Rattle.entity_catalog.proofs.laws.joined_names_stay_inside.Goals as goal

pub returns : goal.returns
returns c = join_inside
