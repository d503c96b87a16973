use Rattle.content_models.proofs.Exact.{parses_flat}
use Rattle.content_models.proofs.Shapes.{flat_spells}
use Rattle.content_models.proofs.laws.print_law.Goals as goal

pub returns : goal.returns
returns c = record { spells = flat_spells; back = parses_flat }
