use Rattle.entity_catalog.proofs.Spelled.{says_system, says_public}
use Rattle.entity_catalog.proofs.laws.lines_are_spelled.Goals as goal

pub returns : goal.returns
returns c = record { system = says_system; public = says_public }
