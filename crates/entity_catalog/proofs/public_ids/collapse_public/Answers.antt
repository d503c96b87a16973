use Rattle.entity_catalog.proofs.Collapsed.{stays_collapsed}
use Rattle.entity_catalog.proofs.public_ids.collapse_public.Goals as goal

pub returns-clause-collapsed : goal.returns-clause-collapsed
returns-clause-collapsed c = stays_collapsed _ c.as_slice.result.now c.collapsed.ensures
