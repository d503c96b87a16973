use Rattle.entity_catalog.specs.Resolution.{resolve}
use Rattle.module_reader.proofs.loading.file_of.Goals as goal

pub returns-in-PublicOnly : goal.returns-in-PublicOnly
unfolding resolve
returns-in-PublicOnly c = rw c.in-PublicOnly.is
