use Rattle.module_reader.proofs.Keeping.{set_kept}
use Rattle.module_reader.proofs.laws.kept_law.Goals as goal

pub returns : goal.returns
returns c = set_kept
