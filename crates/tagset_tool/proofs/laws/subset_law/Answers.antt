use Rattle.tagset_tool.proofs.Compared.{compared_says}
use Rattle.tagset_tool.proofs.laws.subset_law.Goals as goal

pub returns : goal.returns
returns c = compared_says
