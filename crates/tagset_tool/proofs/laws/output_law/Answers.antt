use Rattle.tagset_tool.proofs.OneOutput.{one_output}
use Rattle.tagset_tool.proofs.laws.output_law.Goals as goal

pub returns : goal.returns
returns c = one_output
