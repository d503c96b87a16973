use Rattle.tagset_tool.proofs.Headline.{reads_back}
use Rattle.tagset_tool.proofs.laws.written_law.Goals as goal

pub returns : goal.returns
returns c = reads_back
