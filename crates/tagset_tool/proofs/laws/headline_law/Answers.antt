use Rattle.tagset_tool.proofs.Headline.{headline}
use Rattle.tagset_tool.proofs.laws.headline_law.Goals as goal

pub returns : goal.returns
returns c = headline
