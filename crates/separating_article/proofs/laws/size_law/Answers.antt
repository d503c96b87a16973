use Rattle.separating_article.proofs.TextSizes.{size_of_text}
use Rattle.separating_article.proofs.laws.size_law.Goals as goal

pub returns : goal.returns
returns c = size_of_text
