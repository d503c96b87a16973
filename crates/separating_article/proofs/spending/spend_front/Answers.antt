use Rattle.separating_article.proofs.ShownAtts.{front_spent}
use Rattle.separating_article.proofs.spending.spend_front.Goals as goal

pub returns-in-Some : goal.returns-in-Some
returns-in-Some c = front_spent c.args.left c.args.front c.in-Some.field-0 c.spend.result c.in-Some.is c.spend.ensures
