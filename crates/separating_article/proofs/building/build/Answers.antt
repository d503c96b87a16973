use Rattle.separating_article.proofs.Built.{under_way, begun_not}
use Rattle.separating_article.proofs.building.build.Goals as goal

pub returns-in-Err : goal.returns-in-Err
returns-in-Err c = begun_not c.args.guide.now c.args.separates c.args.root.now c.args.limit c.requires.guide c.in-Err.over c.in-Err.ensures

pub grow-requires : goal.grow-requires
grow-requires c = under_way c.args.guide.now c.args.separates c.args.root.now c.args.limit c.requires.guide c.in-Ok.work c.in-Ok.ensures c.requires.tree
