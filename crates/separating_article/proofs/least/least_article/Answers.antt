use Rattle.separating_article.proofs.Answered.{has_least, builds}
use Rattle.separating_article.proofs.least.least_article.Goals as goal

pub build-requires-clause-guide : goal.build-requires-clause-guide
build-requires-clause-guide c = record { first = c.count.ensures.kept; second = c.count.ensures.kept; cap = c.requires.cap; order = tt }

pub build-requires-clause-tree : goal.build-requires-clause-tree
build-requires-clause-tree c =
    let t = has_least c.args.set.now c.args.least.now c.args.root.now c.count.ensures.kept c.requires.exact c.requires.least in
    (t.0, (t.1, t.2))

pub returns : goal.returns
returns c =
    let t = has_least c.args.set.now c.args.least.now c.args.root.now c.count.ensures.kept c.requires.exact c.requires.least in
    builds c.args.set.now c.args.least.now c.args.root.now c.args.limit c.build.result t.0 t.1 (c.build.ensures t.0 (t.1, t.2))
