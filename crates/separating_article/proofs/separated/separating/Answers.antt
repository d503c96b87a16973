use Rattle.separating_article.proofs.Answered.{has_chosen, separates, in_order}
use Rattle.separating_article.proofs.separated.separating.Goals as goal

pub build-requires-clause-guide : goal.build-requires-clause-guide
build-requires-clause-guide c = record {
  first = c.count.ensures.kept;
  second = c.count-2.ensures.kept;
  cap = c.requires.fits.cap;
  order = in_order c.args.tables.now.cap c.args.second.now c.args.first.now.elements c.args.tables.now.rows c.requires.fits.rows;
}

pub build-requires-clause-tree : goal.build-requires-clause-tree
build-requires-clause-tree c =
    let t = has_chosen c.args.first.now c.args.second.now c.args.tables.now c.count.ensures.kept c.count-2.ensures.kept c.requires.exact c.requires.least in
    (t.0, (t.1, t.2))

pub returns : goal.returns
returns c =
    let t = has_chosen c.args.first.now c.args.second.now c.args.tables.now c.count.ensures.kept c.count-2.ensures.kept c.requires.exact c.requires.least in
    separates c.args.first.now c.args.second.now c.args.tables.now c.args.limit c.build.result t.0 t.1 (c.build.ensures t.0 (t.1, t.2))
