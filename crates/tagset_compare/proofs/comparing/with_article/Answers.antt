use Rattle.tagset_compare.proofs.Arms.{article_breaks}
use Rattle.tagset_compare.proofs.comparing.with_article.Goals as goal

pub unreachable-requires : goal.unreachable-requires
unreachable-requires c =
    article_breaks c.args.first.now c.args.second.now c.args.tables.root c.args.tables.cap c.args.tables c.requires.exact c.count.ensures.kept c.count-2.ensures.kept c.args.article
    c.requires.least c.requires.chosen (c.in-Ok-None.ensures.none.0 c.in-Ok-None.field-0-is)
