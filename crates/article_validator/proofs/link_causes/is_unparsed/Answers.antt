use Rattle.article_validator.proofs.Unparsed.{no_entity}
use Rattle.article_validator.proofs.link_causes.is_unparsed.Goals as goal

pub returns-in-None : goal.returns-in-None
returns-in-None c = no_entity c.args.set.now c.args.word.now c.entity_count.ensures.kept (rw c.in-None.is at c.in_ok-from_slice.ensures)
