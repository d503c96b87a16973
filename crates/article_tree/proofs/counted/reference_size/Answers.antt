use Rattle.article_tree.proofs.TextSizes.{tab_text, white_text}
use Rattle.article_tree.proofs.counted.reference_size.Goals as goal

pub returns-then-c-eq9 : goal.returns-then-c-eq9
returns-then-c-eq9 c = tab_text c.args.c c.if-c-eq9.true

pub returns-else-c-eq9 : goal.returns-else-c-eq9
returns-else-c-eq9 c = white_text c.args.c c.requires c.if-c-eq9.false
