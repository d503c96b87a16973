use Rattle.article_validator.specs.Filling.{default_of}
use Rattle.article_validator.specs.Listing.{one_or_none}
use Rattle.article_validator.proofs.Appending.{part_at}
use Rattle.article_validator.proofs.filling.put_defaults.Goals as goal

pub loop-at-preserved : goal.loop-at-preserved
loop-at-preserved c =
    part_at (default_of c.args.atts.now) c.args.list.now c.loop-at.at c.put_value.new.atts c.loop-at.all _ (one_or_none c.in_ok-value.value) c.in_ok-put_value.ensures (rw c.in_ok-specified.ensures at c.in_ok-value.ensures) c.loop-at.invariant
