use Rattle.std.proofs.Common.{◌≡◌, ap}
use Rattle.document_trees.specs.Trees.{Node}
use Rattle.article_validator.specs.Faults.{invalid}
use Rattle.article_validator.specs.Listing.{one_or_none}
use Rattle.article_validator.specs.Structure.{missing_causes}
use Rattle.article_validator.proofs.Appending.{put_at}
use Rattle.article_validator.proofs.causes.put_missing.Goals as goal

pub loop-at-preserved : goal.loop-at-preserved
loop-at-preserved c =
    let same : c.node.inside.atts ≡ c.args.node.now.atts = ap (λ (n : Node). n.atts) c.node.view_is in
    put_at (invalid c.args.number c.args.node.now.name) (missing_causes c.args.node.now.atts) c.args.atts.now c.loop-at.at c.put.new.list c.loop-at.list _
    (one_or_none c.in_ok-cause.cause) c.in_ok-put.ensures (rw (c.in_ok-specified.ensures, c.as_slice.ensures, same) at c.in_ok-cause.ensures) c.loop-at.invariant
