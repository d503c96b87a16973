use Rattle.std.proofs.Common.{◌≡◌, ap}
use Rattle.document_trees.specs.Trees.{Node}
use Rattle.article_validator.specs.Links.{default_link}
use Rattle.article_validator.proofs.Listing.{keep_at}
use Rattle.article_validator.proofs.links.keep_defaults.Goals as goal

pub loop-at-preserved : goal.loop-at-preserved
loop-at-preserved c =
    let same : c.node.inside.atts ≡ c.args.node.now.atts = ap (λ (n : Node). n.atts) c.node.view_is in
    keep_at (default_link c.args.node.now.atts) c.args.atts.now c.loop-at.at c.keep_link.new.ids.keys c.loop-at.ids.keys _
    _ c.in_ok-keep_link.ensures (rw (c.in_ok-specified.ensures, c.as_slice.ensures, same) at c.default_link_at.ensures) c.loop-at.invariant
