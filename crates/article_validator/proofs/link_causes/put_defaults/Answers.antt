use Rattle.std.proofs.Common.{◌≡◌, ap}
use Rattle.document_trees.specs.Trees.{Node}
use Rattle.article_validator.specs.Faults.{invalid}
use Rattle.article_validator.specs.Links.{default_link}
use Rattle.article_validator.proofs.Listing.{keep_at, link_at}
use Rattle.article_validator.proofs.link_causes.put_defaults.Goals as goal

pub loop-at-preserved : goal.loop-at-preserved
loop-at-preserved c =
    let same : c.node.inside.atts ≡ c.args.node.now.atts = ap (λ (n : Node). n.atts) c.node.view_is in record {
      causes = link_at c.args.set.now c.args.all.now.keys (invalid c.args.number c.args.node.now.name) (default_link c.args.node.now.atts) c.args.atts.now c.loop-at.at c.put_some.new.list c.loop-at.list _ c.loop-at.seen.keys c.put_some.new.seen.keys
          _ c.in_ok-put_some.ensures.causes c.in_ok-put_some.ensures.kept (rw (c.in_ok-specified.ensures, c.as_slice.ensures, same) at c.default_link_at-link.ensures) c.loop-at.invariant.causes;
      kept = keep_at (default_link c.args.node.now.atts) c.args.atts.now c.loop-at.at c.put_some.new.seen.keys c.loop-at.seen.keys _
          _ c.in_ok-put_some.ensures.kept (rw (c.in_ok-specified.ensures, c.as_slice.ensures, same) at c.default_link_at-link.ensures) c.loop-at.invariant.kept;
    }
