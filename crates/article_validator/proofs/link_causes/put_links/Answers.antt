use Rattle.std.specs.List.{flat_map}
use Rattle.article_validator.specs.Faults.{invalid}
use Rattle.article_validator.specs.Links.{specified_link, default_link}
use Rattle.article_validator.proofs.Appending.{on_ok}
use Rattle.article_validator.proofs.Listing.{keep_both, link_both}
use Rattle.article_validator.proofs.link_causes.put_links.Goals as goal

pub returns-clause-causes : goal.returns-clause-causes
returns-clause-causes c =
    on_ok c.put_defaults.result
    (λ e. link_both c.args.set.now c.args.all.now.keys (invalid c.args.number c.args.node.now.name) c.put_defaults.new.list c.put_specified.new.list c.args.list.now c.args.seen.now.keys c.put_specified.new.seen.keys (flat_map (specified_link c.args.atts.now) c.args.node.now.atts) (flat_map (default_link c.args.node.now.atts) c.args.atts.now) c.in_ok-put_specified.ensures.causes c.in_ok-put_specified.ensures.kept e)
    c.put_defaults.ensures.causes

pub returns-clause-kept : goal.returns-clause-kept
returns-clause-kept c =
    on_ok c.put_defaults.result
    (λ e. keep_both c.put_defaults.new.seen.keys c.put_specified.new.seen.keys c.args.seen.now.keys (flat_map (specified_link c.args.atts.now) c.args.node.now.atts) (flat_map (default_link c.args.node.now.atts) c.args.atts.now) c.in_ok-put_specified.ensures.kept e)
    c.put_defaults.ensures.kept
