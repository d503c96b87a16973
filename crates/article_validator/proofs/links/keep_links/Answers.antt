use Rattle.article_validator.proofs.Appending.{on_ok}
use Rattle.article_validator.proofs.Listing.{keep_both}
use Rattle.article_validator.specs.Links.{specified_link, default_link}
use Rattle.std.specs.List.{flat_map}
use Rattle.article_validator.proofs.links.keep_links.Goals as goal

pub returns : goal.returns
returns c =
    on_ok c.keep_defaults.result
    (λ e. keep_both c.keep_defaults.new.ids.keys c.keep_specified.new.ids.keys c.args.ids.now.keys (flat_map (specified_link c.args.atts.now) c.args.node.now.atts) (flat_map (default_link c.args.node.now.atts) c.args.atts.now) c.in_ok-keep_specified.ensures e)
    c.keep_defaults.ensures
