use Rattle.std.proofs.Common.{◌≡◌, bytes_eq, length}
use Rattle.std.specs.List.{flat_map}
use Rattle.indexmap.specs.IndexSet.{insert_all}
use Rattle.article_validator.specs.Links.{ids_of, specified_link}
use Rattle.article_validator.proofs.links.keep_specified.Given as goal

abbrev pub invariant-loop-att : goal.invariant-loop-att
invariant-loop-att l =
    insert_all bytes_eq l.ids.keys (flat_map ids_of (flat_map (specified_link l.atts) l.rest))
    ≡ insert_all bytes_eq l.fn.ids.keys (flat_map ids_of (flat_map (specified_link l.atts) l.node.atts))

abbrev pub decreases-loop-att : goal.decreases-loop-att
decreases-loop-att l = length l.rest
