use Rattle.std.proofs.Common.{◌≡◌, bytes_eq, drop}
use Rattle.std.specs.List.{flat_map}
use Rattle.indexmap.specs.IndexSet.{insert_all}
use Rattle.article_validator.specs.Links.{ids_of, default_link}
use Rattle.article_validator.proofs.links.keep_defaults.Given as goal

abbrev pub invariant-loop-at : goal.invariant-loop-at
invariant-loop-at l =
    insert_all bytes_eq l.ids.keys (flat_map ids_of (flat_map (default_link l.node.atts) (drop l.at l.atts)))
    ≡ insert_all bytes_eq l.fn.ids.keys (flat_map ids_of (flat_map (default_link l.node.atts) l.atts))
