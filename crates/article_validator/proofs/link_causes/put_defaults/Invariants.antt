use Rattle.std.proofs.Common.{◌≡◌, ◌++◌, map, bytes_eq, drop}
use Rattle.std.specs.List.{flat_map}
use Rattle.indexmap.specs.IndexSet.{insert_all}
use Rattle.article_validator.specs.Faults.{invalid}
use Rattle.article_validator.specs.Links.{ids_of, default_link}
use Rattle.article_validator.specs.Listing.{kept_causes}
use Rattle.article_validator.proofs.link_causes.put_defaults.Given as goal

abbrev pub invariant-loop-at : goal.invariant-loop-at
invariant-loop-at l = record {
  causes : l.list ++ map (invalid l.number l.node.name) (kept_causes l.set l.all.keys l.seen.keys (flat_map (default_link l.node.atts) (drop l.at l.atts)))
      ≡ l.fn.list ++ map (invalid l.number l.node.name) (kept_causes l.set l.all.keys l.fn.seen.keys (flat_map (default_link l.node.atts) l.atts));
  kept : insert_all bytes_eq l.seen.keys (flat_map ids_of (flat_map (default_link l.node.atts) (drop l.at l.atts)))
      ≡ insert_all bytes_eq l.fn.seen.keys (flat_map ids_of (flat_map (default_link l.node.atts) l.atts));
}
