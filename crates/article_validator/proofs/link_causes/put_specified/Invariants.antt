use Rattle.std.proofs.Common.{◌≡◌, ◌++◌, map, bytes_eq, length}
use Rattle.std.specs.List.{flat_map}
use Rattle.indexmap.specs.IndexSet.{insert_all}
use Rattle.article_validator.specs.Faults.{invalid}
use Rattle.article_validator.specs.Links.{ids_of, specified_link}
use Rattle.article_validator.specs.Listing.{kept_causes}
use Rattle.article_validator.proofs.link_causes.put_specified.Given as goal

abbrev pub invariant-loop-att : goal.invariant-loop-att
invariant-loop-att l = record {
  causes : l.list ++ map (invalid l.number l.node.name) (kept_causes l.set l.all.keys l.seen.keys (flat_map (specified_link l.atts) l.rest))
      ≡ l.fn.list ++ map (invalid l.number l.node.name) (kept_causes l.set l.all.keys l.fn.seen.keys (flat_map (specified_link l.atts) l.node.atts));
  kept : insert_all bytes_eq l.seen.keys (flat_map ids_of (flat_map (specified_link l.atts) l.rest))
      ≡ insert_all bytes_eq l.fn.seen.keys (flat_map ids_of (flat_map (specified_link l.atts) l.node.atts));
}

abbrev pub decreases-loop-att : goal.decreases-loop-att
decreases-loop-att l = length l.rest
