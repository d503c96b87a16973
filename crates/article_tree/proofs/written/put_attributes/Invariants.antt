use Rattle.std.proofs.Common.{◌≡◌, ◌++◌, take}
use Rattle.std.specs.List.{flat_map}
use Rattle.article_tree.specs.Writing.{written_attribute}
use Rattle.article_tree.proofs.written.put_attributes.Given as goal

abbrev pub invariant-loop-name : goal.invariant-loop-name
invariant-loop-name l = l.out ≡ l.initial.out ++ flat_map written_attribute (take l.name-index l.atts)
