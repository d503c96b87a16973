use Rattle.std.proofs.Common.{◌≡◌, ◌++◌, map, length}
use Rattle.std.specs.List.{flat_map}
use Rattle.attribute_types.specs.Spacing.{collapsed, words_in}
use Rattle.article_validator.specs.Faults.{invalid}
use Rattle.article_validator.specs.Links.{untargeted}
use Rattle.article_validator.proofs.link_causes.put_untargeted.Given as goal

abbrev pub invariant-loop-word : goal.invariant-loop-word
invariant-loop-word l =
    l.list ++ map (invalid l.number l.node.name) (flat_map (untargeted l.all.keys l.name) (words_in l.rest))
    ≡ l.fn.list ++ map (invalid l.number l.node.name) (flat_map (untargeted l.all.keys l.name) (words_in (collapsed l.fn.value)))

abbrev pub decreases-loop-word : goal.decreases-loop-word
decreases-loop-word l = length l.rest
