use Rattle.std.proofs.Common.{◌≡◌, ◌≤◌, ◌+◌, ◌-◌, ◌^◌, length}
use Rattle.article_tree.specs.Sizes.{atts_size, capped}
use Rattle.article_tree.proofs.counted.count_attributes.Given as goal

abbrev pub invariant-loop-att : goal.invariant-loop-att
invariant-loop-att l = (l.total ≤ 2 ^ 64 - 1) × (capped (l.total + atts_size l.rest) ≡ capped (l.before + atts_size l.atts))

abbrev pub decreases-loop-att : goal.decreases-loop-att
decreases-loop-att l = length l.rest
