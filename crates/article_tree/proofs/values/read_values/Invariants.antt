use Rattle.std.proofs.Common.{map, drop}
use Rattle.article_tree.specs.Outcomes.{standing_of}
use Rattle.article_tree.specs.Taken.{raw_of}
use Rattle.article_tree.proofs.Valued.{ValuedTo}
use Rattle.article_tree.proofs.values.read_values.Given as goal

abbrev pub invariant-loop-att : goal.invariant-loop-att
invariant-loop-att l = ValuedTo l.set.entities l.chain (standing_of l.stand) l.at (map raw_of l.atts) l.fn.budget.spent l.list.items l.budget.spent (drop l.att-index (map raw_of l.atts))
