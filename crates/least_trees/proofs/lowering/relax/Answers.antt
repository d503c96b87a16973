use Rattle.std.proofs.Common.{arith, ◌≡◌, ◌<◌, length, sym, refl, ◌∙◌, true≢false}
use Rattle.least_trees.proofs.Boards.{lowered-board}
use Rattle.least_trees.proofs.Relax.{relax-less, relax-same}
use Rattle.least_trees.proofs.lowering.relax.Goals as goal

pub replay-requires-clause-board : goal.replay-requires-clause-board
replay-requires-clause-board g c =
    let lt : c.args.rule.target < length c.args.done.now = omega (arith, c.requires.range.0) in
    lowered-board g.G.Value.Worth.cost c.args.done.now c.args.values.now c.args.winners.now c.args.rule.target c.sum-sum.result lt c.requires.board

pub returns-then-less-clause-value : goal.returns-then-less-clause-value
returns-then-less-clause-value g c =
    relax-less g.G.Value.Worth.cost (g.G.StepGraph.plan c.args.graph.now).numbers.cap c.args.rule c.args.values.now c.requires.range
    c.index-values-rule.result c.index-values-rule-2.result c.index-values-target.result c.sum-sum.result
    c.index-values-rule.is c.index-values-rule-2.is c.index-values-target.is c.sum-sum.ensures.value
    (c.if-less.ensures.0 refl)

pub returns-else-less-clause-value : goal.returns-else-less-clause-value
returns-else-less-clause-value g c =
    relax-same g.G.Value.Worth.cost (g.G.StepGraph.plan c.args.graph.now).numbers.cap c.args.rule c.args.values.now c.requires.range
    c.index-values-rule.result c.index-values-rule-2.result c.index-values-target.result c.sum-sum.result
    c.index-values-rule.is c.index-values-rule-2.is c.index-values-target.is c.sum-sum.ensures.value
    (λ h. true≢false (sym (c.if-less.ensures.1 h)))
