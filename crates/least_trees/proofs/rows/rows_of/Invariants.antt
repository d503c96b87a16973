use Rattle.least_trees.specs.Rows.{AreRows}
use Rattle.least_trees.proofs.rows.rows_of.Given as goal

abbrev pub invariant-loop-e : goal.invariant-loop-e
invariant-loop-e g l = AreRows (g.G.StepGraph.plan l.graph) l.values l.e l.rows
