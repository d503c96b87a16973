use Rattle.comparison_tables.proofs.Entered.{AreFirst}
use Rattle.comparison_tables.proofs.entries.entries_of.Given as goal

abbrev pub invariant-loop-place : goal.invariant-loop-place
invariant-loop-place l = AreFirst l.first l.second l.sides l.place l.entries.items
