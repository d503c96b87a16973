use Rattle.tagset_report.proofs.Gathering.{Tallied}
use Rattle.tagset_report.proofs.reporting.gather.Given as goal

abbrev pub invariant-loop-e : goal.invariant-loop-e
invariant-loop-e l = Tallied l.first l.second l.root l.e l.useful l.differs l.left
