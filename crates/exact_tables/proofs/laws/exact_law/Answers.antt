use Rattle.exact_tables.proofs.Unique.{one_exact, exact_is_own, agreeing_is_exact}
use Rattle.exact_tables.proofs.Closing.{exact_is_feasible}
use Rattle.exact_tables.proofs.Exact.{reached_is_exact, attained_is_exact}
use Rattle.exact_tables.proofs.laws.exact_law.Goals as goal

pub returns : goal.returns
returns c = record {
  one = one_exact;
  own = exact_is_own;
  feasible = exact_is_feasible;
  reached = reached_is_exact;
  attained = attained_is_exact;
  agreeing = agreeing_is_exact;
}
