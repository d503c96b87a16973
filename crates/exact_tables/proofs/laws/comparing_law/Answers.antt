use Rattle.exact_tables.proofs.Comparing.{solved_is_exact}
use Rattle.exact_tables.proofs.NumberedTables.{numbered_is_exact}
use Rattle.exact_tables.proofs.laws.comparing_law.Goals as goal

pub returns : goal.returns
returns c = record { solved = solved_is_exact; numbered = numbered_is_exact }
