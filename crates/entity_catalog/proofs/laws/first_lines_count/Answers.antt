use Rattle.entity_catalog.proofs.ReadLines.{file_of-firsts}
use Rattle.entity_catalog.proofs.laws.first_lines_count.Goals as goal

pub returns : goal.returns
returns c = record { systems = λ place lines identifier. file_of-firsts identifier _; publics = λ place lines identifier. file_of-firsts identifier _ }
