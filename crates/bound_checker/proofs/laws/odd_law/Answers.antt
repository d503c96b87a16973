use Rattle.bound_checker.proofs.Oddly.{element_tells}
use Rattle.bound_checker.proofs.laws.odd_law.Goals as goal

pub returns : goal.returns
returns c = element_tells
