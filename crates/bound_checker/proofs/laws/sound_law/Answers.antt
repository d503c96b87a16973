use Rattle.bound_checker.proofs.Sound.{feasible_bounds}
use Rattle.bound_checker.proofs.laws.sound_law.Goals as goal

pub returns : goal.returns
returns c = feasible_bounds
