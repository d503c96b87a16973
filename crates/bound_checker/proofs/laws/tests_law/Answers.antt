use Rattle.bound_checker.proofs.Tests.{none_is_broken}
use Rattle.bound_checker.proofs.laws.tests_law.Goals as goal

pub returns : goal.returns
returns c = none_is_broken
