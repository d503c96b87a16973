use Rattle.std.proofs.Common.{refl}
use Rattle.pe_expansion.proofs.Numbering.{starts}
use Rattle.pe_expansion.proofs.pausing.PausedExpansion.new.Goals as goal

pub returns-clause-paused : goal.returns-clause-paused
returns-clause-paused c = λ bound chain outer. starts _ bound chain outer c.new.ensures refl c.new-2.ensures.items refl refl
