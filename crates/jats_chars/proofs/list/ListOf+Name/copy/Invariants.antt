use Rattle.std.proofs.Common.{◌≡◌, take}
use Rattle.jats_chars.proofs.list.ListOf+Name.copy.Given as goal

abbrev pub invariant-loop-name : goal.invariant-loop-name
invariant-loop-name l = (l.names ≡ take l.name-index l.name-items) × (l.name-items ≡ l.self)
