use Rattle.std.proofs.Common.{◌≡◌, take}
use Rattle.jats_chars.proofs.list.ListOf+Text.copy.Given as goal

abbrev pub invariant-loop-text : goal.invariant-loop-text
invariant-loop-text l = (l.texts ≡ take l.text-index l.text-items) × (l.text-items ≡ l.self)
