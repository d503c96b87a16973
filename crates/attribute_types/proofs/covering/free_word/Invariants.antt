use Rattle.std.proofs.Common.{◌≡◌, ◌-◌, ◌∷◌, [], length}
use Rattle.attribute_types.specs.Table.{free_from}
use Rattle.attribute_types.proofs.covering.free_word.Given as goal

abbrev pub invariant-loop : goal.invariant-loop
invariant-loop l = free_from (l.end - l.counter) l.word l.tokens ≡ free_from (length l.tokens) (0x61 ∷ []) l.tokens
