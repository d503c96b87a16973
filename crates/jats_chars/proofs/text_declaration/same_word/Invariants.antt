use Rattle.std.proofs.Common.{◌≡◌, drop}
use Rattle.jats_chars.specs.TextDeclaration as spec
use Rattle.jats_chars.proofs.text_declaration.same_word.Given as goal

-- what is left decides
abbrev pub invariant-loop-k : goal.invariant-loop-k
invariant-loop-k l = spec.is_word_in_any_case l.word l.name ≡ spec.is_word_in_any_case (drop l.k l.word) (drop l.k l.name)
