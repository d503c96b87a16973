use Rattle.std.proofs.Common.{◌≡◌, ◌++◌, take}
use Rattle.content_models.specs.Spelling.{behind}
use Rattle.dtd_flattener.proofs.parts.put_more_tokens.Given as goal

abbrev pub invariant-loop-token : goal.invariant-loop-token
invariant-loop-token l = l.out ≡ l.initial.out ++ behind 124 (take l.token-index l.tokens)
