use Rattle.std.proofs.Common.{◌≡◌, ◌++◌, take}
use Rattle.content_models.specs.Spelling.{behind}
use Rattle.dtd_flattener.proofs.parts.put_more_names.Given as goal

abbrev pub invariant-loop-name : goal.invariant-loop-name
invariant-loop-name l = l.out ≡ l.initial.out ++ behind 124 (take l.name-index l.names)
