use Rattle.std.proofs.Common.{◌≡◌, take, bytes_eq}
use Rattle.std.specs.List.{list_any}
use Rattle.content_models.specs.Model.{Chars}
use Rattle.indexmap.specs.IndexSet.{contains}
use Rattle.model_inclusion.proofs.live.distinct.Given as goal

abbrev pub invariant-loop-name : goal.invariant-loop-name
invariant-loop-name l = (name : Chars) → contains bytes_eq l.found name ≡ list_any (bytes_eq name) (take l.name-index l.names)
