use Rattle.std.proofs.Common.{◌≡◌, ◌++◌, drop}
use Rattle.std.specs.List.{flat_map}
use Rattle.article_validator.specs.Filling.{default_of}
use Rattle.article_validator.proofs.filling.put_defaults.Given as goal

abbrev pub invariant-loop-at : goal.invariant-loop-at
invariant-loop-at l = l.all ++ flat_map (default_of l.atts) (drop l.at l.list) ≡ l.fn.all ++ flat_map (default_of l.atts) l.list
