use Rattle.std.proofs.Common.{◌≡◌, map, drop}
use Rattle.content_models.specs.Proper.{names_in, total, checked_less}
use Rattle.content_models.proofs.counting.+count.Given as goal

abbrev pub invariant-left_after_all-loop-part : goal.invariant-left_after_all-loop-part
invariant-left_after_all-loop-part l = checked_less l.rest (total (map names_in (drop l.part-index l.parts))) ≡ checked_less l.left (total (map names_in l.parts))
