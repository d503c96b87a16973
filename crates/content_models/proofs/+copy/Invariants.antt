use Rattle.std.proofs.Common.{◌≡◌, take}
use Rattle.content_models.proofs.+copy.Given as goal

abbrev pub invariant-copying::copy_parts-loop-part : goal.invariant-copying::copy_parts-loop-part
invariant-copying::copy_parts-loop-part l = l.copied ≡ take l.part-index l.parts
