use Rattle.std.proofs.Common.{◌≡◌, ◌≤◌, ◌+◌, ◌-◌, ◌^◌, drop}
use Rattle.std.specs.List.{flat_map}
use Rattle.article_tree.specs.Sizes.{bytes, capped}
use Rattle.article_tree.specs.Writing.{value_char}
use Rattle.article_tree.proofs.counted.count_value.Given as goal

abbrev pub invariant-loop-c : goal.invariant-loop-c
invariant-loop-c l = (l.total ≤ 2 ^ 64 - 1) × (capped (l.total + bytes (flat_map value_char (drop l.c-index l.text))) ≡ capped (l.before + bytes (flat_map value_char l.text)))
