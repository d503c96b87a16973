use Rattle.std.proofs.Common.{◌≡◌, ◌≤◌, ◌+◌, ◌-◌, ◌^◌, drop}
use Rattle.std.specs.List.{flat_map}
use Rattle.article_tree.specs.Sizes.{bytes, capped}
use Rattle.article_tree.specs.Writing.{run_char}
use Rattle.article_tree.proofs.counted.count_run_chars.Given as goal

abbrev pub invariant-loop-c : goal.invariant-loop-c
invariant-loop-c l = (l.total ≤ 2 ^ 64 - 1) × (capped (l.total + bytes (flat_map run_char (drop l.c-index l.text))) ≡ capped (l.before + bytes (flat_map run_char l.text)))
