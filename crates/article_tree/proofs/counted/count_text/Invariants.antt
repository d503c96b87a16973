use Rattle.std.proofs.Common.{◌≡◌, ◌≤◌, ◌+◌, ◌-◌, ◌^◌, drop}
use Rattle.article_tree.specs.Sizes.{bytes, capped}
use Rattle.article_tree.proofs.counted.count_text.Given as goal

abbrev pub invariant-loop-c : goal.invariant-loop-c
invariant-loop-c l = (l.total ≤ 2 ^ 64 - 1) × (capped (l.total + bytes (drop l.c-index l.text)) ≡ capped (l.before + bytes l.text))
