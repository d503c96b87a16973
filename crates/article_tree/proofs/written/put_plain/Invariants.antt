use Rattle.std.proofs.Common.{◌≡◌, ◌++◌, take, map}
use Rattle.article_tree.specs.Writing.{line_end}
use Rattle.article_tree.proofs.written.put_plain.Given as goal

abbrev pub invariant-loop-c : goal.invariant-loop-c
invariant-loop-c l = l.out ≡ l.initial.out ++ map line_end (take l.c-index l.text)
