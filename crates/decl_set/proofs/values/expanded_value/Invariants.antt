use Rattle.std.proofs.Common.{◌≡◌, ◌+◌, Ok, cond}
use Rattle.std.specs.Bool.{OnTrue, OnFalse}
use Rattle.decl_set.specs.Values.{value_of}
use Rattle.decl_set.specs.ValueFrames.{left_of, size_of}
use Rattle.decl_set.proofs.values.expanded_value.Given as goal

-- what is left gives what the text stands for, until nothing is left
abbrev pub invariant-loop-more : goal.invariant-loop-more
invariant-loop-more l =
    OnTrue l.more (left_of l.entities.entries l.chain l.work ≡ value_of l.entities.entries l.chain l.fn.budget.spent l.raw)
    × OnFalse l.more (value_of l.entities.entries l.chain l.fn.budget.spent l.raw ≡ Ok (record { text = l.work.written; spent = l.work.spent }))

abbrev pub decreases-loop-more : goal.decreases-loop-more
decreases-loop-more l = cond l.more (size_of l.work + 1) 0
