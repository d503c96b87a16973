use Rattle.std.proofs.Common.{◌≡◌, ◌+◌, Ok, cond}
use Rattle.std.specs.Bool.{OnTrue, OnFalse}
use Rattle.pe_expansion.specs.Expansion.{expansion_of}
use Rattle.pe_expansion.specs.Frames.{size_of}
use Rattle.pe_expansion.specs.Nesting.{Judges}
use Rattle.pe_expansion.specs.Pausing.{IsUnderWay}
use Rattle.pe_expansion.proofs.pausing.PausedExpansion.resume.Given as goal

-- the work is on the text until nothing is left
abbrev pub invariant-loop-more : goal.invariant-loop-more
invariant-loop-more l =
    OnTrue l.more (IsUnderWay l.manner l.bound l.chain l.text l.first l.work)
    × OnTrue l.more (Judges l.manner l.work)
    × OnFalse l.more (expansion_of l.manner l.bound l.chain l.first l.text ≡ Ok (record { text = l.work.written; spent = l.work.spent }))

abbrev pub decreases-loop-more : goal.decreases-loop-more
decreases-loop-more l = cond l.more (size_of l.work + 1) 0
