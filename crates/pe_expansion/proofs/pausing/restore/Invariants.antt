use Rattle.std.proofs.Common.{◌≡◌, map, take}
use Rattle.pe_expansion.specs.Pausing.{AreNumbered, place_of}
use Rattle.pe_expansion.proofs.pausing.restore.Given as goal

-- the places so far are those of the texts that wait
abbrev pub invariant-loop-place : goal.invariant-loop-place
invariant-loop-place l =
    AreNumbered l.bound l.fn.work.text.now l.work.frames.items l.work.text.now
    × (map place_of l.work.frames.items ≡ take l.place-index l.places)
    × (l.work.written ≡ l.fn.work.written)
    × (l.work.spent ≡ l.fn.work.spent)
    × (l.work.at ≡ l.fn.work.at)
    × (l.work.broken ≡ l.fn.work.broken)
