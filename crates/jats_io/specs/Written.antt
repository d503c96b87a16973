-- The sinks in memory, and what a write does to them.
use Rattle.std.specs.Prelude.{◌≡◌, ℕ, ◌-◌, ◌<◌, ◌⊎◌, List, ◌++◌, length, take, min, Result, Ok, Err, Contains}
use Rattle.jats_io.specs.Causes.{raised}

-- what a sink in memory is
pub record Written : Type 0 where
  -- what was written
  pub bytes : List ℕ
  -- how many more bytes it takes
  pub room : ℕ
  -- how many bytes one write takes at most
  pub most : ℕ
  -- the numbers of the writes that fail
  pub failing : List ℕ
  -- how many writes there were
  pub calls : ℕ
  -- how often a write has failed
  pub faults : ℕ

-- what a sound sink is
pub record SoundBytes : Type 0 where
  -- what was written
  pub bytes : List ℕ
  -- the room that it was made with
  pub made : ℕ
  -- how often a write has failed
  pub faults : ℕ

-- the piece is not empty, and this is all the room that is left
abbrev pub IsFull : ℕ → List ℕ → Type 0
IsFull room piece = (room ≡ 0) × (0 < length piece)

-- whether the next write of a sink in memory, of this piece, fails
abbrev pub Refuses : Written → List ℕ → Type 0
Refuses s piece = Contains s.failing (raised s.calls) ⊎ IsFull s.room piece

-- a write to a sink in memory: it is counted, and fails exactly where its number is listed or no room is left
abbrev pub WritesMemory : {E : Type 0} → Written → Written → List ℕ → Result ℕ E → Type 0
WritesMemory old new piece (Ok count) =
    (¬ Refuses old piece) × (count ≡ min (length piece) (min old.most old.room))
    × (new ≡ record old { bytes = old.bytes ++ take count piece; room = old.room - count; calls = raised old.calls })
WritesMemory old new piece (Err _) = Refuses old piece × (new ≡ record old { calls = raised old.calls; faults = raised old.faults })

-- a write to a sound sink: it fails exactly where no room is left
abbrev pub WritesSound : {E : Type 0} → SoundBytes → SoundBytes → List ℕ → Result ℕ E → Type 0
WritesSound old new piece (Ok count) =
    (¬ IsFull (old.made - length old.bytes) piece) × (count ≡ min (length piece) (old.made - length old.bytes))
    × (new ≡ record old { bytes = old.bytes ++ take count piece })
WritesSound old new piece (Err _) = IsFull (old.made - length old.bytes) piece × (new ≡ record old { faults = raised old.faults })
