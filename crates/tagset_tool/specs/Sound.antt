-- What a run over a sound store and a sound sink leaves.
use Rattle.std.specs.Prelude.{◌≡◌, ℕ, ◌+◌, ◌<◌, ◌⊎◌, List, ◌++◌, length}
use Rattle.jats_io.specs.Written.{SoundBytes}
use Rattle.module_reader.specs.Sources.{Files}
use Rattle.tagset_tool.specs.Output.{IsOutput}

-- the output was written whole with its status, or memory ran out and nothing was written
abbrev pub IsDone : ℕ → List ℕ → SoundBytes → SoundBytes → ℕ → Type 0
IsDone status bytes before now result = ((result ≡ status) × (now.bytes ≡ before.bytes ++ bytes)) ⊎ ((result ≡ 6) × (now.bytes ≡ before.bytes))

-- where there is more room than the output is long, it is written, and no count of faults rises
abbrev pub RunsSound : List (List ℕ) → Files → SoundBytes → SoundBytes → ℕ → Type 0
RunsSound words files before now result =
    (status : ℕ) (bytes : List ℕ) → IsOutput words files status bytes → length before.bytes + length bytes < before.made → IsDone status bytes before now result × (now.faults ≡ before.faults)
