-- The stores in memory, and what a load does to them.
use Rattle.std.specs.Prelude.{◌≡◌, ◌⊎◌, ℕ, List, [], ◌∷◌, ◌++◌, None, Result, Ok, Err, IsSome, Contains}
use Rattle.jats_io.specs.Causes.{raised}
use Rattle.jats_io.specs.Loads.{held, IsHeld}
use Rattle.jats_io.specs.declared.store.Loaded.{Loaded}
use Rattle.jats_io.specs.declared.store.Loaded.TheVariants as loaded
use Rattle.jats_io.specs.declared.store.LoadFault.{LoadFault}
use Rattle.jats_io.specs.declared.store.LoadFault.TheVariants as fault

-- what a sound store is
pub record SoundFiles : Type 0 where
  -- the bytes by name
  pub files : List (List ℕ × List ℕ)
  -- how often a file was absent
  pub absences : ℕ
  -- the names that were asked for, in order
  pub asked : List (List ℕ)

-- what a store in memory is
pub record Stored : Type 0 where
  -- the bytes by name
  pub files : List (List ℕ × List ℕ)
  -- the numbers of the loads that fail
  pub failing : List ℕ
  -- how many loads there were
  pub calls : ℕ
  -- how often a load has failed
  pub faults : ℕ
  -- how often a file was absent
  pub absences : ℕ
  -- the names that were asked for, in order
  pub asked : List (List ℕ)

-- the name was asked for
abbrev pub asking : SoundFiles → List ℕ → SoundFiles
asking s name = record s { asked = s.asked ++ name ∷ [] }

-- what is held is looked up: it never fails, and what is held alone takes memory
abbrev pub Looks : SoundFiles → SoundFiles → List ℕ → ℕ → Result Loaded LoadFault → Type 0
Looks old new name limit (Ok (loaded.Bytes bytes)) = IsHeld old.files name limit bytes.items × (new ≡ old)
Looks old new name limit (Ok loaded.Absent) = (held old.files name ≡ None) × (new ≡ record old { absences = raised old.absences })
Looks old new name limit (Err fault.Failed) = ⊥
Looks old new name limit (Err fault.NoMemory) = IsSome (held old.files name) × (new ≡ old)

-- a load of a sound store: the name is asked for and looked up, or memory runs out before that
abbrev pub LoadsSound : SoundFiles → SoundFiles → List ℕ → ℕ → Result Loaded LoadFault → Type 0
LoadsSound old new name limit result = Looks (asking old name) new name limit result ⊎ ((result ≡ Err fault.NoMemory) × (new ≡ old))

-- whether the next load fails
abbrev pub IsListed : Stored → Type 0
IsListed s = Contains s.failing (raised s.calls)

-- the name was asked for, and the load counted
abbrev pub counting : Stored → List ℕ → Stored
counting s name = record s { calls = raised s.calls; asked = s.asked ++ name ∷ [] }

-- a load of a store in memory: it is counted, and fails exactly where its number is listed
abbrev pub LoadsStored : Stored → Stored → List ℕ → ℕ → Result Loaded LoadFault → Type 0
LoadsStored old new name limit (Ok (loaded.Bytes bytes)) = (¬ IsListed old) × IsHeld old.files name limit bytes.items × (new ≡ counting old name)
LoadsStored old new name limit (Ok loaded.Absent) = (¬ IsListed old) × (held old.files name ≡ None) × (new ≡ record (counting old name) { absences = raised old.absences })
LoadsStored old new name limit (Err fault.Failed) = IsListed old × (new ≡ record (counting old name) { faults = raised old.faults })
LoadsStored old new name limit (Err fault.NoMemory) =
    ((¬ IsListed old) × IsSome (held old.files name) × (new ≡ counting old name)) ⊎ (new ≡ record old { calls = raised old.calls })
