-- Which files a reading asks the store for.
use Rattle.std.specs.Prelude.{◌≡◌, ◌≤◌, ◌⊎◌, ℕ, List, [], ◌∷◌, ◌++◌, length, bytes_eq, Result, Ok, Err}
use Rattle.std.specs.List.{IsDistinct}
use Rattle.std.specs.Map.{keys_of}
use Rattle.jats_fault.specs.declared.fault.Fault.{Fault}
use Rattle.module_reader.specs.declared.refusals.Stop.{Stop}
use Rattle.module_reader.specs.declared.refusals.Stop.TheVariants as fault
use Rattle.module_reader.specs.declared.state.State.{State}
use Rattle.module_reader.specs.Sources.{Files, most_modules}

-- no name stands twice, and there are no more than a set has modules
pub record AreOnce (names : List (List ℕ)) : Type 0 where
  pub distinct : IsDistinct bytes_eq names
  pub few : length names ≤ most_modules

-- A reading that goes on asks for the modules that it adds, in the order in which it adds them, each once.
pub record AsksFor (old new : Files) (before now : List (List ℕ)) : Type 0 where
  pub added : List (List ℕ)
  pub modules : keys_of new ≡ keys_of old ++ added
  pub asked : now ≡ before ++ added
  pub once : AreOnce (keys_of old) → AreOnce (keys_of new)

-- where a load failed, it was the last one: its name comes behind those of the modules that are loaded
abbrev pub EndsAt : List (List ℕ) → List (List ℕ) → Stop → Type 0
EndsAt asked loaded (fault.Refused refusal) = Unit {0}
EndsAt asked loaded fault.LoadFailed = (name : List ℕ) × (asked ≡ loaded ++ name ∷ [])
EndsAt asked loaded fault.NoMemory = Unit {0}

-- a reading that stops asked for each name once
pub record AsksUntil (old new : Files) (before now : List (List ℕ)) (stop : Stop) : Type 0 where
  pub more : List (List ℕ)
  pub asked : now ≡ before ++ more
  pub once : AreOnce (keys_of old) → AreOnce (keys_of old ++ more)
  pub ends : EndsAt (keys_of old ++ more) (keys_of new) stop

-- what a step asks for
abbrev pub Asks : {T : Type 0} → Files → Files → List (List ℕ) → List (List ℕ) → Result T Stop → Type 0
Asks old new before now (Ok x) = AsksFor old new before now
Asks old new before now (Err stop) = AsksUntil old new before now stop

-- the name is asked for, or nothing is
abbrev pub AsksOrNot : List (List ℕ) → List (List ℕ) → List ℕ → Type 0
AsksOrNot before now name = (now ≡ before ++ name ∷ []) ⊎ (now ≡ before)

-- what the loading of a module asks for: nothing where it is loaded, or where there are as many modules as a set has
abbrev pub AsksOne : {T : Type 0} → Files → List (List ℕ) → List (List ℕ) → List ℕ → Result T Stop → Type 0
AsksOne modules before now name (Ok x) = AsksOrNot before now name
AsksOne modules before now name (Err (fault.Refused refusal)) = (now ≡ before ++ name ∷ []) ⊎ ((now ≡ before) × (most_modules ≤ length modules))
AsksOne modules before now name (Err fault.LoadFailed) = now ≡ before ++ name ∷ []
AsksOne modules before now name (Err fault.NoMemory) = AsksOrNot before now name

-- what a reading of a text asks for, whose state is handed out or let go
abbrev pub AsksTo : Files → List (List ℕ) → List (List ℕ) → Result State Stop → Type 0
AsksTo old before now (Ok state) = AsksFor old state.modules before now
AsksTo old before now (Err stop) = (new : Files) × AsksUntil old new before now stop

-- what a reading asks for behind which its modules are let go
abbrev pub AsksSome : {T : Type 0} → Files → List (List ℕ) → List (List ℕ) → Result T Stop → Type 0
AsksSome old before now (Ok x) = (new : Files) × AsksFor old new before now
AsksSome old before now (Err stop) = (new : Files) × AsksUntil old new before now stop

-- the entry is asked for first, and no name twice
abbrev pub FromEntry : List (List ℕ) → List (List ℕ) → List ℕ → Type 0
FromEntry before now entry = (later : List (List ℕ)) × (now ≡ before ++ entry ∷ later) × AreOnce (entry ∷ later)

-- what the reading of an entry asks for; where memory ran out it may be nothing
abbrev pub AsksFrom : {T : Type 0} → List (List ℕ) → List (List ℕ) → List ℕ → Result T Stop → Type 0
AsksFrom before now entry (Ok x) = FromEntry before now entry
AsksFrom before now entry (Err (fault.Refused refusal)) = FromEntry before now entry
AsksFrom before now entry (Err fault.LoadFailed) = FromEntry before now entry
AsksFrom before now entry (Err fault.NoMemory) = FromEntry before now entry ⊎ (now ≡ before)

-- a whole reading asks for the modules of the state that it ends in, in the order of loading
abbrev pub AsksAll : Result State Fault → List (List ℕ) → List (List ℕ) → Type 0
AsksAll said before now = (state : State) × (said ≡ Ok state) × (now ≡ before ++ keys_of state.modules)
