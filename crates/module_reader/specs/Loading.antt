-- What the loading of modules answers.
use Rattle.std.specs.Prelude.{◌≡◌, ℕ, List, [], ◌∷◌, ◌++◌, length, bytes_eq, Option, Some, None, slice_get, IsTrue, Result, Ok, Err}
use Rattle.std.specs.Map.{lookup}
use Rattle.jats_fault.specs.declared.fault.Fault.{Fault}
use Rattle.decl_set.specs.Asked.{are_chars}
use Rattle.dtd_scanner.specs.Walk.{◌>>=◌}
use Rattle.pe_expansion.specs.Bound.{IsOuter, text_bound}
use Rattle.module_reader.specs.declared.refusals.Stop.{Stop}
use Rattle.module_reader.specs.declared.refusals.Stop.TheVariants as fault
use Rattle.module_reader.specs.declared.state.State.{State}
use Rattle.module_reader.specs.Sources.{Source, given, module_of}

-- the module at the number has this name
abbrev pub IsModule : List (List ℕ × List ℕ) → ℕ → List ℕ → Type 0
IsModule modules number name = (text : List ℕ) × (slice_get modules number ≡ Some (name, text))

-- the place and the text of a module by its name, or that none has it
abbrev pub FindsModule : List (List ℕ × List ℕ) → List ℕ → Option ℕ → Type 0
FindsModule modules name None = lookup (bytes_eq name) modules ≡ None
FindsModule modules name (Some number) = (text : List ℕ) × (lookup (bytes_eq name) modules ≡ Some text) × (slice_get modules number ≡ Some (name, text))

-- a module of this name goes last, whose text is of Chars, and the count of bytes changes
abbrev pub Adds : State → State → List ℕ → ℕ → Type 0
Adds old new name number =
    (text : List ℕ) × (size : ℕ) × (number ≡ length old.modules) × (new ≡ record old { modules = old.modules ++ (name, text) ∷ []; bytes = size }) × IsTrue (are_chars text)

-- the state and the text that are said, the text being that of the module at the number; or the refusal that is said
abbrev pub LoadsModule : Result (State × List ℕ) Fault → State → List ℕ → Result ℕ Stop → Type 0
LoadsModule said new name (Ok number) = (text : List ℕ) × (said ≡ Ok (new, text)) × (slice_get new.modules number ≡ Some (name, text))
LoadsModule said new name (Err (fault.Refused refusal)) = said ≡ Err refusal
LoadsModule said new name (Err fault.LoadFailed) = Unit {0}
LoadsModule said new name (Err fault.NoMemory) = Unit {0}

-- a module is loaded, and its text given to an outer entity
abbrev pub giving : Source → State → List ℕ → List ℕ → Result State Fault
giving source s file name = module_of source s file >>= λ r. Ok (given name r)

-- the file whose text an outer entity is to be given, or that nothing is to be done, or the refusal, as is said of a loading
abbrev pub NamesFile : Source → Result State Fault → State → List ℕ → Result (Option (List ℕ)) Stop → Type 0
NamesFile source said s name (Ok None) = said ≡ Ok s
NamesFile source said s name (Ok (Some file)) = IsOuter (text_bound s.bound name) × (said ≡ giving source s file name)
NamesFile source said s name (Err (fault.Refused refusal)) = said ≡ Err refusal
NamesFile source said s name (Err fault.LoadFailed) = ⊥
NamesFile source said s name (Err fault.NoMemory) = Unit {0}
