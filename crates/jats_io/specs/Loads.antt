-- What a load answers, over the files by name.
use Rattle.std.specs.Prelude.{◌≡◌, ◌⊎◌, ℕ, ◌+◌, List, ◌++◌, [], ◌∷◌, Option, Some, None, option_map, take, Result, Ok, Err, cond, bytes_eq}
use Rattle.jats_io.specs.declared.store.Loaded.{Loaded}
use Rattle.jats_io.specs.declared.store.Loaded.TheVariants as loaded
use Rattle.jats_io.specs.declared.store.LoadFault.{LoadFault}
use Rattle.jats_io.specs.declared.store.LoadFault.TheVariants as fault

-- the bytes that are held under a name
abbrev pub held : List (List ℕ × List ℕ) → List ℕ → Option (List ℕ)
held [] name = None
held (file ∷ files) name = cond (bytes_eq name file.0) (Some file.1) (held files name)

-- the files once these bytes are put under the name
abbrev pub put_in : List (List ℕ × List ℕ) → List ℕ → List ℕ → List (List ℕ × List ℕ)
put_in [] name bytes = (name, bytes) ∷ []
put_in (file ∷ files) name bytes = cond (bytes_eq name file.0) ((file.0, bytes) ∷ files) (file ∷ put_in files name bytes)

-- the load failed
abbrev pub Failed : Result Loaded LoadFault → Type 0
Failed result = result ≡ Err fault.Failed

-- the file was absent
abbrev pub Absent : Result Loaded LoadFault → Type 0
Absent result = result ≡ Ok loaded.Absent

-- the name is the last that was asked for; where memory ran out it may not be among them
abbrev pub Asks : List (List ℕ) → List (List ℕ) → List ℕ → Result Loaded LoadFault → Type 0
Asks before now name (Ok it) = now ≡ before ++ name ∷ []
Asks before now name (Err fault.Failed) = now ≡ before ++ name ∷ []
Asks before now name (Err fault.NoMemory) = (now ≡ before ++ name ∷ []) ⊎ (now ≡ before)

-- these are the first limit + 1 bytes of what is held under the name, or all where there are fewer
abbrev pub IsHeld : List (List ℕ × List ℕ) → List ℕ → ℕ → List ℕ → Type 0
IsHeld files name limit bytes = option_map (take (limit + 1)) (held files name) ≡ Some bytes

-- the bytes that are held, or that nothing is
abbrev pub Loads : List (List ℕ × List ℕ) → List ℕ → ℕ → Result Loaded LoadFault → Type 0
Loads files name limit (Ok (loaded.Bytes bytes)) = IsHeld files name limit bytes.items
Loads files name limit (Ok loaded.Absent) = held files name ≡ None
Loads files name limit (Err e) = Unit {0}
