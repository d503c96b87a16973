-- Stores, by what their types keep.
use Rattle.std.specs.Prelude.{ℕ, List, [], Option, unwrap_or, map}
use Rattle.jats_io.specs.Stored.{SoundFiles}
use Rattle.jats_io.specs.declared.sound_store.SoundStore.TheInside.{Inside}

-- the store, with the bytes of its files as lists
abbrev pub sound_files : Inside → SoundFiles
sound_files s = record { files = map (λ e. (e.0, e.1.items)) s.files.entries; absences = s.absences; asked = s.asked }

-- the names that a folder was asked for, where it was asked for any
abbrev pub names_asked : Option (List (List ℕ)) → List (List ℕ)
names_asked asked = unwrap_or asked []
