-- What a catalog names.
use Rattle.std.specs.Prelude.{ℕ, List, Option, bytes_eq}
use Rattle.std.specs.Map.{lookup}

-- identifiers with the names of their files
abbrev pub Files : Type 0
Files = List (List ℕ × List ℕ)

-- the files of system identifiers, and those of collapsed public identifiers
pub record Named : Type 0 where
  pub systems : Files
  pub publics : Files

-- the file of the first line with this identifier
abbrev pub file_of : Files → List ℕ → Option (List ℕ)
file_of files identifier = lookup (bytes_eq identifier) files
