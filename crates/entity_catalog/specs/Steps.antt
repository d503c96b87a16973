-- What one line of a catalog does.
use Rattle.std.specs.Prelude.{◌≡◌, ℕ, List, [], ◌∷◌, ◌++◌, Option, Some, None, is_some, if◌then◌else◌, Result, Ok, Err}
use Rattle.entity_catalog.specs.Catalogs.{system_in, public_in}
use Rattle.entity_catalog.specs.Lines.{Line}
use Rattle.entity_catalog.specs.Named.{Named, Files, file_of}
use Rattle.entity_catalog.specs.declared.faults.CatalogFault.{CatalogFault}
use Rattle.entity_catalog.specs.declared.faults.CatalogFault.TheVariants as catalog

-- one file more, where its identifier is new
abbrev pub with_first : Files → (List ℕ × List ℕ) → Files
with_first files file = if is_some (file_of files file.0) then files else files ++ file ∷ []

abbrev pub with_each : Files → Option (List ℕ × List ℕ) → Files
with_each files None = files
with_each files (Some file) = with_first files file

-- what is named once this line was read
abbrev pub with_line : List ℕ → Named → Line → Named
with_line place named line = record { systems = with_each named.systems (system_in place line); publics = with_each named.publics (public_in place line) }

-- a line: what is named then, its fault, or want of memory
abbrev pub ReadsLine : Option CatalogFault → Named → Named → Result (Unit {0}) CatalogFault → Type 0
ReadsLine fault told named (Ok done) = (fault ≡ None) × (named ≡ told)
ReadsLine fault told named (Err (catalog.Malformed number)) = fault ≡ Some (catalog.Malformed number)
ReadsLine fault told named (Err (catalog.PathEscapes number)) = fault ≡ Some (catalog.PathEscapes number)
ReadsLine fault told named (Err catalog.NoMemory) = Unit {0}

-- a name in the line with this number: the file, that the path escapes, or want of memory
abbrev pub NamesFile : Option (List ℕ) → ℕ → Result (List ℕ) CatalogFault → Type 0
NamesFile told number (Ok file) = told ≡ Some file
NamesFile told number (Err (catalog.Malformed n)) = ⊥
NamesFile told number (Err (catalog.PathEscapes n)) = (told ≡ None) × (n ≡ number)
NamesFile told number (Err catalog.NoMemory) = Unit {0}
