-- What the text of a catalog names.
use Rattle.std.specs.Prelude.{ℕ, ◌+◌, not, List, [], ◌∷◌, filter, bytes_eq, Option, Some, None, Result, Ok, Err}
use Rattle.std.specs.Option.{option_map, option_or}
use Rattle.std.specs.List.{filter_map}
use Rattle.entity_catalog.specs.Collapse.{collapse_public}
use Rattle.entity_catalog.specs.Join.{join}
use Rattle.entity_catalog.specs.Lines.{Line, nothing, system, public, malformed, lines_of}
use Rattle.entity_catalog.specs.Named.{Named, Files}
use Rattle.entity_catalog.specs.declared.faults.CatalogFault.{CatalogFault}
use Rattle.entity_catalog.specs.declared.faults.CatalogFault.TheVariants.{Malformed, PathEscapes}

-- the identifier with its file, whose name is joined to the catalog's own
abbrev pub joined : List ℕ → List ℕ → List ℕ → Option (List ℕ × List ℕ)
joined place identifier name = option_map (λ file. (identifier, file)) (join place name)

-- what a SYSTEM line names
abbrev pub system_in : List ℕ → Line → Option (List ℕ × List ℕ)
system_in place nothing = None
system_in place (system identifier name) = joined place identifier name
system_in place (public identifier name) = None
system_in place malformed = None

-- what a PUBLIC line names
abbrev pub public_in : List ℕ → Line → Option (List ℕ × List ℕ)
public_in place nothing = None
public_in place (system identifier name) = None
public_in place (public identifier name) = joined place (collapse_public identifier) name
public_in place malformed = None

-- the fault of the name of the line with this number, where the path escapes
abbrev pub escape_of : Option (List ℕ) → ℕ → Option CatalogFault
escape_of None number = Some (PathEscapes number)
escape_of (Some file) number = None

-- the fault of the line with this number
abbrev pub fault_of : List ℕ → ℕ → Line → Option CatalogFault
fault_of place number nothing = None
fault_of place number (system identifier name) = escape_of (join place name) number
fault_of place number (public identifier name) = escape_of (join place name) number
fault_of place number malformed = Some (Malformed number)

-- the fault of the first line that has one, where the first line has this number
abbrev pub first_fault : List ℕ → ℕ → List Line → Option CatalogFault
first_fault place number [] = None
first_fault place number (line ∷ lines) = option_or (fault_of place number line) (first_fault place (number + 1) lines)

-- each identifier once, with the file of its first line
abbrev pub firsts : Files → Files
firsts [] = []
firsts (file ∷ files) = file ∷ filter (λ later. not (bytes_eq file.0 later.0)) (firsts files)

-- what lines without fault name
abbrev pub named_in : List ℕ → List Line → Named
named_in place lines = record { systems = firsts (filter_map (system_in place) lines); publics = firsts (filter_map (public_in place) lines) }

-- what lines name, or the fault of the first that has one
abbrev pub read_lines : List ℕ → List Line → Result Named CatalogFault
read_lines place lines = answer (first_fault place 1 lines)
  where
    answer : Option CatalogFault → Result Named CatalogFault
    answer None = Ok (named_in place lines)
    answer (Some fault) = Err fault

-- what the text of the catalog at this place names, or its first fault
unfoldable pub catalog_of : List ℕ → List ℕ → Result Named CatalogFault
catalog_of place text = read_lines place (lines_of text)
