-- The set that an entry and a catalog stand for.
use Rattle.std.specs.Prelude.{ℕ, List, [], Option, Some, None, Result, Ok, Err}
use Rattle.jats_fault.specs.declared.fault.Fault.{Fault}
use Rattle.dtd_scanner.specs.Walk.{◌>>=◌}
use Rattle.entity_catalog.specs.Catalogs.{catalog_of}
use Rattle.entity_catalog.specs.Named.{Named}
use Rattle.entity_catalog.specs.declared.faults.CatalogFault.{CatalogFault}
use Rattle.decl_set.specs.Declarations.{Declarations}
use Rattle.decl_set.specs.Declaring.{end_fault}
use Rattle.decl_set.specs.declared.faults.DeclFault.{DeclFault}
use Rattle.module_reader.specs.declared.state.State.{State}
use Rattle.module_reader.specs.Reading.{module_read}
use Rattle.module_reader.specs.Sources.{Files, Source, started, module_of, file_text, most_bytes}
use Rattle.module_reader.specs.Stops.{module_text, decl_stop, catalog_stop}

-- the set, where the tests after the last declaration find no fault
abbrev pub finished_by : List ℕ → Declarations → Option DeclFault → Result Declarations Fault
finished_by entry set None = Ok set
finished_by entry set (Some fault) = Err (decl_stop (module_text entry) 0 fault)

abbrev pub finished : List ℕ → State → Result Declarations Fault
finished entry s = finished_by entry s.set (end_fault s.set)

abbrev pub entry_read : Source → List ℕ → State × List ℕ → Result Declarations Fault
entry_read source entry r = module_read source entry r.0 r.1 >>= finished entry

-- the state in which the reading of an entry ends, with the catalog that is given
unfoldable pub read_from : Source → List ℕ → Result State Fault
read_from source entry = module_of source started entry >>= λ r. module_read source entry r.0 r.1

-- the set of an entry, with the catalog that is given
unfoldable pub set_from : Source → List ℕ → Result Declarations Fault
set_from source entry = module_of source started entry >>= entry_read source entry

abbrev pub named_by : List ℕ → Result Named CatalogFault → Result Named Fault
named_by place (Ok named) = Ok named
named_by place (Err fault) = Err (catalog_stop place fault)

-- the catalog of a file; without a file it names nothing
unfoldable pub catalog_from : Files → Option (List ℕ) → Result Named Fault
catalog_from files None = Ok (record { systems = []; publics = [] })
catalog_from files (Some place) = file_text most_bytes files place >>= λ text. named_by place (catalog_of place text)

-- the set that an entry stands for, with the catalog of a file, or the first refusal
abbrev pub set_of : Files → Option (List ℕ) → List ℕ → Result Declarations Fault
set_of files catalog entry = catalog_from files catalog >>= λ named. set_from (record { files = files; catalog = named }) entry
