-- What the calls answer.
use Rattle.std.specs.Prelude.{◌≡◌, ℕ, List, Option, Some, None, Result, Ok, Err}
use Rattle.entity_catalog.specs.Named.{Named}
use Rattle.entity_catalog.specs.declared.faults.CatalogFault.{CatalogFault}
use Rattle.entity_catalog.specs.declared.faults.CatalogFault.TheVariants as catalog
use Rattle.entity_catalog.specs.declared.faults.ResolveFault.{ResolveFault}
use Rattle.entity_catalog.specs.declared.faults.ResolveFault.TheVariants as resolving

-- the catalog that is told, its fault, or want of memory
abbrev pub Reads : Result Named CatalogFault → Result Named CatalogFault → Type 0
Reads told (Ok named) = told ≡ Ok named
Reads told (Err (catalog.Malformed number)) = told ≡ Err (catalog.Malformed number)
Reads told (Err (catalog.PathEscapes number)) = told ≡ Err (catalog.PathEscapes number)
Reads told (Err catalog.NoMemory) = Unit {0}

-- the name that is told, that the path escapes, or want of memory
abbrev pub Resolves : Option (List ℕ) → Result (List ℕ) ResolveFault → Type 0
Resolves told (Ok name) = told ≡ Some name
Resolves told (Err resolving.PathEscapes) = told ≡ None
Resolves told (Err resolving.NoMemory) = Unit {0}
