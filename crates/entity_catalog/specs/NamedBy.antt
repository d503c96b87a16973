use Rattle.entity_catalog.specs.Named.{Named}
use Rattle.entity_catalog.specs.declared.catalog.Catalog.TheInside.{Inside}

-- what the catalog's maps name, in order
abbrev pub named_by : Inside → Named
named_by catalog = record { systems = catalog.systems.entries; publics = catalog.publics.entries }
