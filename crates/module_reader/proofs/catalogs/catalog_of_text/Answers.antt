use Rattle.entity_catalog.specs.Catalogs.{catalog_of}
use Rattle.module_reader.proofs.CatalogFiles.{catalog_stops}
use Rattle.module_reader.proofs.catalogs.catalog_of_text.Goals as goal

pub returns-in-Err-clause-told : goal.returns-in-Err-clause-told
returns-in-Err-clause-told c = catalog_stops c.args.name.now (catalog_of c.args.name.now c.args.text.now) c.in-Err.fault c.catalog_stop.result c.in-Err.ensures c.catalog_stop.ensures.refuses c.catalog_stop.ensures.memory
