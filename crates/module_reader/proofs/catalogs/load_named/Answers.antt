use Rattle.module_reader.proofs.CatalogFiles.{catalog_read, catalog_unread}
use Rattle.module_reader.proofs.catalogs.load_named.Goals as goal

pub returns-in-Err-clause-told : goal.returns-in-Err-clause-told
returns-in-Err-clause-told g c = catalog_unread (g.S.Store.holds c.args.store.now) c.args.name.now c.in-Err.stop c.in-Err.ensures.told

pub returns-in-Ok-clause-told : goal.returns-in-Ok-clause-told
returns-in-Ok-clause-told g c = catalog_read (g.S.Store.holds c.args.store.now) c.args.name.now c.in-Ok.text c.catalog_of_text.result c.in-Ok.ensures.told c.catalog_of_text.ensures.told
