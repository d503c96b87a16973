use Rattle.module_reader.proofs.FileTexts.{text_told}
use Rattle.module_reader.proofs.files.text_loaded.Goals as goal

pub returns-in-Ok-Bytes-clause-told : goal.returns-in-Ok-Bytes-clause-told
returns-in-Ok-Bytes-clause-told g c =
    text_told c.args.limit c.args.name.now (g.S.Store.holds c.args.store.now) c.in-Ok-Bytes.field-0 c.in-Ok-Bytes.bytes c.text_of_bytes.result c.in-Ok-Bytes.field-0-is c.in-Ok-Bytes.ensures.told
    (rw c.as_slice.ensures.value at c.text_of_bytes.ensures.told)
