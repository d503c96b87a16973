use Rattle.std.proofs.Common.{refl}
use Rattle.jats_io.proofs.Entries.{files_of-insert}
use Rattle.jats_io.proofs.sound_store.SoundStore.put.Goals as goal

pub returns-clause-ok : goal.returns-clause-ok
returns-clause-ok c = rw (← c.self.view_is, c.in_ok-insert.ensures.entries, files_of-insert) refl
