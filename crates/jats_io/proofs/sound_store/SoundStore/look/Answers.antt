use Rattle.std.proofs.Common.{refl}
use Rattle.jats_io.proofs.Entries.{held-files_of}
use Rattle.jats_io.proofs.sound_store.SoundStore.look.Goals as goal
use Rattle.jats_io.proofs.sound_store.SoundStore.look.Goals.{in-Ok, in-Err}

pub returns-in-None-clause-exact : goal.returns-in-None-clause-exact
returns-in-None-clause-exact c = (
  rw (← c.self.view_is, held-files_of, ← c.in-None.ensures.value) refl,
  rw (← c.self.view_is, c.saturating_add-self-inside.ensures) refl,
)

pub returns-after-first_bytes-clause-exact : goal.returns-after-first_bytes-clause-exact
returns-after-first_bytes-clause-exact c =
    elim c.match-first_bytes.branch [
      | in-Ok w ↦ rw w.result-is (rw (← c.self.view_is, held-files_of, ← c.in-Some.ensures.value, w.in-Ok.ensures) refl, refl)
      | in-Err w ↦ rw w.result-is (rw (← c.self.view_is, held-files_of, ← c.in-Some.ensures.value) refl, refl)
    ]
