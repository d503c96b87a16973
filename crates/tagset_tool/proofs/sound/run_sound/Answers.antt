use Rattle.tagset_tool.proofs.SoundRuns.{sound_done}
use Rattle.tagset_tool.proofs.sound.run_sound.Goals as goal

pub returns : goal.returns
returns c = λ status bytes output room.
    sound_done _ _ _ _ _ (record {
      most = c.run-status.ensures.status;
      made = c.run-status.ensures.made;
      sound_before = c.bytes-before.ensures.sound;
      sound_now = c.bytes-after.ensures.sound;
      loads = c.run-status.ensures.load;
      writes = c.run-status.ensures.write;
      told = c.run-status.ensures.told;
      nothing = c.run-status.ensures.nothing;
    }) status bytes output room
