use Rattle.attlist_merge.proofs.Sound.{attlist_sound}
use Rattle.attlist_merge.proofs.Complete.{attlist_complete}
use Rattle.attlist_merge.proofs.laws.attlist_law.Goals as goal

pub returns : goal.returns
returns c = record { read = attlist_sound; written = attlist_complete }
