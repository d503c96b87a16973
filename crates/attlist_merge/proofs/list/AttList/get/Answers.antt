use Rattle.attlist_merge.proofs.Kept.{sound_pair}
use Rattle.attlist_merge.proofs.list.AttList.get.Goals as goal

pub returns-clause-sound : goal.returns-clause-sound
returns-clause-sound c = sound_pair c.self.inside.atts.entries c.args.at c.get_index.result c.self.invariant.definitions c.get_index.ensures.entry
