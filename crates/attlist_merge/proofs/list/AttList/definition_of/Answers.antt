use Rattle.attlist_merge.proofs.Kept.{sound_lent}
use Rattle.attlist_merge.proofs.list.AttList.definition_of.Goals as goal

pub returns-clause-sound : goal.returns-clause-sound
returns-clause-sound c = sound_lent c.self.inside.atts.entries c.args.name.now c.get.result c.self.invariant.definitions c.get.ensures.value
