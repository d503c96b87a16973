-- Reading answers what is written, and nothing else.
use Rattle.declaration_bodies.specs.Laws.{ElementsRead, EntitiesRead, NotationsRead}
use Rattle.declaration_bodies.proofs.Sound.{element_sound, entity_sound, notation_sound}
use Rattle.declaration_bodies.proofs.Complete.{element_complete, entity_complete, notation_complete}

pub elements : ElementsRead
elements body name content = (λ e. element_sound body (name, content) e, element_complete body name content)

pub entities : EntitiesRead
entities body entity = (entity_sound body entity, entity_complete body entity)

pub notations : NotationsRead
notations body name ids = (λ e. notation_sound body (name, ids) e, notation_complete body name ids)
