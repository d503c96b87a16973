use Rattle.declaration_bodies.proofs.Exact.{elements, entities, notations}
use Rattle.declaration_bodies.proofs.laws.bodies_law.Goals as goal

pub returns : goal.returns
returns c = record { elements = elements; entities = entities; notations = notations }
