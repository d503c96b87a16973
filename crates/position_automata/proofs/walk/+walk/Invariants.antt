use Rattle.std.proofs.Common.{◌≡◌, ◌+◌, ◌==◌, length, take}
use Rattle.content_models.specs.Re.{Eps}
use Rattle.content_models.specs.Model.{in_order, choice_of}
use Rattle.position_automata.specs.Marked.{count}
use Rattle.position_automata.specs.Owed.{IsListed}
use Rattle.position_automata.specs.Places.{edges, models, IsEnds}
use Rattle.position_automata.proofs.Choices.{IsPartly}
use Rattle.position_automata.proofs.walk.+walk.Given as goal

abbrev pub invariant-walk_seq-loop-part : goal.invariant-walk_seq-loop-part
invariant-walk_seq-loop-part l = record {
  ends : IsEnds l.k (in_order Eps (models (take l.part-index l.parts))) l.acc;
  next : l.next ≡ l.k + count (in_order Eps (models (take l.part-index l.parts)));
  listed : IsListed (edges l.k (in_order Eps (models (take l.part-index l.parts)))) l.initial.edges.items l.edges.items l.acc;
}

abbrev pub invariant-walk_choice-loop-part : goal.invariant-walk_choice-loop-part
invariant-walk_choice-loop-part l = record {
  ends : IsPartly l.k (length l.parts == 0) (models (take l.part-index l.parts)) l.acc;
  next : l.next ≡ l.k + count (choice_of (models (take l.part-index l.parts)));
  listed : IsListed (edges l.k (choice_of (models (take l.part-index l.parts)))) l.initial.edges.items l.edges.items l.acc;
}
