use Rattle.std.proofs.Common.{◌≡◌, ◌<◌, length, Some}
use Rattle.document_trees.specs.Trees.{child_names}
use Rattle.document_trees.specs.Seen.{items_of}
use Rattle.position_automata.specs.Automata.{states}
use Rattle.article_validator.specs.Deriving.{leads_on, is_derived}
use Rattle.article_validator.proofs.content.derives.Given as goal

abbrev pub invariant-loop-item : goal.invariant-loop-item
invariant-loop-item l = record {
  leads : leads_on l.automaton (Some l.state) (child_names (items_of l.rest)) ≡ is_derived l.automaton (child_names (items_of l.items));
  within : l.state < states l.automaton;
}

abbrev pub decreases-loop-item : goal.decreases-loop-item
decreases-loop-item l = length l.rest
