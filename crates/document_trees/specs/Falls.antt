-- Each node below a node has fewer elements.
use Rattle.std.specs.Prelude.{◌+◌, ◌≤◌, max, List, [], ◌∷◌}
use Rattle.std.proofs.Common.{arith}
use denote.Param.Weighed.{most}
use Rattle.document_trees.specs.Trees.{elements_in}
use Rattle.document_trees.specs.Seen.{items_of}
use Rattle.document_trees.specs.declared.nodes.Item.{Item}
use Rattle.document_trees.specs.declared.nodes.Item.TheVariants.{Element, Chars, Comment, Pi}
use Rattle.document_trees.specs.declared.nodes.Node.TheDeep.{deep-Item}

pub below_fewer : (items : List Item) → max (most deep-Item items) 0 ≤ 1 + elements_in (items_of items)
below_fewer [] = omega arith
below_fewer (Element node ∷ items) = omega (arith, below_fewer items)
below_fewer (Chars text plain ∷ items) = omega (arith, below_fewer items)
below_fewer (Comment text ∷ items) = omega (arith, below_fewer items)
below_fewer (Pi target body ∷ items) = omega (arith, below_fewer items)
