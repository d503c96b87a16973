-- What a node has beside its child elements.
use Rattle.std.specs.Prelude.{◌≡◌, ℕ, Bool, List, Option, Some, None, IsTrue}
use Rattle.content_models.specs.declared.content.Content.{Content}
use Rattle.content_models.specs.Model.{Chars}
use Rattle.document_trees.specs.Trees.{Attribute, Items, chars, elements_alone, are_attributes, are_items}
use Rattle.decl_set.specs.Declarations.{Declarations, content_in}
use Rattle.decl_set.specs.Asked.{IsKept}
use Rattle.decl_set.specs.Validity.{Suits}

-- a run of characters that may stand in front of the child elements, and whether it is plain
abbrev pub Front : Type 0
Front = Option (List ℕ × Bool)

abbrev pub put : Front → Items → Items
put None items = items
put (Some run) items = chars run.0 run.1 items

-- a node with these attributes and this front is well made and suits the set, whatever elements stand in it
pub record IsRight (set : Declarations) (e : Chars) (atts : List Attribute) (front : Front) : Type 0 where
  pub attributes : IsTrue (are_attributes atts)
  pub items : (inside : Items) → IsTrue (are_items inside) → IsTrue (are_items (put front inside))
  pub suits : (inside : Items) → IsTrue (elements_alone inside) → Suits set e atts (put front inside)

-- each declared element has attributes with which it is right
abbrev pub EachHasRight : Type 0
EachHasRight = (set : Declarations) (e : Chars) (a : Content) → IsKept set → content_in set e ≡ Some a → (atts : List Attribute) × IsRight set e atts None
