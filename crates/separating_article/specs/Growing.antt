-- A chosen tree under way: elements that are started, inside one another, and the items that they still get.
use Rattle.std.specs.Prelude.{◌≡◌, ◌<◌, ◌≤◌, ℕ, ◌+◌, ◌*◌, Bool, true, false, ◌&&◌, List, [], ◌∷◌, ◌++◌, slice_get, Option, Some, None, is_none, option_map, Result, Ok, Err}
use Rattle.content_models.specs.declared.content.Content.{Content}
use Rattle.content_models.specs.Model.{Chars}
use Rattle.document_trees.specs.Trees.{Attribute, Items, nothing, element, Node, joined, elements_in, size}
use Rattle.tree_costs.specs.Beside.{put}
use Rattle.decl_set.specs.Declarations.{name_of}
use Rattle.separating_article.specs.Choosing.{next_step}
use Rattle.separating_article.specs.ChosenSteps.{AreChosen}
use Rattle.separating_article.specs.Guides.{IsGuide}
use Rattle.separating_article.specs.Openings.{way_of, path_of, front_of, atts_of}
use Rattle.separating_article.specs.Paths.{IsTop, Follows}
use Rattle.separating_article.specs.Sizes.{atts_size, front_size, names_size, items_size, written_size}
use Rattle.separating_article.specs.declared.choosing.Step.{Step}
use Rattle.separating_article.specs.declared.fault.BuildOver.{BuildOver}
use Rattle.separating_article.specs.declared.fault.BuildOver.TheVariants.{TextOver, NoMemory}
use Rattle.separating_article.specs.declared.guide.Guide.{Guide}
use Rattle.separating_article.specs.declared.growing.Chosen.{Chosen}
use Rattle.separating_article.specs.declared.growing.Started.{Started}
use Rattle.separating_article.specs.declared.growing.Growing.{Growing}
use Rattle.separating_article.specs.declared.opening.Way.{Way}

-- ---- an element is started

-- attributes are put behind others, and their bytes are taken from those that are left, or there are not so many
abbrev pub PutsAtts : List Attribute → List Attribute → ℕ → List Attribute → Result ℕ BuildOver → Type 0
PutsAtts old new left more (Ok rest) = (new ≡ old ++ more) × (rest + atts_size more ≡ left)
PutsAtts old new left more (Err TextOver) = left < atts_size more
PutsAtts old new left more (Err NoMemory) = Unit {0}

-- an element that is chosen this way, with what stands beside its elements, and nothing more in it yet
abbrev pub begun_node : Guide → Chars → Way → Node
begun_node guide name way = record { name = name; atts = atts_of guide name way; items = put (front_of guide name way) nothing }

-- its tags and what stands beside its elements, where this step comes next
abbrev pub begun_size : Guide → Chars → Way → Option Step → ℕ
begun_size guide name way step =
    names_size name (is_none (front_of guide name way) && is_none step) + atts_size (atts_of guide name way) + front_size (front_of guide name way)

-- the element is started, and these bytes are taken from those that are left, or there are not so many
abbrev pub StartsBy : Guide → Chars → ℕ → Way → Option Step → ℕ → Result (Started × ℕ) BuildOver → Type 0
StartsBy guide name place way step left (Ok r) =
    (r.0 ≡ record { place = place; node = begun_node guide name way; step = step }) × (r.1 + begun_size guide name way step ≡ left)
StartsBy guide name place way step left (Err TextOver) = left < begun_size guide name way step
StartsBy guide name place way step left (Err NoMemory) = Unit {0}

-- the same, the way chosen by whether the tree separates
abbrev pub Starts : Guide → Chars → ℕ → Bool → ℕ → Result (Started × ℕ) BuildOver → Type 0
Starts guide name place separates =
    let way = way_of guide place name separates in StartsBy guide name place way (next_step guide place (path_of way))

-- the element at a place, with the way that is chosen by whether the tree separates, and its first step
pub record IsChosenAt (guide : Guide) (place : ℕ) (separates : Bool) (chosen : Chosen) : Type 0 where
  pub at : chosen.place ≡ place
  pub name : Some chosen.name.now ≡ option_map name_of (slice_get guide.first.now.elements place)
  pub way : chosen.way ≡ way_of guide place chosen.name.now separates
  pub step : chosen.step ≡ next_step guide place (path_of chosen.way)

-- ---- what is still to come

module _ (guide : Guide) where
  -- the items that still come where this step comes next
  abbrev pub IsNext : Chars → Content → Option Step → Items → Type 0
  IsNext e a None rest = rest ≡ nothing
  IsNext e a (Some s) rest =
      (name : Chars) × (b : Content) × (atts : List Attribute) × (inside : Items) × (later : Items) × (rest ≡ element name atts inside later)
      × (slice_get guide.first.now.elements s.place ≡ Some (name, b)) × IsTop guide s.separates name atts inside × Follows guide s.path e a later

  -- the items that a started element still gets
  abbrev pub Gets : Started → Items → Type 0
  Gets w rest = (a : Content) × (slice_get guide.first.now.elements w.place ≡ Some (w.node.name, a)) × IsNext w.node.name a w.step rest

  -- those that each of these gets
  abbrev pub EachGets : List Started → List Items → Type 0
  EachGets [] [] = Unit {0}
  EachGets [] (r ∷ rs) = ⊥
  EachGets (w ∷ ws) [] = ⊥
  EachGets (w ∷ ws) (r ∷ rs) = Gets w r × EachGets ws rs

-- an element with all its items
abbrev pub ended : Node → Items → Node
ended node rest = record { name = node.name; atts = node.atts; items = joined node.items rest }

-- elements inside one another, the first being the outermost, around an inner one, each with the items that it still gets
abbrev pub around : List Started → List Items → Node → Node
around [] rs inner = inner
around (w ∷ ws) [] inner = inner
around (w ∷ ws) (r ∷ rs) inner =
    let within = around ws rs inner in ended w.node (element within.name within.atts within.items r)

abbrev pub all_size : List Items → ℕ
all_size [] = 0
all_size (r ∷ rs) = items_size r + all_size rs

-- What is started comes to this tree, which is no larger than the cap; and with what is left of the text all that still
-- comes is within its limit exactly where the tree is.
pub record Stands (guide : Guide) (limit : ℕ) (tree : Node) (left : ℕ) (inner : Started) (outer : List Started) : Type 0 where
  pub rest : Items
  pub rests : List Items
  pub gets : Gets guide inner rest
  pub each : EachGets guide outer rests
  pub whole : around outer rests (ended inner.node rest) ≡ tree
  pub room : left + written_size tree ≡ limit + (items_size rest + all_size rests)
  pub small : size tree ≤ guide.cap

abbrev pub StandsIn : Guide → ℕ → Node → Growing → Type 0
StandsIn guide limit tree work = Stands guide limit tree work.left work.inner work.outer.items

-- how many steps were done for elements that are started
abbrev pub steps_of : List Started → ℕ
steps_of [] = 0
steps_of (w ∷ ws) = (2 * elements_in w.node.items + 1) + steps_of ws

unfoldable pub done : Growing → ℕ
done work = steps_of work.outer.items + (2 * elements_in work.inner.node.items + 1)

-- there is a tree that it comes to
abbrev pub ComesTo : Guide → Growing → Type 0
ComesTo guide work = (limit : ℕ) × (tree : Node) × StandsIn guide limit tree work

abbrev pub IsUnderWay : Guide → Growing → Type 0
IsUnderWay guide work = IsGuide guide × ComesTo guide work × AreChosen guide work.steps

-- it comes to the same tree
abbrev pub Keeps : Guide → Growing → Growing → Type 0
Keeps guide old new = (limit : ℕ) (tree : Node) → StandsIn guide limit tree old → StandsIn guide limit tree new

-- it comes to the same tree, one step more is done, and the steps that were found are still those that are taken
abbrev pub GoesOn : Guide → Growing → Growing → Type 0
GoesOn guide old new = Keeps guide old new × (done new ≡ done old + 1) × AreChosen guide new.steps

-- it is the tree, and so much is left of the limit
abbrev pub IsWhole : Guide → Growing → Growing → Type 0
IsWhole guide old new = (limit : ℕ) (tree : Node) → StandsIn guide limit tree old → (new.inner.node ≡ tree) × (new.left + written_size tree ≡ limit)

-- the text of the tree has more bytes than the limit
abbrev pub IsOver : Guide → Growing → Type 0
IsOver guide old = (limit : ℕ) (tree : Node) → StandsIn guide limit tree old → limit < written_size tree

-- a step goes on, or all is done, or the text has too many bytes
abbrev pub Steps : Guide → Growing → Growing → Result Bool BuildOver → Type 0
Steps guide old new (Ok true) = GoesOn guide old new
Steps guide old new (Ok false) = IsWhole guide old new
Steps guide old new (Err TextOver) = IsOver guide old
Steps guide old new (Err NoMemory) = Unit {0}

-- the same where a step is there
abbrev pub Enters : Guide → Growing → Growing → Result (Unit {0}) BuildOver → Type 0
Enters guide old new (Ok u) = GoesOn guide old new
Enters guide old new (Err TextOver) = IsOver guide old
Enters guide old new (Err NoMemory) = Unit {0}

-- all that is left is done
abbrev pub Grown : Guide → Growing → Growing → Result (Unit {0}) BuildOver → Type 0
Grown guide old new (Ok u) = IsWhole guide old new
Grown guide old new (Err TextOver) = IsOver guide old
Grown guide old new (Err NoMemory) = Unit {0}

-- an element behind the others in an element that is started
abbrev pub with_child : Started → Node → Started
with_child w child = record w { node = ended w.node (element child.name child.atts child.items nothing) }

-- the innermost element is put into the one around it, where there is one
abbrev pub Leaves : Growing → Growing → Bool → Type 0
Leaves old new true =
    (w : Started) × (old.outer.items ≡ new.outer.items ++ w ∷ []) × (new.inner ≡ with_child w old.inner.node) × (new.left ≡ old.left) × (new.steps ≡ old.steps)
Leaves old new false = (old.outer.items ≡ []) × (new.inner.node ≡ old.inner.node) × (new.left ≡ old.left)
