-- What a build comes to, for whatever tree is the chosen one.
use Rattle.std.specs.Prelude.{◌≡◌, ◌≤◌, ◌<◌, ℕ, Bool, Result, Ok, Err}
use Rattle.content_models.specs.Model.{Chars}
use Rattle.document_trees.specs.Trees.{Node, size}
use Rattle.separating_article.specs.ChosenSteps.{AreChosen}
use Rattle.separating_article.specs.Growing.{StandsIn}
use Rattle.separating_article.specs.Paths.{IsTreeOf}
use Rattle.separating_article.specs.Sizes.{written_size}
use Rattle.separating_article.specs.declared.fault.BuildOver.{BuildOver}
use Rattle.separating_article.specs.declared.fault.BuildOver.TheVariants.{TextOver, NoMemory}
use Rattle.separating_article.specs.declared.growing.Growing.{Growing}
use Rattle.separating_article.specs.declared.guide.Guide.{Guide}

-- a chosen tree that is no larger than the cap
abbrev pub IsTree : Guide → Bool → Chars → Node → Type 0
IsTree guide separates root tree = IsTreeOf guide separates root tree × (size tree ≤ guide.cap)

abbrev pub HasTree : Guide → Bool → Chars → Type 0
HasTree guide separates root = (tree : Node) × IsTree guide separates root tree

-- what is started comes to the tree, or the text of the tree has too many bytes
abbrev pub BeginsOf : Guide → ℕ → Node → Result Growing BuildOver → Type 0
BeginsOf guide limit tree (Ok work) = StandsIn guide limit tree work × AreChosen guide work.steps
BeginsOf guide limit tree (Err TextOver) = limit < written_size tree
BeginsOf guide limit tree (Err NoMemory) = Unit {0}

abbrev pub Begins : Guide → Bool → Chars → ℕ → Result Growing BuildOver → Type 0
Begins guide separates root limit result = (tree : Node) → IsTree guide separates root tree → BeginsOf guide limit tree result

-- what is answered, where this is the tree
abbrev pub TellsOf : ℕ → Node → Result Node BuildOver → Type 0
TellsOf limit tree (Ok node) = (node ≡ tree) × (written_size tree ≤ limit)
TellsOf limit tree (Err TextOver) = limit < written_size tree
TellsOf limit tree (Err NoMemory) = Unit {0}

abbrev pub Tells : Guide → Bool → Chars → ℕ → Result Node BuildOver → Type 0
Tells guide separates root limit result = (tree : Node) → IsTree guide separates root tree → TellsOf limit tree result
