-- Texts that wait, and what is left to do.
use Rattle.std.specs.Prelude.{◌≡◌, ℕ, ◌+◌, ◌-◌, Bool, true, List, [], ◌∷◌, length, drop, Result, Ok}
use Rattle.dtd_scanner.specs.Walk.{◌>>=◌, over}
use Rattle.jats_fault.specs.declared.fault.Fault.{Fault}
use Rattle.document_trees.specs.Trees.{Node}
use Rattle.decl_set.specs.Declarations.{Entity}
use Rattle.article_tree.specs.Words.{Names}
use Rattle.article_tree.specs.Stops.{Standing}
use Rattle.article_tree.specs.Reading.{Open, State, article_step, whole}
use Rattle.article_tree.specs.InPlace.{step_in, closed_in, reading_in}

-- A text that is read up to a place: the names that are open in it, how many elements were open where it began, and where it
-- stands.
pub record Passage : Type 0 where
  pub text : List ℕ
  pub names : Names
  pub base : ℕ
  pub standing : Standing
  pub at : ℕ

-- the same text, read up to another place
abbrev pub moved : Passage → ℕ → Passage
moved p at = record { text = p.text; names = p.names; base = p.base; standing = p.standing; at = at }

-- what is left of a text that is read
abbrev pub rest_of : Passage → List ℕ
rest_of p = drop p.at p.text

-- one token of a content
abbrev pub step : List Entity → Passage → ℕ → State → List ℕ → Result (State × ℕ) Fault
step entities p = step_in entities (reading_in (32 - length p.names) entities) p.names p.base p.standing

-- what the text of an entity still does
abbrev pub from : List Entity → Passage → State → Result State Fault
from entities p s = over (step entities p) p.at s (rest_of p) >>= closed_in p.base p.standing (length p.text)

-- what the text of the article still gives
abbrev pub article_from : List Entity → Passage → Bool → State → Result Node Fault
article_from entities p typed s =
    over (article_step (step entities p) p.standing) p.at (record { state = s; typed = typed }) (rest_of p) >>= λ a. whole p.standing (length p.text) a.state.items a.state.opens

-- what the texts of entities that wait still do, the first being the outermost: each goes on when the later ones have ended
abbrev pub resumed : List Entity → List Passage → State → Result State Fault
resumed entities [] s = Ok s
resumed entities (p ∷ ps) s = resumed entities ps s >>= from entities p

-- all that is left to do, where the first text that waits is that of the article
abbrev pub left : List Entity → Bool → List Passage → Passage → State → Result Node Fault
left entities typed [] p s = article_from entities p typed s
left entities typed (o ∷ ps) p s = (from entities p s >>= resumed entities ps) >>= article_from entities o true

-- an element is open, or the text is that of an entity
abbrev pub IsInside : List Passage → State → Type 0
IsInside [] s = (o : Open) × (opens : List Open) × (s.opens ≡ o ∷ opens)
IsInside (o ∷ ps) s = Unit {0}

-- how many characters are not read yet
abbrev pub unread : Passage → ℕ
unread p = length p.text - p.at

abbrev pub all_unread : List Passage → ℕ
all_unread [] = 0
all_unread (p ∷ ps) = unread p + all_unread ps
