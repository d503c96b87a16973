-- A reading under way, as a program holds it.
use Rattle.std.specs.Prelude.{◌≡◌, ◌<◌, ℕ, ◌+◌, ◌-◌, ◌*◌, Bool, true, false, List, [], Vec, length, map, Result, Ok, Err}
use Rattle.std.specs.declared.alloc.Global.{Global}
use Rattle.jats_fault.specs.declared.fault.Fault.{Fault}
use Rattle.document_trees.specs.Trees.{Node}
use Rattle.decl_set.specs.Declarations.{Entity}
use Rattle.article_tree.specs.Frames.{Passage, IsInside, left, unread, all_unread}
use Rattle.article_tree.specs.Held.{EndsApart, state_of}
use Rattle.article_tree.specs.InPlace.{done_in, reading_in}
use Rattle.article_tree.specs.Outcomes.{Fails, standing_of}
use Rattle.article_tree.specs.Reading.{State, whole}
use Rattle.article_tree.specs.Taken.{StandsAt}
use Rattle.article_tree.specs.Tokens.{Token}
use Rattle.article_tree.specs.declared.frames.Frame.{Frame}
use Rattle.article_tree.specs.declared.frames.Work.{Work}
use Rattle.article_tree.specs.declared.stops.ArticleFault.{ArticleFault}
use Rattle.article_tree.specs.declared.held.Held.{Held}

abbrev pub passage_of : Frame → Passage
passage_of f = record { text = f.text.now; names = f.names; base = f.base; standing = standing_of f.stand; at = f.at }

-- what a work still gives
unfoldable pub left_of : List Entity → Work → Result Node Fault
left_of entities w = left entities w.typed (map passage_of w.waiting.items) (passage_of w.frame) (state_of w.held)

-- an upper bound of the steps that are left: what may be included, what is left to read, and the texts that wait
unfoldable pub size_of : Work → ℕ
size_of w = 2 * ((67108864 - w.held.spent) + (unread (passage_of w.frame) + all_unread (map passage_of w.waiting.items))) + length w.waiting.items

-- a step of the work: what it gives stays, and it comes nearer to its end
pub record Advances (entities : List Entity) (old new : Work) : Type 0 where
  pub same : left_of entities new ≡ left_of entities old
  pub nearer : size_of new < size_of old
  pub apart : EndsApart new.held.items.items

abbrev pub Stepped : {X : Type 0} → List Entity → Work → Work → Result X ArticleFault → Type 0
Stepped entities old new (Ok x) = Advances entities old new
Stepped entities old new (Err fault) = Fails fault (left_of entities old)

-- the work of these parts
abbrev pub work_of : Held → Bool → Frame → Vec Frame Global → Work
work_of held typed frame waiting = record { held = held; typed = typed; frame = frame; waiting = waiting }

-- a token stands at the place, inside of an element or of an included text
pub record Stands (w : Work) (token : Token) (next : ℕ) : Type 0 where
  pub apart : EndsApart w.held.items.items
  pub here : w.frame.at < length w.frame.text.now
  pub inside : IsInside (map passage_of w.waiting.items) (state_of w.held)
  pub stands : StandsAt w.frame.text.now w.frame.at token next

-- what a token at the place does to what was read
abbrev pub does : List Entity → Frame → State → Token → Result State Fault
does entities f s token = done_in entities (reading_in (32 - length f.names) entities) f.names f.base (standing_of f.stand) f.at s token

-- the end of a text: the last one that waits goes on, or the article has ended
abbrev pub Turns : List Entity → Work → Work → Result Bool ArticleFault → Type 0
Turns entities old new (Ok true) = Advances entities old new
Turns entities old new (Ok false) = left_of entities old ≡ whole (standing_of new.frame.stand) (length new.frame.text.now) (state_of new.held).items (state_of new.held).opens
Turns entities old new (Err fault) = Fails fault (left_of entities old)

-- a step outside of all elements, with whether a document type declaration may no longer come
abbrev pub Passes : List Entity → Work → Held → Frame → Vec Frame Global → Result Bool ArticleFault → Type 0
Passes entities old held frame waiting (Ok typed) = Advances entities old (work_of held typed frame waiting)
Passes entities old held frame waiting (Err fault) = Fails fault (left_of entities old)

-- outside of all elements, before the end of the text
pub record IsOutside (held : Held) (frame : Frame) : Type 0 where
  pub apart : EndsApart held.items.items
  pub here : frame.at < length frame.text.now
  pub none_open : held.opens.items ≡ []
