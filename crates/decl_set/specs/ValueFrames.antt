-- Texts of a value that wait, and what is left to do.
use Rattle.std.specs.Prelude.{◌≡◌, ◌<◌, ℕ, ◌+◌, ◌-◌, ◌*◌, List, [], ◌∷◌, ◌++◌, length, drop, map, Bool, true, false, Result, Ok, Err}
use Rattle.dtd_scanner.specs.Walk.{◌>>=◌, over}
use Rattle.pe_expansion.specs.Expansion.{Written, with}
use Rattle.decl_set.specs.Declarations.{Entity}
use Rattle.decl_set.specs.Outcomes.{ValueFails}
use Rattle.decl_set.specs.Values.{Valuing, valued, value_step}
use Rattle.decl_set.specs.declared.value_stack.Frame.{Frame}
use Rattle.decl_set.specs.declared.value_stack.Work.{Work}
use Rattle.decl_set.specs.declared.faults.ValueFault.{ValueFault}

-- the names that are open: those of the chain, and then those of the frames
abbrev pub open_names : List (List ℕ) → List Frame → List (List ℕ)
open_names chain frames = chain ++ map (λ f. f.name.now) frames

-- one piece, with these names open
abbrev pub step : List Entity → List (List ℕ) → ℕ → Written → List ℕ → Result (Written × ℕ) ValueFault
step entities names = value_step (valued (32 - length names) entities) entities names

-- what is left of a text from the place on
abbrev pub from : List Entity → List (List ℕ) → List ℕ → ℕ → Written → Result Written ValueFault
from entities names text at w = over (step entities names) at w (drop at text)

-- What the frames still do, the first being the outermost: each goes on when the later ones have ended.
abbrev pub resumed : List Entity → List (List ℕ) → List Frame → Written → Result Written ValueFault
resumed entities names [] w = Ok w
resumed entities names (f ∷ fs) w = resumed entities (names ++ f.name.now ∷ []) fs w >>= from entities names f.text.now f.at

-- all that is left to do
abbrev pub left : List Entity → List (List ℕ) → List Frame → List ℕ → ℕ → Written → Result Written ValueFault
left entities chain frames text at w = from entities (open_names chain frames) text at w >>= resumed entities chain frames

-- how much is left to read in the frames
abbrev pub waiting : List Frame → ℕ
waiting [] = 0
waiting (f ∷ fs) = (length f.text.now - f.at) + waiting fs

-- what a work still gives
unfoldable pub left_of : List Entity → List (List ℕ) → Work → Result Written ValueFault
left_of entities chain w = left entities chain w.frames.items w.text.now w.at (record { text = w.written; spent = w.spent })

-- an upper bound of the steps that are left: what may be included, what is left to read, and the frames
unfoldable pub size_of : Work → ℕ
size_of w = 2 * ((67108864 - w.spent) + ((length w.text.now - w.at) + waiting w.frames.items)) + length w.frames.items

-- what a call answers is what a definition says
abbrev pub Gives : {X Y : Type 0} → (X → Y) → Result X ValueFault → Result Y ValueFault → Type 0
Gives view (Ok x) said = said ≡ Ok (view x)
Gives view (Err f) said = ValueFails f said

-- this many characters, with which the text begins, stand for this one, whatever is declared and open
abbrev pub StandsFor : List ℕ → ℕ → ℕ → Type 0
StandsFor text c len = (deeper : Valuing) (entities : List Entity) (names : List (List ℕ)) (at : ℕ) (w : Written) → value_step deeper entities names at w text ≡ Ok (with w (c ∷ []), len)

-- a step of the work: what it gives stays, and it comes nearer to its end
abbrev pub Advances : List Entity → List (List ℕ) → Work → Work → Type 0
Advances entities chain old new = (left_of entities chain new ≡ left_of entities chain old) × (size_of new < size_of old)

abbrev pub Stepped : {X : Type 0} → List Entity → List (List ℕ) → Work → Work → Result X ValueFault → Type 0
Stepped entities chain old new (Ok x) = Advances entities chain old new
Stepped entities chain old new (Err fault) = ValueFails fault (left_of entities chain old)

-- the end of a text: the last frame goes on, or all is done
abbrev pub GoesOn : List Entity → List (List ℕ) → Work → Work → Bool → Type 0
GoesOn entities chain old new true = Advances entities chain old new
GoesOn entities chain old new false = left_of entities chain old ≡ Ok (record { text = new.written; spent = new.spent })
