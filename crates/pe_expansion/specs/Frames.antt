-- Texts that wait, and what is left to do.
use Rattle.std.specs.Prelude.{◌≡◌, ◌<◌, ℕ, ◌+◌, ◌-◌, ◌*◌, List, [], ◌∷◌, ◌++◌, length, drop, map, Bool, true, false, Result, Ok, Err}
use Rattle.dtd_scanner.specs.Walk.{◌>>=◌, over}
use Rattle.pe_expansion.specs.Bound.{Bound}
use Rattle.pe_expansion.specs.Expansion.{Written, closed, expansion, expansion_step}
use Rattle.pe_expansion.specs.Outcomes.{Fails}
use Rattle.pe_expansion.specs.declared.pieces.Manner.{Manner}
use Rattle.pe_expansion.specs.declared.stack.Frame.{Frame}
use Rattle.pe_expansion.specs.declared.stack.Work.{Work}
use Rattle.pe_expansion.specs.declared.faults.PeFault.{PeFault}

-- the names that are open: those of the chain, and then those of the frames
abbrev pub open_names : List (List ℕ) → List Frame → List (List ℕ)
open_names chain frames = chain ++ map (λ f. f.name.now) frames

-- one piece, with these names open
abbrev pub step : Manner → Bound → List (List ℕ) → ℕ → Written → List ℕ → Result (Written × ℕ) PeFault
step manner bound names = expansion_step manner (expansion manner (32 - length names) bound) bound names

-- what is left of a text from the place on
abbrev pub from : Manner → Bound → List (List ℕ) → List ℕ → ℕ → Written → Result Written PeFault
from manner bound names text at w = over (step manner bound names) at w (drop at text)

-- what a frame still does, once the text of its name is expanded
abbrev pub goes_on : Manner → Bound → List (List ℕ) → Frame → Written → Result Written PeFault
goes_on manner bound names f w = closed manner f.name.now f.start w >>= from manner bound names f.text.now f.at

-- What the frames still do, the first being the outermost: each goes on when the later ones have ended.
abbrev pub resumed : Manner → Bound → List (List ℕ) → List Frame → Written → Result Written PeFault
resumed manner bound names [] w = Ok w
resumed manner bound names (f ∷ fs) w = resumed manner bound (names ++ f.name.now ∷ []) fs w >>= goes_on manner bound names f

-- all that is left to do
abbrev pub left : Manner → Bound → List (List ℕ) → List Frame → List ℕ → ℕ → Written → Result Written PeFault
left manner bound chain frames text at w = from manner bound (open_names chain frames) text at w >>= resumed manner bound chain frames

-- how much is left to read in the frames
abbrev pub waiting : List Frame → ℕ
waiting [] = 0
waiting (f ∷ fs) = (length f.text.now - f.at) + waiting fs

-- what a work still gives
unfoldable pub left_of : Manner → Bound → List (List ℕ) → Work → Result Written PeFault
left_of manner bound chain w = left manner bound chain w.frames.items w.text.now w.at (record { text = w.written; spent = w.spent })

-- an upper bound of the steps that are left: what may be included, what is left to read, and the frames
unfoldable pub size_of : Work → ℕ
size_of w = 2 * ((67108864 - w.spent) + ((length w.text.now - w.at) + waiting w.frames.items)) + length w.frames.items

-- a step of the work: what it gives stays, and it comes nearer to its end
abbrev pub Advances : Manner → Bound → List (List ℕ) → Work → Work → Type 0
Advances manner bound chain old new = (left_of manner bound chain new ≡ left_of manner bound chain old) × (size_of new < size_of old)

abbrev pub Stepped : {X : Type 0} → Manner → Bound → List (List ℕ) → Work → Work → Result X PeFault → Type 0
Stepped manner bound chain old new (Ok x) = Advances manner bound chain old new
Stepped manner bound chain old new (Err fault) = Fails fault (left_of manner bound chain old)

-- the end of an included text, after which what is written is as said
abbrev pub Closes : {X : Type 0} → Manner → List ℕ → ℕ → List ℕ → List ℕ → ℕ → Result X PeFault → Type 0
Closes manner name start old new spent (Ok x) = closed manner name start (record { text = old; spent = spent }) ≡ Ok (record { text = new; spent = spent })
Closes manner name start old new spent (Err fault) = Fails fault (closed manner name start (record { text = old; spent = spent }))

-- the end of a text: the last frame goes on, or all is done
abbrev pub GoesOn : Manner → Bound → List (List ℕ) → Work → Work → Result Bool PeFault → Type 0
GoesOn manner bound chain old new (Ok true) = Advances manner bound chain old new
GoesOn manner bound chain old new (Ok false) = left_of manner bound chain old ≡ Ok (record { text = new.written; spent = new.spent })
GoesOn manner bound chain old new (Err fault) = Fails fault (left_of manner bound chain old)
