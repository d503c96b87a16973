-- Expansions that stop where a text is not loaded, and go on there.
use Rattle.std.specs.Prelude.{◌≡◌, ℕ, ◌-◌, List, [], ◌∷◌, length, map, Bool, true, false, Option, Some, None, Result, Ok, Err}
use Rattle.pe_expansion.specs.Bound.{Bound, Keeps, loaded_at}
use Rattle.pe_expansion.specs.Expansion.{Written, expansion_of}
use Rattle.pe_expansion.specs.Outcomes.{Fails}
use Rattle.pe_expansion.specs.Frames.{Advances, left, left_of}
use Rattle.pe_expansion.specs.Nesting.{IsJudged}
use Rattle.pe_expansion.specs.declared.pieces.Manner.{Manner}
use Rattle.pe_expansion.specs.declared.stack.Frame.{Frame}
use Rattle.pe_expansion.specs.declared.stack.Work.{Work}
use Rattle.pe_expansion.specs.declared.pausing.Place.{Place}
use Rattle.pe_expansion.specs.declared.pausing.PausedExpansion.{PausedExpansion}
use Rattle.pe_expansion.specs.declared.pausing.Progress.{Progress}
use Rattle.pe_expansion.specs.declared.pausing.Progress.TheVariants.{Done, Waits}
use Rattle.pe_expansion.specs.declared.faults.PeFault.{PeFault}
use Rattle.pe_expansion.specs.declared.faults.PeFault.TheVariants.{NotLoaded}

-- ---- steps, by the bindings and by those that keep their texts

abbrev pub SteppedBy : {X : Type 0} → Manner → Bound → List (List ℕ) → Work → Work → Result X PeFault → Type 0
SteppedBy manner bound chain old new (Ok x) = (later : Bound) → Keeps bound later → Advances manner later chain old new
SteppedBy manner bound chain old new (Err fault) = Fails fault (left_of manner bound chain old)

-- a step, or the end of a text; false where all is done
abbrev pub Turns : Manner → Bound → List (List ℕ) → Work → Work → Result Bool PeFault → Type 0
Turns manner bound chain old new (Ok true) = (later : Bound) → Keeps bound later → Advances manner later chain old new
Turns manner bound chain old new (Ok false) = left_of manner bound chain old ≡ Ok (record { text = new.written; spent = new.spent })
Turns manner bound chain old new (Err fault) = Fails fault (left_of manner bound chain old)

-- where a text is not loaded the work stays as it was
abbrev pub Stays : {X : Type 0} → Work → Work → Result X PeFault → Type 0
Stays old new (Err (NotLoaded name)) = new ≡ old
Stays old new r = Unit {0}

-- no text is wanted
abbrev pub WantsNone : {X : Type 0} → Result X PeFault → Type 0
WantsNone (Err (NotLoaded name)) = ⊥
WantsNone r = Unit {0}

-- ---- texts that wait, by the numbers of the entities that are read in their places

-- the same texts wait, and the same text is read
abbrev pub SameTexts : Work → Work → Type 0
SameTexts old new = (new.frames.items ≡ old.frames.items) × (new.text.now ≡ old.text.now)

-- a text that waits, without the text
abbrev pub place_of : Frame → Place
place_of f = record { number = f.number; at = f.at; start = f.start; broken = f.broken }

-- the outermost text that waits, or else the text that is read, is this one, and each later one is that of the entity for which
-- the one before it waits
abbrev pub AreNumbered : Bound → List ℕ → List Frame → List ℕ → Type 0
AreNumbered bound outer [] text = text ≡ outer
AreNumbered bound outer (f ∷ fs) text = (f.text.now ≡ outer) × ((inner : List ℕ) × (loaded_at bound f.number ≡ Some (f.name.now, inner)) × AreNumbered bound inner fs text)

abbrev pub Numbers : Bound → Work → Work → Type 0
Numbers bound old new = (outer : List ℕ) → AreNumbered bound outer old.frames.items old.text.now → AreNumbered bound outer new.frames.items new.text.now

-- ---- an expansion under way

-- a work on this text: what is left gives what the text stands for, by these bindings and by all that keep their texts
pub record IsUnderWay (manner : Manner) (bound : Bound) (chain : List (List ℕ)) (outer : List ℕ) (first : ℕ) (w : Work) : Type 0 where
  pub numbered : AreNumbered bound outer w.frames.items w.text.now
  pub gives : (later : Bound) → Keeps bound later → left_of manner later chain w ≡ expansion_of manner later chain first outer

-- The expansion of this text, where these names are open, stopped: texts wait at its places, and what is left gives what the
-- text stands for, by these bindings and by all that keep their texts.
pub record IsPaused (bound : Bound) (chain : List (List ℕ)) (outer : List ℕ) (e : PausedExpansion) : Type 0 where
  pub frames : List Frame
  pub text : List ℕ
  pub places : map place_of frames ≡ e.places.items
  pub numbered : AreNumbered bound outer frames text
  pub judged : IsJudged e.manner e.broken (length text - e.at) e.written frames
  pub gives : (later : Bound) → Keeps bound later → left e.manner later chain frames text e.at (record { text = e.written; spent = e.spent }) ≡ expansion_of e.manner later chain e.first outer

-- what the text of an expansion stands for
abbrev pub said_of : Bound → List (List ℕ) → List ℕ → PausedExpansion → Result Written PeFault
said_of bound chain outer e = expansion_of e.manner bound chain e.first outer

-- Going on with an expansion: it is done with what the text stands for; or the text of a name is wanted that is not loaded, and
-- the same expansion stopped there; or this fault is the first that stops it.
abbrev pub Resumes : Bound → List (List ℕ) → List ℕ → PausedExpansion → Result Progress PeFault → Type 0
Resumes bound chain outer e (Ok (Done text spent)) = said_of bound chain outer e ≡ Ok (record { text = text; spent = spent })
Resumes bound chain outer e (Ok (Waits name rest)) = (said_of bound chain outer e ≡ Err (NotLoaded name)) × IsPaused bound chain outer rest × (rest.manner ≡ e.manner) × (rest.first ≡ e.first)
Resumes bound chain outer e (Err fault) = Fails fault (said_of bound chain outer e)
