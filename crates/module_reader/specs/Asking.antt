-- What the questions to the bindings answer.
use Rattle.std.specs.Prelude.{◌≡◌, ◌≤◌, ℕ, List, [], Option, Some, None, option_and_then, Result, Ok, Err}
use Rattle.jats_fault.specs.declared.fault.Fault.{Fault}
use Rattle.pe_expansion.specs.Bound.{Bound, text_bound, text_in}
use Rattle.pe_expansion.specs.Expansion.{Written, expansion_of}
use Rattle.pe_expansion.specs.Outcomes.{Fails}
use Rattle.pe_expansion.specs.declared.faults.PeFault.{PeFault}
use Rattle.pe_expansion.specs.declared.faults.PeFault.TheVariants.{NotLoaded}
use Rattle.pe_expansion.specs.Pausing.{IsPaused}
use Rattle.pe_expansion.specs.declared.openings.Opened.{Opened}
use Rattle.pe_expansion.specs.declared.pausing.PausedExpansion.{PausedExpansion}
use Rattle.pe_expansion.specs.declared.pieces.Manner.{Manner}
use Rattle.module_reader.specs.declared.refusals.Stop.{Stop}
use Rattle.module_reader.specs.declared.refusals.Stop.TheVariants as fault
use Rattle.module_reader.specs.declared.standing.Standing.{Standing}
use Rattle.module_reader.specs.declared.state.State.{State}
use Rattle.module_reader.specs.Moves.{loaded_at}
use Rattle.module_reader.specs.Sources.{Source, loaded}
use Rattle.module_reader.specs.Stops.{pe_stop}

-- what a text stands for, as a body or an entity value, where these names are open and so many characters were included before
abbrev pub written : Manner → Bound → List (List ℕ) → ℕ → List ℕ → Result Written PeFault
written manner bound names spent text = expansion_of manner bound names spent text

-- the expansion of this text stopped, or is to begin, in this state
pub record IsOn (manner : Manner) (names : List (List ℕ)) (text : List ℕ) (s : State) (e : PausedExpansion) : Type 0 where
  pub paused : IsPaused s.bound names text e
  pub how : e.manner ≡ manner
  pub first : e.first ≡ s.spent

-- a text is wanted only where there is none
abbrev pub IsWanted : Bound → PeFault → Type 0
IsWanted bound (NotLoaded name) = option_and_then text_in (text_bound bound name) ≡ None
IsWanted bound fault = Unit {0}

-- what a fault of the bindings does to a reading: the text that is wanted is loaded, or the reading stops
abbrev pub stopped : Source → Standing → ℕ → State → PeFault → Result State Fault
stopped source c at s (NotLoaded name) = loaded source c at s name
stopped source c at s fault = Err (pe_stop c at fault)

-- an answer, after which the count of included characters is the state's, and has not fallen
abbrev pub IsWritten : Result Written PeFault → State → State → List ℕ → Type 0
IsWritten said old new text = (said ≡ Ok (record { text = text; spent = new.spent })) × (new ≡ record old { spent = new.spent }) × (old.spent ≤ new.spent)

abbrev pub IsOpened : Result (List ℕ × ℕ) PeFault → State → State → List ℕ → Opened → Type 0
IsOpened said old new name opened =
    (text : List ℕ) × (said ≡ Ok (text, opened.spent)) × (new ≡ record old { spent = opened.spent }) × (loaded_at old.bound opened.number ≡ Some (name, text)) × (old.spent ≤ opened.spent)

-- a question by itself: an answer, or a fault, with which nothing changes
abbrev pub WritesOnce : Result Written PeFault → State → State → Result (List ℕ) PeFault → Type 0
WritesOnce said old new (Ok text) = IsWritten said old new text
WritesOnce said old new (Err fault) = Fails fault said × (new ≡ old) × IsWanted old.bound fault

abbrev pub OpensOnce : Result (List ℕ × ℕ) PeFault → State → State → List ℕ → Result Opened PeFault → Type 0
OpensOnce said old new name (Ok opened) = IsOpened said old new name opened
OpensOnce said old new name (Err fault) = Fails fault said × (new ≡ old) × IsWanted old.bound fault

-- a question without an answer: the text that is wanted is loaded, or the reading stops
abbrev pub Turns : {X Y : Type 0} → Source → Standing → ℕ → Result X PeFault → State → State → Result (Option Y) Stop → Type 0
Turns source c at said old new (Ok (Some answer)) = Unit {0}
Turns source c at said old new (Ok None) = (f : PeFault) × (said ≡ Err f) × (stopped source c at old f ≡ Ok new)
Turns source c at said old new (Err (fault.Refused refusal)) = (f : PeFault) × (said ≡ Err f) × (stopped source c at old f ≡ Err refusal)
Turns source c at said old new (Err fault.LoadFailed) = Unit {0}
Turns source c at said old new (Err fault.NoMemory) = Unit {0}

-- the entity at the number has this name and a text
abbrev pub HasText : Bound → ℕ → List ℕ → Type 0
HasText bound number name = (text : List ℕ) × (loaded_at bound number ≡ Some (name, text))

-- the state, the text and the count that are said, the text being that of the entity with this name at the number, and the
-- count the state's; or the refusal that is said
abbrev pub OpensIn : Result (State × (List ℕ × ℕ)) Fault → State → List ℕ → Result Opened Stop → Type 0
OpensIn said new name (Ok opened) =
    (s : State) × (text : List ℕ) × (said ≡ Ok (s, (text, opened.spent))) × (new ≡ record s { spent = opened.spent }) × (loaded_at new.bound opened.number ≡ Some (name, text))
OpensIn said new name (Err (fault.Refused refusal)) = said ≡ Err refusal
OpensIn said new name (Err fault.LoadFailed) = Unit {0}
OpensIn said new name (Err fault.NoMemory) = Unit {0}
