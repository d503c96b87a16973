-- Questions to the bindings, and what is loaded for them.
use Rattle.std.proofs.Common.{◌≡◌, ◌∙◌, ℕ, zero, suc, ◌-◌, ◌≤◌, ◌<◌, List, [], length, Option, Some, None, Result, Ok, Err, IfSome, IfOk, refl, sym, ap, subst, arith}
use Rattle.std.specs.Prelude.{◌≢◌}
use Rattle.dtd_scanner.specs.Walk.{◌>>=◌}
use Rattle.entity_catalog.specs.Named.{Named}
use Rattle.jats_fault.specs.declared.fault.Fault.{Fault}
use Rattle.pe_expansion.specs.Bound.{Bound}
use Rattle.pe_expansion.specs.Expansion.{Written, expansion_of}
use Rattle.pe_expansion.specs.Opening.{opening}
use Rattle.pe_expansion.specs.Outcomes.{Fails}
use Rattle.pe_expansion.specs.Pausing.{IsPaused, Resumes}
use Rattle.pe_expansion.proofs.Numbering.{paused_keeps}
use Rattle.pe_expansion.proofs.Works.{fails_as}
use Rattle.pe_expansion.specs.declared.faults.PeFault.{PeFault}
use Rattle.pe_expansion.specs.declared.faults.PeFault.TheVariants as pe
use Rattle.pe_expansion.specs.declared.openings.Opened.{Opened}
use Rattle.pe_expansion.specs.declared.pieces.Manner.{Manner}
use Rattle.pe_expansion.specs.declared.pausing.PausedExpansion.{PausedExpansion}
use Rattle.pe_expansion.specs.declared.pausing.Progress.TheVariants.{Done, Waits}
use Rattle.pe_expansion.proofs.Spending.{WantedBy, Wants, expansion_wants, opening_wants, spent_rises}
use Rattle.module_reader.specs.Asking.{OpensIn, IsOn, IsOpened, IsWanted, IsWritten, OpensOnce, Turns, WritesOnce, stopped, written}
use Rattle.module_reader.specs.Moves.{Gives, LoadsOnly, Moves, counted}
use Rattle.module_reader.specs.Sources.{Files, Source, asking, asking_most, heard}
use Rattle.module_reader.specs.Stops.{refused}
use Rattle.module_reader.specs.declared.refusals.Stop.{Stop}
use Rattle.module_reader.specs.declared.refusals.Stop.TheVariants as fault
use Rattle.module_reader.specs.declared.standing.Standing.{Standing}
use Rattle.module_reader.specs.declared.state.State.{State}

-- ---- a question by itself

wanted_by : (bound : Bound) (f : PeFault) → WantedBy bound f → IsWanted bound f
wanted_by bound (pe.NotLoaded name) wanted = wanted
wanted_by bound f wanted = tt

wanted_of : {X : Type 0} (bound : Bound) (said : Result X PeFault) (f : PeFault) → said ≡ Err f → Wants bound said → IsWanted bound f
wanted_of bound said f is wants = wanted_by bound f (let P : Result _ PeFault → Type 0 = Wants bound in subst P is wants)

pub fails_wanted : {X : Type 0} (bound : Bound) (said : Result X PeFault) (f : PeFault) → Fails f said → Wants bound said → IsWanted bound f
fails_wanted bound said pe.NoMemory fails wants = tt
fails_wanted bound said f fails wants = wanted_of bound said f fails wants

-- an expansion that goes on: an answer
pub done_once : (manner : Manner) (names : List (List ℕ)) (old : State) (text : List ℕ) (e : PausedExpansion) (answer : List ℕ) (spent : ℕ) → IsOn manner names text old e → Resumes old.bound names text e (Ok (Done answer spent))
    → WritesOnce (written manner old.bound names old.spent text) old (record old { spent = spent }) (Ok answer)
done_once manner names old text e answer spent on done =
    let said : expansion_of e.manner old.bound names e.first text ≡ Ok (record { text = answer; spent = spent }) = done in
    let is : expansion_of manner old.bound names old.spent text ≡ Ok (record { text = answer; spent = spent }) = rw (on.how, on.first) at said in
    (is, refl, spent_rises manner old.bound names old.spent text answer spent is)

-- a fault
pub stops_once : (manner : Manner) (names : List (List ℕ)) (old : State) (text : List ℕ) (e : PausedExpansion) (f : PeFault) → IsOn manner names text old e → Fails f (expansion_of e.manner old.bound names e.first text)
    → WritesOnce (written manner old.bound names old.spent text) old old (Err f)
stops_once manner names old text e f on fails =
    let is : Fails f (expansion_of manner old.bound names old.spent text) = fails_as f (expansion_of e.manner old.bound names e.first text) (expansion_of manner old.bound names old.spent text) (λ said. rw (on.how, on.first) at said) fails in
    (is, refl, fails_wanted old.bound _ f is (expansion_wants manner old.bound names old.spent text))

-- a text that is wanted
pub waits_once : (manner : Manner) (names : List (List ℕ)) (old : State) (text : List ℕ) (e rest : PausedExpansion) (name : List ℕ) → IsOn manner names text old e → Resumes old.bound names text e (Ok (Waits name rest))
    → WritesOnce (written manner old.bound names old.spent text) old old (Err (pe.NotLoaded name)) × IsOn manner names text old rest
waits_once manner names old text e rest name on waits =
    (stops_once manner names old text e (pe.NotLoaded name) on waits.0, record { paused = waits.1; how = waits.2 ∙ on.how; first = waits.3 ∙ on.first })

-- an expansion that begins
pub on_fresh : (manner : Manner) (names : List (List ℕ)) (s : State) (text : List ℕ) (e : PausedExpansion) → ((bound : Bound) (chain : List (List ℕ)) (outer : List ℕ) → IsPaused bound chain outer e) → (e.manner ≡ manner) × (e.first ≡ s.spent) → IsOn manner names text s e
on_fresh manner names s text e paused of = record { paused = paused s.bound names text; how = of.0; first = of.1 }

-- a text was loaded
pub on_loads : (manner : Manner) (names : List (List ℕ)) (old new : State) (text : List ℕ) (e : PausedExpansion) → LoadsOnly old new → IsOn manner names text old e → IsOn manner names text new e
on_loads manner names old new text e loads on = record { paused = paused_keeps old.bound new.bound names text e loads.keeps on.paused; how = on.how; first = on.first ∙ sym loads.spent }

pub opens_not : (names : List (List ℕ)) (s : State) (name : List ℕ) (f : PeFault) → Fails f (opening s.bound names s.spent name) → Fails f (opening s.bound names s.spent name) × (s ≡ s) × IsWanted s.bound f
opens_not names s name f fails = (fails, refl, fails_wanted s.bound _ f fails (opening_wants s.bound names s.spent name))

-- ---- a turn

-- the reading stops
turn-stops : {X : Type 0} (Y : Type 0) (source : Source) (c : Standing) (at : ℕ) (said : Result X PeFault) (old new : State) (f : PeFault) (stop : Stop) → Fails f said → (f ≡ pe.NoMemory → stop ≡ fault.NoMemory)
    → Moves {T = Unit {0}} (stopped source c at old f) new (Err stop) → Turns {Y = Y} source c at said old new (Err stop)
turn-stops Y source c at said old new f fault.LoadFailed fails memory moves = tt
turn-stops Y source c at said old new f fault.NoMemory fails memory moves = tt
turn-stops Y source c at said old new pe.NoMemory (fault.Refused refusal) fails memory moves = (let no : fault.Refused refusal ≡ fault.NoMemory = memory refl in cc)
turn-stops Y source c at said old new f (fault.Refused refusal) fails memory moves = (f, fails, moves)

pub same_stop : (s : Stop) → (let r : Result (Unit {0}) Stop = Err s in r ≡ Err fault.NoMemory) → s ≡ fault.NoMemory
same_stop s e = cc

pub turn_stops : {X : Type 0} (Y : Type 0) (holds : Option Files) (catalog : Named) (c : Standing) (at : ℕ) (said : Result X PeFault) (old s new : State) (f : PeFault) (stop : Stop) → Fails f said → s ≡ old
    → (f ≡ pe.NoMemory → stop ≡ fault.NoMemory) → IfSome holds (λ files. Moves {T = Unit {0}} (stopped (record { files = files; catalog = catalog }) c at s f) new (Err stop))
    → IfSome holds (λ files. Turns {Y = Y} (record { files = files; catalog = catalog }) c at said old new (Err stop))
turn_stops Y None catalog c at said old s new f stop fails same memory moves = tt
turn_stops Y (Some files) catalog c at said old s new f stop fails same memory moves =
    let source : Source = record { files = files; catalog = catalog } in
    let P : State → Type 0 = λ (t : State). Moves {T = Unit {0}} (stopped source c at t f) new (Err stop) in
    turn-stops Y source c at said old new f stop fails memory (subst P same moves)

-- ---- what is left to ask

module _ {X : Type 0} (source : Source) (c : Standing) (at : ℕ) (ask : State → Result X PeFault) where
  heard_stopped : (again : State → Result (State × X) Fault) (s : State) (f : PeFault) → heard source c at again s (Err f) ≡ (stopped source c at s f >>= again)
  heard_stopped again s (pe.NotLoaded name) = refl
  heard_stopped again s f = refl

  -- an answer ends it
  most_answers : (n : ℕ) (s : State) (x : X) → ask s ≡ Ok x → asking_most source c at n ask s ≡ Ok (s, x)
  most_answers zero s x is = rw is refl
  most_answers (suc n) s x is = rw is refl

  -- so does what stops the reading
  most_stops : (n : ℕ) (s : State) (f : PeFault) (refusal : Fault) → ask s ≡ Err f → stopped source c at s f ≡ Err refusal → asking_most source c at n ask s ≡ Err refusal
  most_stops zero s f refusal is stops = rw (is, heard_stopped, stops) refl
  most_stops (suc n) s f refusal is stops = rw (is, heard_stopped, stops) refl

  -- a text was loaded, and it is asked again, unless it was asked often enough
  most_ends : (s t : State) (f : PeFault) → ask s ≡ Err f → stopped source c at s f ≡ Ok t → asking_most source c at 0 ask s ≡ Err (refused c at 20 [])
  most_ends s t f is loads = rw (is, heard_stopped, loads) refl

  most_again : (n : ℕ) (s t : State) (f : PeFault) → 1 ≤ n → ask s ≡ Err f → stopped source c at s f ≡ Ok t → asking_most source c at n ask s ≡ asking_most source c at (n - 1) ask t
  most_again zero s t f some is loads = absurd (omega arith)
  most_again (suc n) s t f some is loads = let less : suc n - 1 ≡ n = omega arith in rw (less, is, heard_stopped, loads) refl

  pub begins : (s : State) → asking source c at ask s ≡ asking_most source c at (length s.bound) ask s
  unfolding asking
  begins s = refl

-- what is left to ask gives what was asked for, where the store tells
abbrev pub LeftIn : {X : Type 0} → Option Files → Named → Standing → ℕ → (State → Result X PeFault) → ℕ → State → State → Type 0
LeftIn holds catalog c at ask left first now = IfSome holds (λ files. asking_most (record { files = files; catalog = catalog }) c at left ask now ≡ asking (record { files = files; catalog = catalog }) c at ask first)

-- a turn, by a store that tells
abbrev pub TurnsIn : {X Y : Type 0} → Option Files → Named → Standing → ℕ → Result X PeFault → State → State → Result (Option Y) Stop → Type 0
TurnsIn holds catalog c at said old new r = IfSome holds (λ files. Turns (record { files = files; catalog = catalog }) c at said old new r)

-- a refusal that is said
abbrev pub Stopped : {X : Type 0} → Result X Fault → Stop → Type 0
Stopped said (fault.Refused refusal) = said ≡ Err refusal
Stopped said fault.LoadFailed = Unit {0}
Stopped said fault.NoMemory = Unit {0}

module _ {X : Type 0} (holds : Option Files) (catalog : Named) (c : Standing) (at : ℕ) (ask : State → Result X PeFault) where
  pub left_begins : (s : State) → LeftIn holds catalog c at ask (length s.bound) s s
  left_begins s = by holds
    where
      by : (holds : Option Files) → LeftIn holds catalog c at ask (length s.bound) s s
      by None = tt
      by (Some files) = sym (begins (record { files = files; catalog = catalog }) c at ask s)

module _ {X : Type 0} (Y : Type 0) (catalog : Named) (c : Standing) (at : ℕ) (ask : State → Result X PeFault) (first s t : State) (left : ℕ) where
  -- a text was loaded
  pub left_again : (holds now : Option Files) → now ≡ holds → LeftIn holds catalog c at ask left first s → TurnsIn {Y = Y} now catalog c at (ask s) s t (Ok None) → 1 ≤ left → LeftIn holds catalog c at ask (left - 1) first t
  left_again None now same is turns some = tt
  left_again (Some files) None same is turns some = cc
  left_again (Some files) (Some others) same is turns some =
      let files_same : others ≡ files = cc in
      let turn = rw files_same at turns in
      sym (most_again (record { files = files; catalog = catalog }) c at ask left s t turn.0 some turn.1 turn.2) ∙ is

  -- it was asked often enough
  pub left_ends : (holds now : Option Files) → now ≡ holds → LeftIn holds catalog c at ask left first s → TurnsIn {Y = Y} now catalog c at (ask s) s t (Ok None) → left ≡ 0
      → IfSome holds (λ files. asking (record { files = files; catalog = catalog }) c at ask first ≡ Err (refused c at 20 []))
  left_ends None now same is turns none = tt
  left_ends (Some files) None same is turns none = cc
  left_ends (Some files) (Some others) same is turns none =
      let files_same : others ≡ files = cc in
      let turn = rw files_same at turns in
      sym (rw none at is) ∙ most_ends (record { files = files; catalog = catalog }) c at ask s t turn.0 turn.1 turn.2

  -- the reading stops
  pub left_stops : (holds now : Option Files) (f : Stop) → now ≡ holds → LeftIn holds catalog c at ask left first s → TurnsIn {Y = Y} now catalog c at (ask s) s t (Err f)
      → IfSome holds (λ files. Stopped (asking (record { files = files; catalog = catalog }) c at ask first) f)
  left_stops None now f same is turns = tt
  left_stops (Some files) None f same is turns = cc
  left_stops (Some files) (Some others) (fault.Refused refusal) same is turns =
      let files_same : others ≡ files = cc in
      let turn = rw files_same at turns in
      sym is ∙ most_stops (record { files = files; catalog = catalog }) c at ask left s turn.0 refusal turn.1 turn.2
  left_stops (Some files) (Some others) fault.LoadFailed same is turns = tt
  left_stops (Some files) (Some others) fault.NoMemory same is turns = tt

-- an answer
pub left_answers : {X : Type 0} (catalog : Named) (c : Standing) (at : ℕ) (ask : State → Result X PeFault) (first s : State) (left : ℕ) (holds : Option Files) (x : X) → LeftIn holds catalog c at ask left first s → ask s ≡ Ok x
    → IfSome holds (λ files. asking (record { files = files; catalog = catalog }) c at ask first ≡ Ok (s, x))
left_answers catalog c at ask first s left None x is answers = tt
left_answers catalog c at ask first s left (Some files) x is answers = sym is ∙ most_answers (record { files = files; catalog = catalog }) c at ask left s x answers

-- ---- what the calls answer

module _ (catalog : Named) (c : Standing) (at : ℕ) (ask : State → Result Written PeFault) (first s new : State) where
  pub gives_stopped : (holds : Option Files) (f : Stop) → IfSome holds (λ files. Stopped (asking (record { files = files; catalog = catalog }) c at ask first) f)
      → IfSome holds (λ files. Gives (counted (asking (record { files = files; catalog = catalog }) c at ask first)) new (Err f))
  gives_stopped None f stops = tt
  gives_stopped (Some files) (fault.Refused refusal) stops = rw stops refl
  gives_stopped (Some files) fault.LoadFailed stops = tt
  gives_stopped (Some files) fault.NoMemory stops = tt

  pub gives_written : (holds : Option Files) (text : List ℕ) (left : ℕ) → LeftIn holds catalog c at ask left first s → IsWritten (ask s) s new text
      → IfSome holds (λ files. Gives (counted (asking (record { files = files; catalog = catalog }) c at ask first)) new (Ok text))
  gives_written holds text left is answer = by holds (left_answers catalog c at ask first s left holds (record { text = text; spent = new.spent }) is answer.0)
    where
      by : (holds : Option Files) → IfSome holds (λ files. asking (record { files = files; catalog = catalog }) c at ask first ≡ Ok (s, record { text = text; spent = new.spent }))
          → IfSome holds (λ files. Gives (counted (asking (record { files = files; catalog = catalog }) c at ask first)) new (Ok text))
      by None said = tt
      by (Some files) said = rw said (ap (λ (t : State). Ok (t, text)) (sym answer.1))

module _ (catalog : Named) (c : Standing) (at : ℕ) (ask : State → Result (List ℕ × ℕ) PeFault) (first s new : State) (name : List ℕ) where
  pub opens_stopped : (holds : Option Files) (f : Stop) → IfSome holds (λ files. Stopped (asking (record { files = files; catalog = catalog }) c at ask first) f)
      → IfSome holds (λ files. OpensIn (asking (record { files = files; catalog = catalog }) c at ask first) new name (Err f))
  opens_stopped None f stops = tt
  opens_stopped (Some files) (fault.Refused refusal) stops = stops
  opens_stopped (Some files) fault.LoadFailed stops = tt
  opens_stopped (Some files) fault.NoMemory stops = tt

  pub opens_answer : (holds : Option Files) (opened : Opened) (left : ℕ) → LeftIn holds catalog c at ask left first s → IsOpened (ask s) s new name opened
      → IfSome holds (λ files. OpensIn (asking (record { files = files; catalog = catalog }) c at ask first) new name (Ok opened))
  opens_answer holds opened left is answer = by holds (left_answers catalog c at ask first s left holds (answer.0, opened.spent) is answer.1)
    where
      by : (holds : Option Files) → IfSome holds (λ files. asking (record { files = files; catalog = catalog }) c at ask first ≡ Ok (s, (answer.0, opened.spent)))
          → IfSome holds (λ files. OpensIn (asking (record { files = files; catalog = catalog }) c at ask first) new name (Ok opened))
      by None said = tt
      by (Some files) said = (s, answer.0, said, answer.2, rw answer.2 answer.3)
