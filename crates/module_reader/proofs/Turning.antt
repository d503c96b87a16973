-- Turns of a work, from its beginning to its end.
use Rattle.std.proofs.Common.{◌≡◌, ◌∙◌, ℕ, ◌+◌, ◌<◌, List, [], ◌∷◌, true, false, cond, Ok, Err, Some, None, Bool, IsSome, refl, sym, ap, subst, arith, slice_get, Vec, Global}
use Rattle.std.specs.Prelude.{Option, Result, IfSome}
use Rattle.std.specs.Bool.{OnTrue, OnFalse}
use Rattle.std.specs.List.{AllByRecursion}
use Rattle.dtd_scanner.proofs.Walking.{bind_ok}
use Rattle.jats_fault.specs.declared.fault.Fault.{Fault}
use Rattle.module_reader.specs.Frames.{Ends, IsSound, IsThere, Nears, Turns, found, from, left, left_of, passage_of, passages_of, size_of, text_found}
use Rattle.module_reader.specs.Moves.{AreChars}
use Rattle.module_reader.specs.Endings.{Reads}
use Rattle.module_reader.specs.Reading.{Names}
use Rattle.module_reader.specs.Sources.{Source}
use Rattle.module_reader.specs.declared.refusals.Stop.{Stop}
use Rattle.module_reader.specs.declared.refusals.Stop.TheVariants as fault
use Rattle.module_reader.specs.declared.frames.Frame.{Frame}
use Rattle.module_reader.specs.declared.frames.Work.{Work}
use Rattle.module_reader.specs.declared.standing.Standing.{Standing}
use Rattle.module_reader.specs.declared.state.State.{State}
use Rattle.module_reader.proofs.Moved.{passage_by}

-- a turn keeps what the work gave when it began, until it has given it
pub turn_keeps : (source : Source) (old new : Work) (said : Result State Fault) (more : Bool) → Turns source old new (Ok more) → left_of source old ≡ said
    → OnTrue more (left_of source new ≡ said) × OnFalse more (said ≡ Ok new.state)
turn_keeps source old new said true turns is = (turns ∙ is, tt)
turn_keeps source old new said false turns is = (tt, sym is ∙ turns)

pub turn_refuses : (source : Source) (old new start : Work) (f : Stop) → Turns source old new (Err f) → left_of source old ≡ left_of source start → Ends {X = Unit {0}} source start new (Err f)
turn_refuses source old new start (fault.Refused refusal) turns is = sym is ∙ turns
turn_refuses source old new start fault.LoadFailed turns is = tt
turn_refuses source old new start fault.NoMemory turns is = tt

pub turn_sound : (old new : Work) (more : Bool) → Nears old new (Ok more) → OnTrue more (IsSound new)
turn_sound old new true nears = nears.0
turn_sound old new false nears = tt

pub turn_smaller : (old new : Work) (more : Bool) → Nears old new (Ok more) → cond more (size_of new + 1) 0 < size_of old + 1
turn_smaller old new true nears = omega (arith, nears.1)
turn_smaller old new false nears = omega arith

-- the work at its beginning
pub begins : (source : Source) (s : State) (f : Frame) (ws : Vec Frame Global) (names : Names) → f.text ≡ None → f.at ≡ 0 → f.sections.items ≡ [] → ws.items ≡ [] → names ≡ []
    → left_of source (record { state = s; frame = f; waiting = ws; names = names }) ≡ from source (record { text = text_found (slice_get s.modules 0); names = []; standing = f.standing; at = 0; sections = [] }) s
unfolding left_of
begins source s f ws names text at sections none unnamed =
    let p = passage_of s names f in
    ap (λ (fs : List Frame). left source (passages_of s names fs) p s) none ∙ bind_ok (from source p s)
    ∙ ap (λ q. from source q s) (passage_by s names f (text_found (slice_get s.modules 0)) [] f.standing 0 [] (ap (λ (o : Option ℕ). text_found (found s o)) text) unnamed refl at sections)

pub ends_reads : (source : Source) (old new : Work) (said : Result State Fault) (f : Stop) → left_of source old ≡ said → Ends {X = Unit {0}} source old new (Err f) → Reads {T = State} said (Err f)
ends_reads source old new said (fault.Refused refusal) is ends = sym is ∙ ends
ends_reads source old new said fault.LoadFailed is ends = tt
ends_reads source old new said fault.NoMemory is ends = tt

pub begins_sound : (s : State) (f : Frame) (ws : Vec Frame Global) (names : Names) → IsSome (found s f.text) → AreChars s → ws.items ≡ [] → names ≡ [] → IsSound (record { state = s; frame = f; waiting = ws; names = names })
unfolding IsSound
begins_sound s f ws names there chars none unnamed = (there, subst (λ (fs : List Frame). AllByRecursion (IsThere s) fs) (sym none) tt, chars, rw (none, unnamed) refl)
