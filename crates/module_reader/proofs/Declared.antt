-- What stops a declaration, in the words of the reading.
use Rattle.std.proofs.Common.{arith, ◌≡◌, ℕ, List, Result, Ok, Err, refl, sym, ap, ◌∙◌}
use Rattle.jats_fault.specs.declared.fault.Fault.{Fault}
use Rattle.decl_set.specs.Declarations.{Declarations}
use Rattle.decl_set.specs.Outcomes.{Fails}
use Rattle.decl_set.specs.declared.faults.DeclFault.{DeclFault}
use Rattle.decl_set.specs.declared.faults.DeclFault.TheVariants as decl
use Rattle.module_reader.specs.Endings.{Refuses}
use Rattle.module_reader.specs.Moves.{Moves}
use Rattle.module_reader.specs.Reading.{declares, counting}
use Rattle.module_reader.specs.Stops.{decl_stop}
use Rattle.module_reader.specs.declared.refusals.Stop.{Stop}
use Rattle.module_reader.specs.declared.refusals.Stop.TheVariants as fault
use Rattle.module_reader.specs.declared.standing.Standing.{Standing}
use Rattle.module_reader.specs.declared.state.State.{State}

-- a fault other than want of memory is what is said
said_is : {Y : Type 0} (f : DeclFault) (said : Result Y DeclFault) → (f ≡ decl.NoMemory → ⊥) → Fails f said → said ≡ Err f
said_is decl.Malformed said o h = h
said_is (decl.EntityTooDeep a) said o h = h
said_is (decl.ExpansionOver a) said o h = h
said_is (decl.EntityUndeclared a) said o h = h
said_is (decl.LessThanInValue a) said o h = h
said_is (decl.RecursiveEntity a) said o h = h
said_is (decl.DuplicateNotation a) said o h = h
said_is (decl.DuplicateElement a) said o h = h
said_is (decl.Ambiguous a b c) said o h = h
said_is (decl.IdPreset a b) said o h = h
said_is (decl.SecondId a b) said o h = h
said_is (decl.SecondNotation a b) said o h = h
said_is (decl.NotationOnEmpty a b) said o h = h
said_is (decl.NotationUndeclared a b) said o h = h
said_is (decl.DuplicateToken a b c) said o h = h
said_is (decl.PresetNotInClass a b) said o h = h
said_is (decl.ElementsOver a) said o h = h
said_is (decl.FollowsOver a) said o h = h
said_is decl.NoMemory said o h = absurd (o refl)

pub declares_stop : (T : Type 0) (c : Standing) (at : ℕ) (s new : State) (said : Result Declarations DeclFault) (f : DeclFault) (stop : Stop)
    → (f ≡ decl.NoMemory → ⊥) → Fails f said → Refuses (decl_stop c at f) stop → Moves {T = T} (declares c at s said) new (Err stop)
declares_stop T c at s new said f (fault.Refused refusal) o h r = ap (declares c at s) (said_is f said o h) ∙ ap Err (sym r)
declares_stop T c at s new said f fault.LoadFailed o h r = tt
declares_stop T c at s new said f fault.NoMemory o h r = tt

pub counting_stop : (T : Type 0) (c : Standing) (at : ℕ) (s new : State) (said : Result (Declarations × ℕ) DeclFault) (f : DeclFault) (stop : Stop)
    → (f ≡ decl.NoMemory → ⊥) → Fails f said → Refuses (decl_stop c at f) stop → Moves {T = T} (counting c at s said) new (Err stop)
counting_stop T c at s new said f (fault.Refused refusal) o h r = ap (counting c at s) (said_is f said o h) ∙ ap Err (sym r)
counting_stop T c at s new said f fault.LoadFailed o h r = tt
counting_stop T c at s new said f fault.NoMemory o h r = tt

-- no declaration is refused for an absent file
pub decl_present : (c : Standing) (at : ℕ) (f : DeclFault) → (decl_stop c at f).number ≡ 10 → ⊥
decl_present c at decl.Malformed e = omega arith
decl_present c at (decl.EntityTooDeep a) e = omega arith
decl_present c at (decl.ExpansionOver a) e = omega arith
decl_present c at (decl.EntityUndeclared a) e = omega arith
decl_present c at (decl.LessThanInValue a) e = omega arith
decl_present c at (decl.RecursiveEntity a) e = omega arith
decl_present c at (decl.DuplicateNotation a) e = omega arith
decl_present c at (decl.DuplicateElement a) e = omega arith
decl_present c at (decl.Ambiguous a b d) e = omega arith
decl_present c at (decl.IdPreset a b) e = omega arith
decl_present c at (decl.SecondId a b) e = omega arith
decl_present c at (decl.SecondNotation a b) e = omega arith
decl_present c at (decl.NotationOnEmpty a b) e = omega arith
decl_present c at (decl.NotationUndeclared a b) e = omega arith
decl_present c at (decl.DuplicateToken a b d) e = omega arith
decl_present c at (decl.PresetNotInClass a b) e = omega arith
decl_present c at (decl.ElementsOver a) e = omega arith
decl_present c at (decl.FollowsOver a) e = omega arith
decl_present c at decl.NoMemory e = omega arith
