-- What an entity that is new does to a reading, and where the last tests stop it.
use Rattle.std.proofs.Common.{◌≡◌, ◌∙◌, ℕ, List, true, false, is_some, Option, Some, None, Result, Ok, Err, IfSome, refl, sym, ap}
use Rattle.entity_catalog.specs.Named.{Named}
use Rattle.pe_expansion.specs.Bound.{text_bound}
use Rattle.decl_set.specs.Declarations.{Declarations, entity_in}
use Rattle.decl_set.specs.Outcomes.{Finishes}
use Rattle.decl_set.specs.declared.faults.DeclFault.{DeclFault}
use Rattle.decl_set.specs.declared.faults.DeclFault.TheVariants as decl
use Rattle.declaration_bodies.specs.declared.entities.RawEntity.{RawEntity}
use Rattle.module_reader.specs.Endings.{LoadFailed, IsAbsence, Reads, Refuses}
use Rattle.module_reader.specs.Moves.{Moves}
use Rattle.module_reader.specs.Reading.{Names, bound_by, declared_by, entity_new}
use Rattle.module_reader.specs.Sets.{finished_by}
use Rattle.module_reader.specs.Sources.{Files, Source}
use Rattle.module_reader.specs.Stops.{decl_stop, module_text}
use Rattle.module_reader.specs.declared.refusals.Stop.{Stop}
use Rattle.module_reader.specs.declared.refusals.Stop.TheVariants as fault
use Rattle.module_reader.specs.declared.standing.Standing.{Standing}
use Rattle.module_reader.specs.declared.state.State.{State}
use Rattle.module_reader.proofs.Declared.{decl_present}
use Rattle.module_reader.proofs.Refusing.{reads_refused}

module _ (holds : Option Files) (catalog : Named) (names : Names) (c : Standing) (at : ℕ) (s new : State) (e : RawEntity) (r : Result (Unit {0}) Stop) where
  pub new_bound : e.parameter ≡ true → is_some (text_bound s.bound e.name) ≡ false
      → IfSome holds (λ files. Moves (bound_by (record { files = files; catalog = catalog }) names c at s e.name e.def) new r)
      → IfSome holds (λ files. Moves (entity_new (record { files = files; catalog = catalog }) names c at s e e.parameter) new r)
  new_bound is absent moves = by holds moves
    where
      by : (holds : Option Files) → IfSome holds (λ files. Moves (bound_by (record { files = files; catalog = catalog }) names c at s e.name e.def) new r)
          → IfSome holds (λ files. Moves (entity_new (record { files = files; catalog = catalog }) names c at s e e.parameter) new r)
      by None moves = tt
      by (Some files) moves = rw (is, absent) moves

  pub new_declared : e.parameter ≡ false → is_some (entity_in s.set e.name) ≡ false
      → IfSome holds (λ files. Moves (declared_by (record { files = files; catalog = catalog }) names c at s e.name e.def) new r)
      → IfSome holds (λ files. Moves (entity_new (record { files = files; catalog = catalog }) names c at s e e.parameter) new r)
  new_declared is absent moves = by holds moves
    where
      by : (holds : Option Files) → IfSome holds (λ files. Moves (declared_by (record { files = files; catalog = catalog }) names c at s e.name e.def) new r)
          → IfSome holds (λ files. Moves (entity_new (record { files = files; catalog = catalog }) names c at s e e.parameter) new r)
      by None moves = tt
      by (Some files) moves = rw (is, absent) moves

-- ---- the last tests

module _ (entry : List ℕ) (set : Declarations) (said : Option DeclFault) (stop : Stop) where
  pub finish_stops : (f : DeclFault) → Finishes {X = Unit {0}} said (Err f) → Refuses (decl_stop (module_text entry) 0 f) stop → (f ≡ decl.NoMemory → stop ≡ fault.NoMemory) → Reads {T = Declarations} (finished_by entry set said) (Err stop)
  finish_stops decl.NoMemory is refuses memory = rw (memory refl) tt
  finish_stops f is refuses memory = reads_refused (finished_by entry set said) (decl_stop (module_text entry) 0 f) stop (ap (finished_by entry set) is) refuses

pub refused_not_loading : (T : Type 0) (c : Standing) (f : DeclFault) (stop : Stop) → Refuses (decl_stop c 0 f) stop → LoadFailed {T = T} (Err stop) → ⊥
refused_not_loading T c f (fault.Refused refusal) refuses load = load
refused_not_loading T c f fault.LoadFailed refuses load = refuses
refused_not_loading T c f fault.NoMemory refuses load = load

pub refused_not_absent : (T : Type 0) (c : Standing) (f : DeclFault) (stop : Stop) → Refuses (decl_stop c 0 f) stop → IsAbsence {T = T} (Err stop) → ⊥
refused_not_absent T c f (fault.Refused refusal) refuses absent = decl_present c 0 f (sym (ap (λ x. x.number) refuses) ∙ absent)
refused_not_absent T c f fault.LoadFailed refuses absent = absent
refused_not_absent T c f fault.NoMemory refuses absent = absent
