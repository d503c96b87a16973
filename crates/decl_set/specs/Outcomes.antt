-- What the declaring calls answer, unless memory runs out.
use Rattle.std.specs.Prelude.{◌≡◌, ℕ, List, Bool, true, false, Option, Some, None, IsSome, Result, Ok, Err}
use Rattle.pe_expansion.specs.Expansion.{Written}
use Rattle.decl_set.specs.Declarations.{Declarations, entity_in}
use Rattle.decl_set.specs.Declaring.{with_entity}
use Rattle.decl_set.specs.declared.entity.EntityDef.{EntityDef}
use Rattle.decl_set.specs.declared.faults.DeclFault.{DeclFault}
use Rattle.decl_set.specs.declared.faults.DeclFault.TheVariants as fault
use Rattle.decl_set.specs.declared.faults.ValueFault.{ValueFault}
use Rattle.decl_set.specs.declared.faults.ValueFault.TheVariants as value

-- this fault is what a definition says, or memory ran out
abbrev pub Fails : {Y : Type 0} → DeclFault → Result Y DeclFault → Type 0
Fails fault.NoMemory said = Unit {0}
Fails f said = said ≡ Err f

-- a declaration: the new set is what a definition says, or the fault is, and the set is as it was
abbrev pub Declares : {X : Type 0} → Result Declarations DeclFault → Declarations → Declarations → Result X DeclFault → Type 0
Declares said old new (Ok x) = said ≡ Ok new
Declares said old new (Err f) = Fails f said × (new ≡ old)

-- the same with the count of included characters
abbrev pub DeclaresCounting : {X : Type 0} → Result (Declarations × ℕ) DeclFault → Declarations × ℕ → Declarations × ℕ → Result X DeclFault → Type 0
DeclaresCounting said old new (Ok x) = said ≡ Ok new
DeclaresCounting said old new (Err f) = Fails f said × (new ≡ old)

-- an entity: true where its name was new
abbrev pub DeclaresEntity : {F : Type 0} → Declarations → Declarations → List ℕ → EntityDef → Result Bool F → Type 0
DeclaresEntity old new name def (Ok true) = (entity_in old name ≡ None) × (new ≡ with_entity old name def)
DeclaresEntity old new name def (Ok false) = IsSome (entity_in old name) × (new ≡ with_entity old name def)
DeclaresEntity old new name def (Err e) = new ≡ old

-- the last tests
abbrev pub Finishes : {X : Type 0} → Option DeclFault → Result X DeclFault → Type 0
Finishes said (Ok x) = said ≡ None
Finishes said (Err fault.NoMemory) = Unit {0}
Finishes said (Err f) = said ≡ Some f

-- this fault of a value is what a definition says, or memory ran out
abbrev pub ValueFails : {Y : Type 0} → ValueFault → Result Y ValueFault → Type 0
ValueFails value.NoMemory said = Unit {0}
ValueFails f said = said ≡ Err f

-- a value and the new count of included characters, or the first thing that stops it, and the count is as it was
abbrev pub Values : Result Written ValueFault → ℕ → ℕ → Result (List ℕ) ValueFault → Type 0
Values said old new (Ok text) = said ≡ Ok (record { text = text; spent = new })
Values said old new (Err f) = ValueFails f said × (new ≡ old)
