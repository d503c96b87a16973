-- What the calls of a reading do to its state.
use Rattle.std.specs.Prelude.{◌≡◌, ◌≤◌, ℕ, Bool, true, List, Option, Some, None, IsTrue, option_map, option_and_then, slice_get, Result, Ok, Err}
use Rattle.std.specs.List.{list_all}
use Rattle.decl_set.specs.Asked.{are_chars}
use Rattle.jats_fault.specs.declared.fault.Fault.{Fault}
use Rattle.pe_expansion.specs.Bound.{Bound, Keeps, text_in}
use Rattle.pe_expansion.specs.Expansion.{Written}
use Rattle.module_reader.specs.declared.refusals.Stop.{Stop}
use Rattle.module_reader.specs.declared.refusals.Stop.TheVariants as fault
use Rattle.module_reader.specs.declared.state.State.{State}

-- the new state is what is said, or the refusal is, unless a load failed or memory ran out
abbrev pub Moves : {T : Type 0} → Result State Fault → State → Result T Stop → Type 0
Moves said new (Ok x) = said ≡ Ok new
Moves said new (Err (fault.Refused refusal)) = said ≡ Err refusal
Moves said new (Err fault.LoadFailed) = Unit {0}
Moves said new (Err fault.NoMemory) = Unit {0}

-- the same with what the call gives
abbrev pub Gives : {X : Type 0} → Result (State × X) Fault → State → Result X Stop → Type 0
Gives said new (Ok x) = said ≡ Ok (new, x)
Gives said new (Err (fault.Refused refusal)) = said ≡ Err refusal
Gives said new (Err fault.LoadFailed) = Unit {0}
Gives said new (Err fault.NoMemory) = Unit {0}

-- a text that is expanded, and the state with its count of included characters
abbrev pub counted : Result (State × Written) Fault → Result (State × List ℕ) Fault
counted (Ok r) = Ok (record r.0 { spent = r.1.spent }, r.1.text)
counted (Err fault) = Err fault

-- the name and the text of the k-th entity, where it has a text
abbrev pub loaded_at : Bound → ℕ → Option (List ℕ × List ℕ)
loaded_at bound k = option_and_then (λ e. option_map (λ t. (e.0, t)) (text_in e.1)) (slice_get bound k)

-- whether a text, where there is one, is of Chars
abbrev pub has_chars : Option (List ℕ) → Bool
has_chars None = true
has_chars (Some text) = are_chars text

-- whether the texts of all entities are of Chars
abbrev pub are_bound_chars : Bound → Bool
are_bound_chars bound = list_all (λ e. has_chars (text_in e.1)) bound

-- whether the texts of all modules are
abbrev pub are_module_chars : List (List ℕ × List ℕ) → Bool
are_module_chars modules = list_all (λ m. are_chars m.1) modules

-- all texts that a reading keeps are of Chars
pub record AreChars (s : State) : Type 0 where
  pub bound : IsTrue (are_bound_chars s.bound)
  pub modules : IsTrue (are_module_chars s.modules)

-- What a reading never takes back: an entity that has a text keeps its place, name and text; the first module stays; and the
-- count of included characters does not fall. Texts that are of Chars stay so.
pub record GoesOn (old new : State) : Type 0 where
  pub texts : (k : ℕ) (name text : List ℕ) → loaded_at old.bound k ≡ Some (name, text) → loaded_at new.bound k ≡ Some (name, text)
  pub entry : (name text : List ℕ) → slice_get old.modules 0 ≡ Some (name, text) → slice_get new.modules 0 ≡ Some (name, text)
  pub spends : old.spent ≤ new.spent
  pub chars : AreChars old → AreChars new

-- a text of Chars gives a text of Chars
abbrev pub StaysOfChars : {E : Type 0} → State → List ℕ → Result (List ℕ) E → Type 0
StaysOfChars old text (Ok answer) = AreChars old → IsTrue (are_chars text) → IsTrue (are_chars answer)
StaysOfChars old text (Err e) = Unit {0}

-- loading takes no text of an entity away, and includes no character
pub record LoadsOnly (old new : State) : Type 0 where
  pub keeps : Keeps old.bound new.bound
  pub spent : new.spent ≡ old.spent
