-- The reading of an entry, and the set that it gives.
use Rattle.std.proofs.Common.{◌≡◌, ◌∙◌, ℕ, suc, ◌-◌, ◌≤◌, List, [], ◌∷◌, length, Ok, Err, Some, None, slice_get, refl, sym, ap, subst, arith}
use Rattle.std.specs.Prelude.{Option, Result}
use Rattle.dtd_scanner.specs.Walk.{◌>>=◌}
use Rattle.entity_catalog.specs.Named.{Named}
use Rattle.jats_fault.specs.declared.fault.Fault.{Fault}
use Rattle.decl_set.specs.Declarations.{Declarations}
use Rattle.module_reader.specs.Frames.{from, text_found}
use Rattle.module_reader.specs.Loading.{LoadsModule}
use Rattle.module_reader.specs.Endings.{Reads}
use Rattle.module_reader.specs.Reading.{Names, module_read, reading}
use Rattle.module_reader.specs.Sets.{entry_read, finished, set_from}
use Rattle.module_reader.specs.Sources.{Source, module_of, started}
use Rattle.module_reader.specs.Stops.{module_text}
use Rattle.module_reader.specs.declared.refusals.Stop.{Stop}
use Rattle.module_reader.specs.declared.refusals.Stop.TheVariants as fault
use Rattle.module_reader.specs.declared.standing.Standing.{Standing}
use Rattle.module_reader.specs.declared.state.State.{State}

-- as many levels as names may still open, and one
levels_from : (source : Source) (names : Names) (c : Standing) (s : State) (text : List ℕ) (k : ℕ) → k ≡ suc (32 - length names)
    → reading k source names c s text ≡ from source (record { text = text; names = names; standing = c; at = 0; sections = [] }) s
unfolding from
levels_from source names c s text k e = ap (λ n. reading n source names c s text) e

-- what the text of a module does
pub module_from : (source : Source) (name : List ℕ) (s : State) (text : List ℕ) → module_read source name s text ≡ from source (record { text = text; names = []; standing = module_text name; at = 0; sections = [] }) s
unfolding module_read
module_from source name s text = levels_from source [] (module_text name) s text 33 (omega arith)

module _ (source : Source) (name : List ℕ) (s : State) (text : List ℕ) where
  -- the reading is refused
  pub entry_refused : (f : Stop) → Reads {T = State} (from source (record { text = text; names = []; standing = module_text name; at = 0; sections = [] }) s) (Err f) → Reads {T = Declarations} (entry_read source name (s, text)) (Err f)
  entry_refused (fault.Refused refusal) is = ap (λ r. r >>= finished name) (module_from source name s text ∙ is)
  entry_refused fault.LoadFailed is = tt
  entry_refused fault.NoMemory is = tt

  -- it comes to its end
  pub entry_done : (t : State) (r : Result Declarations Stop) → from source (record { text = text; names = []; standing = module_text name; at = 0; sections = [] }) s ≡ Ok t → Reads (finished name t) r → Reads (entry_read source name (s, text)) r
  entry_done t r is reads =
      let P : Result Declarations Fault → Type 0 = λ said. Reads said r in
      subst P (sym (ap (λ said. said >>= finished name) (module_from source name s text ∙ is))) reads

-- the entry is not loaded
pub set_refused : (source : Source) (name : List ℕ) (s new : State) (f : Stop) → s ≡ started → LoadsModule (module_of source s name) new name (Err f) → Reads {T = Declarations} (set_from source name) (Err f)
unfolding set_from
set_refused source name s new (fault.Refused refusal) is loads = ap (λ (t : State). module_of source t name >>= entry_read source name) (sym is) ∙ rw loads refl
set_refused source name s new fault.LoadFailed is loads = tt
set_refused source name s new fault.NoMemory is loads = tt

-- it is loaded
pub set_done : (source : Source) (name : List ℕ) (s new : State) (number : ℕ) (r : Result Declarations Stop) → s ≡ started → number ≤ length s.modules → LoadsModule (module_of source s name) new name (Ok number)
    → Reads (entry_read source name (new, text_found (slice_get new.modules 0))) r → Reads (set_from source name) r
unfolding set_from
set_done source name s new number r is within (text, loads, there) reads =
    let first : number ≡ 0 = omega (arith, within, ap (λ (t : State). length t.modules) is) in
    let found : text_found (slice_get new.modules 0) ≡ text = ap (λ (k : ℕ). text_found (slice_get new.modules k)) (sym first) ∙ ap text_found there in
    let said : set_from source name ≡ entry_read source name (new, text) = ap (λ (t : State). module_of source t name >>= entry_read source name) (sym is) ∙ rw loads refl in
    let P : Result Declarations Fault → Type 0 = λ said. Reads said r in
    let Q : List ℕ → Type 0 = λ t. Reads (entry_read source name (new, t)) r in
    subst P (sym said) (subst Q found reads)
