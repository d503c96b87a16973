-- What a reading reads from, and what it keeps.
use Rattle.std.specs.Prelude.{ℕ, zero, suc, ◌+◌, List, [], ◌∷◌, ◌++◌, length, bytes_eq, Option, Some, None, Result, Ok, Err, nat_lt, nat_le, if◌then◌else◌}
use Rattle.jats_chars.specs.declared.limits.TheConstants as limit
use Rattle.std.specs.Map.{lookup}
use Rattle.jats_chars.specs.Decoded.{text_of}
use Rattle.jats_chars.specs.declared.decoding.DecodeFault.{DecodeFault}
use Rattle.jats_fault.specs.declared.fault.Fault.{Fault}
use Rattle.jats_io.specs.Loads.{held}
use Rattle.dtd_scanner.specs.Walk.{◌>>=◌}
use Rattle.entity_catalog.specs.Named.{Named}
use Rattle.entity_catalog.specs.Resolution.{resolve}
use Rattle.entity_catalog.specs.declared.ids.Ids.{Ids}
use Rattle.entity_catalog.specs.declared.ids.Ids.TheVariants.{System, Public, PublicOnly}
use Rattle.pe_expansion.specs.Bound.{Bound, text_bound, with_outer, none_bound}
use Rattle.pe_expansion.specs.declared.bindings.PeText.{PeText}
use Rattle.pe_expansion.specs.declared.bindings.PeText.TheVariants.{Inner, Outer}
use Rattle.pe_expansion.specs.declared.faults.PeFault.{PeFault}
use Rattle.pe_expansion.specs.declared.faults.PeFault.TheVariants.{NotLoaded}
use Rattle.decl_set.specs.Declarations.{Declarations, none_declared}
use Rattle.module_reader.specs.declared.standing.Standing.{Standing}
use Rattle.module_reader.specs.declared.state.State.{State}
use Rattle.module_reader.specs.Stops.{refusal, refused, pe_stop, decode_stop}
use Rattle.jats_fault.specs.declared.numbers.TheConstants as number

-- names of files with their bytes, or of modules with their texts
abbrev pub Files : Type 0
Files = List (List ℕ × List ℕ)

-- what a store holds, and a catalog
pub record Source : Type 0 where
  pub files : Files
  pub catalog : Named

-- no entity is bound, nothing is declared, and no module is loaded
abbrev pub started : State
started = record { bound = none_bound; set = none_declared; spent = 0; modules = []; bytes = 0 }

-- how many modules a set has at most, how many bytes one of them has, and all of them together
abbrev pub most_modules : ℕ
most_modules = limit.MODULES

abbrev pub most_bytes : ℕ
most_bytes = limit.MODULE_BYTES

abbrev pub most_together : ℕ
most_together = limit.SET_BYTES

-- the text of a file whose bytes are no more than one file may have
abbrev pub decoded_by : {X : Type 0} → List ℕ → (List ℕ → Result X Fault) → Result (List ℕ) DecodeFault → Result X Fault
decoded_by name give (Ok text) = give text
decoded_by name give (Err fault) = Err (decode_stop name fault)

-- what is held of a file, whose bytes may be no more than this
abbrev pub text_held : ℕ → List ℕ → Option (List ℕ) → Result (List ℕ) Fault
text_held limit name None = Err (refusal number.MODULE_ABSENT name 0 [])
text_held limit name (Some bytes) = if nat_lt limit (length bytes) then Err (refusal number.MODULE_LONG name 0 []) else decoded_by name (λ text. Ok text) (text_of bytes)

-- the text of a file, or why it is none
unfoldable pub file_text : ℕ → Files → List ℕ → Result (List ℕ) Fault
file_text limit files name = text_held limit name (held files name)

-- the module goes last, with the count of bytes
abbrev pub with_module : State → List ℕ → ℕ → List ℕ → Result (State × List ℕ) Fault
with_module s name size text = Ok (record s { modules = s.modules ++ (name, text) ∷ []; bytes = s.bytes + size }, text)

-- bytes that may be those of one module more
abbrev pub measured : State → List ℕ → List ℕ → Result (State × List ℕ) Fault
measured s name bytes =
    if nat_lt most_bytes (length bytes) then Err (refusal number.MODULE_LONG name 0 [])
    else if nat_lt most_together (s.bytes + length bytes) then Err (refusal number.SET_OVER name 0 [])
    else decoded_by name (with_module s name (length bytes)) (text_of bytes)

abbrev pub held_as : State → List ℕ → Option (List ℕ) → Result (State × List ℕ) Fault
held_as s name None = Err (refusal number.MODULE_ABSENT name 0 [])
held_as s name (Some bytes) = measured s name bytes

-- a module that is not loaded yet
unfoldable pub new_module : Source → State → List ℕ → Result (State × List ℕ) Fault
new_module source s name = if nat_le most_modules (length s.modules) then Err (refusal number.SET_OVER name 0 []) else held_as s name (held source.files name)

abbrev pub module_by : Source → State → List ℕ → Option (List ℕ) → Result (State × List ℕ) Fault
module_by source s name (Some text) = Ok (s, text)
module_by source s name None = new_module source s name

-- the text of a module by its name: it is loaded, or is loaded now
abbrev pub module_of : Source → State → List ℕ → Result (State × List ℕ) Fault
module_of source s name = module_by source s name (lookup (bytes_eq name) s.modules)

-- the system identifier
abbrev pub system_of : Ids → List ℕ
system_of (System s) = s
system_of (Public p s) = s
system_of (PublicOnly p) = []

-- an outer entity with the text of its module
abbrev pub given : List ℕ → State × List ℕ → State
given name r = record r.0 { bound = with_outer r.0.bound name r.1 }

abbrev pub resolved : Source → Standing → ℕ → State → List ℕ → Ids → Option (List ℕ) → Result State Fault
resolved source c at s name ids None = Err (refused c at number.PATH_ESCAPES (system_of ids ∷ []))
resolved source c at s name ids (Some file) = module_of source s file >>= λ r. Ok (given name r)

abbrev pub loaded_by : Source → Standing → ℕ → State → List ℕ → Option PeText → Result State Fault
loaded_by source c at s name None = Ok s
loaded_by source c at s name (Some (Inner text)) = Ok s
loaded_by source c at s name (Some (Outer ids base text)) = resolved source c at s name ids (resolve source.catalog base ids)

-- The text of an outer entity is loaded: its identifier names a file, which is a module that is loaded, or is loaded now.
unfoldable pub loaded : Source → Standing → ℕ → State → List ℕ → Result State Fault
loaded source c at s name = loaded_by source c at s name (text_bound s.bound name)

-- what is asked of the bindings, and asked again once the text that it wants is loaded
abbrev pub heard : {X : Type 0} → Source → Standing → ℕ → (State → Result (State × X) Fault) → State → Result X PeFault → Result (State × X) Fault
heard source c at again s (Ok x) = Ok (s, x)
heard source c at again s (Err (NotLoaded name)) = loaded source c at s name >>= again
heard source c at again s (Err fault) = Err (pe_stop c at fault)

-- at most so often, and once more
abbrev pub asking_most : {X : Type 0} → Source → Standing → ℕ → ℕ → (State → Result X PeFault) → State → Result (State × X) Fault
asking_most source c at zero ask s = heard source c at (λ t. Err (refused c at number.MALFORMED [])) s (ask s)
asking_most source c at (suc n) ask s = heard source c at (asking_most source c at n ask) s (ask s)

-- The answer of the bindings, with all texts loaded that it wants, each when it is wanted: no more than there are entities.
unfoldable pub asking : {X : Type 0} → Source → Standing → ℕ → (State → Result X PeFault) → State → Result (State × X) Fault
asking source c at ask s = asking_most source c at (length s.bound) ask s
