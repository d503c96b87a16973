-- Catalogs of files.
use Rattle.std.proofs.Common.{◌≡◌, ◌∙◌, ℕ, ◌+◌, ◌<◌, ◌≤◌, Bool, true, false, List, [], length, take, Option, Some, None, Result, Ok, Err, IfSome, nat_lt, option_map, refl, sym, ap, subst, arith, Vec, Global}
use Rattle.std.proofs.lemmas.Bool.Decides.{nat_tests}
use Rattle.entity_catalog.specs.Catalogs.{catalog_of}
use Rattle.entity_catalog.specs.Named.{Named}
use Rattle.entity_catalog.specs.Outcomes as catalogs
use Rattle.entity_catalog.specs.declared.faults.CatalogFault.{CatalogFault}
use Rattle.entity_catalog.specs.declared.faults.CatalogFault.TheVariants as catalog
use Rattle.jats_chars.specs.Decoded.{text_of}
use Rattle.jats_chars.specs.declared.decoding.DecodeFault.{DecodeFault}
use Rattle.jats_fault.specs.declared.fault.Fault.{Fault}
use Rattle.jats_io.specs.Loads.{held, Loads}
use Rattle.jats_io.specs.declared.store.Loaded.{Loaded}
use Rattle.jats_io.specs.declared.store.Loaded.TheVariants.{Bytes}
use Rattle.module_reader.specs.Endings.{Reads, Refuses}
use Rattle.dtd_scanner.specs.Walk.{◌>>=◌}
use Rattle.module_reader.specs.Sets.{catalog_from, named_by}
use Rattle.module_reader.specs.Sources.{Files, file_text}
use Rattle.module_reader.specs.Stops.{catalog_stop}
use Rattle.module_reader.specs.declared.refusals.Stop.{Stop}
use Rattle.module_reader.specs.declared.refusals.Stop.TheVariants as fault
use Rattle.module_reader.proofs.Modules.{take_short, long_front}
use Rattle.module_reader.proofs.Refusing.{reads_refused}

-- lines without form
pub catalog_stops : (name : List ℕ) (said : Result Named CatalogFault) (e : CatalogFault) (f : Stop) → catalogs.Reads said (Err e) → Refuses (catalog_stop name e) f → (e ≡ catalog.NoMemory → f ≡ fault.NoMemory) → Reads (named_by name said) (Err f)
catalog_stops name said catalog.NoMemory f is refuses memory = rw (memory refl) tt
catalog_stops name said (catalog.Malformed line) f is refuses memory = reads_refused _ _ f (rw is refl) refuses
catalog_stops name said (catalog.PathEscapes line) f is refuses memory = reads_refused _ _ f (rw is refl) refuses

-- a text that is read, and what it is
pub catalog_read : (holds : Option Files) (name text : List ℕ) (r : Result Named Stop) → IfSome holds (λ files. file_text 4194304 files name ≡ Ok text) → Reads (named_by name (catalog_of name text)) r
    → IfSome holds (λ files. Reads (catalog_from files (Some name)) r)
unfolding catalog_from
catalog_read None name text r is reads = tt
catalog_read (Some files) name text r is reads =
    let P : Result (List ℕ) Fault → Type 0 = λ said. Reads (said >>= λ text. named_by name (catalog_of name text)) r in subst P (sym is) reads

-- a text that is not
pub catalog_unread : (holds : Option Files) (name : List ℕ) (f : Stop) → IfSome holds (λ files. Reads {T = List ℕ} (file_text 4194304 files name) (Err f)) → IfSome holds (λ files. Reads {T = Named} (catalog_from files (Some name)) (Err f))
unfolding catalog_from
catalog_unread None name f reads = tt
catalog_unread (Some files) name (fault.Refused refusal) reads = ap (λ (r : Result (List ℕ) Fault). r >>= λ text. named_by name (catalog_of name text)) reads
catalog_unread (Some files) name fault.LoadFailed reads = tt
catalog_unread (Some files) name fault.NoMemory reads = tt
