-- Texts of outer entities.
use Rattle.std.proofs.Common.{◌≡◌, ◌∙◌, ℕ, List, [], ◌∷◌, Option, Some, None, Result, Ok, Err, IfSome, IfOk, OnOk, slice_get, option_and_then, refl, sym, ap}
use Rattle.std.specs.Prelude.{IsTrue}
use Rattle.decl_set.specs.Asked.{are_chars}
use Rattle.entity_catalog.specs.Named.{Named}
use Rattle.entity_catalog.specs.Resolution.{resolve}
use Rattle.entity_catalog.specs.declared.ids.Ids.{Ids}
use Rattle.dtd_scanner.specs.Walk.{◌>>=◌}
use Rattle.jats_fault.specs.declared.fault.Fault.{Fault}
use Rattle.pe_expansion.specs.Bound.{IsOuter, text_bound, text_in}
use Rattle.pe_expansion.specs.declared.bindings.PeText.{PeText}
use Rattle.pe_expansion.specs.declared.bindings.PeText.TheVariants.{Inner, Outer}
use Rattle.module_reader.specs.Loading.{IsModule, LoadsModule, NamesFile, giving}
use Rattle.module_reader.specs.Moves.{AreChars, GoesOn, LoadsOnly, Moves}
use Rattle.module_reader.specs.Endings.{LoadFailed, Refuses}
use Rattle.module_reader.specs.Sources.{Files, Source, given, loaded, module_of, resolved, system_of}
use Rattle.module_reader.specs.Stops.{refused}
use Rattle.module_reader.specs.declared.refusals.Stop.{Stop}
use Rattle.module_reader.specs.declared.refusals.Stop.TheVariants as fault
use Rattle.module_reader.specs.declared.standing.Standing.{Standing}
use Rattle.module_reader.specs.declared.state.State.{State}
use Rattle.pe_expansion.proofs.KeptTexts.{keeps_same, outer_keeps}
use Rattle.module_reader.proofs.Going.{given_goes_on, goes_further, module_chars}

names_refused : (source : Source) (outcome : Result State Fault) (s : State) (name : List ℕ) (said : Fault) (f : Stop) → outcome ≡ Err said → Refuses said f → NamesFile source outcome s name (Err f)
names_refused source outcome s name said (fault.Refused refusal) is refuses = rw refuses is
names_refused source outcome s name said fault.LoadFailed is refuses = absurd refuses
names_refused source outcome s name said fault.NoMemory is refuses = tt

module _ (source : Source) (c : Standing) (at : ℕ) (s : State) (name : List ℕ) (ids : Ids) (base : List ℕ) (text : Option (List ℕ)) (there : text_bound s.bound name ≡ Some (Outer ids base text)) where
  loaded_outer : loaded source c at s name ≡ resolved source c at s name ids (resolve source.catalog base ids)
  unfolding loaded
  loaded_outer = rw there refl

  -- the identifier leaves the folder
  pub names_escapes : (f : Stop) → None ≡ resolve source.catalog base ids → Refuses (refused c at 51 (system_of ids ∷ [])) f → NamesFile source (loaded source c at s name) s name (Err f)
  names_escapes f none refuses = names_refused source _ s name _ f (loaded_outer ∙ rw (← none) refl) refuses

  -- it names a file
  pub names_file : (file : List ℕ) → Some file ≡ resolve source.catalog base ids → NamesFile source (loaded source c at s name) s name (Ok (Some file))
  names_file file some = (rw there tt, loaded_outer ∙ rw (← some) refl)

-- nothing is to be loaded, or the identifier leaves the folder
pub moves_named : (holds : Option Files) (catalog : Named) (c : Standing) (at : ℕ) (s new : State) (name : List ℕ) (f : Stop)
    → ((files : Files) → NamesFile (record { files = files; catalog = catalog }) (loaded (record { files = files; catalog = catalog }) c at s name) s name (Err f))
    → IfSome holds (λ files. Moves {T = Unit {0}} (loaded (record { files = files; catalog = catalog }) c at s name) new (Err f))
moves_named None catalog c at s new name f names = tt
moves_named (Some files) catalog c at s new name (fault.Refused refusal) names = names files
moves_named (Some files) catalog c at s new name fault.LoadFailed names = tt
moves_named (Some files) catalog c at s new name fault.NoMemory names = tt

pub moves_unnamed : (holds : Option Files) (catalog : Named) (c : Standing) (at : ℕ) (s : State) (name : List ℕ) (o : Option (List ℕ)) → o ≡ None
    → ((files : Files) → NamesFile (record { files = files; catalog = catalog }) (loaded (record { files = files; catalog = catalog }) c at s name) s name (Ok o))
    → IfSome holds (λ files. loaded (record { files = files; catalog = catalog }) c at s name ≡ Ok s)
moves_unnamed None catalog c at s name o none names = tt
moves_unnamed (Some files) catalog c at s name None none names = names files
moves_unnamed (Some files) catalog c at s name (Some file) none names = cc

-- the name of a file is that of an outer entity's
pub names_outer : (catalog : Named) (c : Standing) (at : ℕ) (s : State) (name file : List ℕ) (o : Option (List ℕ)) → o ≡ Some file
    → ((files : Files) → NamesFile (record { files = files; catalog = catalog }) (loaded (record { files = files; catalog = catalog }) c at s name) s name (Ok o))
    → IsOuter (text_bound s.bound name)
names_outer catalog c at s name file None some names = cc
names_outer catalog c at s name file (Some f) some names = (names []).0

-- a file is loaded
pub moves_file : (holds : Option Files) (catalog : Named) (c : Standing) (at : ℕ) (s new : State) (name file : List ℕ) (r : Result (Unit {0}) Stop) (o : Option (List ℕ)) → o ≡ Some file
    → ((files : Files) → NamesFile (record { files = files; catalog = catalog }) (loaded (record { files = files; catalog = catalog }) c at s name) s name (Ok o))
    → IfSome holds (λ files. (named : Named) → Moves (giving (record { files = files; catalog = named }) s file name) new r)
    → IfSome holds (λ files. Moves (loaded (record { files = files; catalog = catalog }) c at s name) new r)
moves_file None catalog c at s new name file r o some names told = tt
moves_file (Some files) catalog c at s new name file r None some names told = cc
moves_file (Some files) catalog c at s new name file r (Some f) some names told = let same : f ≡ file = cc in rw ((names files).1, same) (told catalog)

-- a module that is not loaded
pub moves_unloaded : (holds : Option Files) (s0 s new : State) (file name : List ℕ) (f : Stop) → IfSome holds (λ files. (named : Named) → LoadsModule (module_of (record { files = files; catalog = named }) s0 file) s file (Err f))
    → IfSome holds (λ files. (named : Named) → Moves {T = Unit {0}} (giving (record { files = files; catalog = named }) s0 file name) new (Err f))
moves_unloaded None s0 s new file name f told = tt
moves_unloaded (Some files) s0 s new file name (fault.Refused refusal) told = λ named. rw (told named) refl
moves_unloaded (Some files) s0 s new file name fault.LoadFailed told = λ named. tt
moves_unloaded (Some files) s0 s new file name fault.NoMemory told = λ named. tt

-- a module whose text is given
pub moves_given : (holds : Option Files) (s0 s new : State) (file name : List ℕ) (number : ℕ) → IfSome holds (λ files. (named : Named) → LoadsModule (module_of (record { files = files; catalog = named }) s0 file) s file (Ok number))
    → ((f t : List ℕ) → slice_get s.modules number ≡ Some (f, t) → new ≡ given name (s, t))
    → IfSome holds (λ files. (named : Named) → giving (record { files = files; catalog = named }) s0 file name ≡ Ok new)
moves_given None s0 s new file name number told gives = tt
moves_given (Some files) s0 s new file name number told gives = λ named.
    let loads = told named in
    rw loads.1 (ap (λ (x : State). Ok x) (sym (gives file loads.0 loads.2)))

given_on : (s0 s : State) (name text : List ℕ) → option_and_then text_in (text_bound s0.bound name) ≡ None → s.bound ≡ s0.bound → (AreChars s → IsTrue (are_chars text)) → GoesOn s0 s → GoesOn s0 (given name (s, text))
given_on s0 s name text none same of_chars on = goes_further s0 s (given name (s, text)) on (given_goes_on s name text (rw same none) of_chars)

-- what was read stays once a text is given
pub gives_on : (s0 s new : State) (file name : List ℕ) (number : ℕ) → option_and_then text_in (text_bound s0.bound name) ≡ None → s.bound ≡ s0.bound → IsModule s.modules number file → ((f t : List ℕ) → slice_get s.modules number ≡ Some (f, t) → new ≡ given name (s, t))
    → GoesOn s0 s → GoesOn s0 new
gives_on s0 s new file name number none same is gives on = rw (gives file is.0 is.1) (given_on s0 s name is.0 none same (λ all. module_chars s.modules number file is.0 all.modules is.1) on)

-- a text that is given takes none away
pub gives_only : (s0 s new : State) (file name : List ℕ) (number : ℕ) → option_and_then text_in (text_bound s0.bound name) ≡ None → s.bound ≡ s0.bound → s.spent ≡ s0.spent → IsModule s.modules number file → ((f t : List ℕ) → slice_get s.modules number ≡ Some (f, t) → new ≡ given name (s, t))
    → LoadsOnly s0 new
gives_only s0 s new file name number none same spent is gives = rw (gives file is.0 is.1) (record { keeps = rw same (outer_keeps s0.bound name is.0 none); spent = spent })

pub loads_nothing : (s : State) → LoadsOnly s s
loads_nothing s = record { keeps = keeps_same s.bound; spent = refl }
