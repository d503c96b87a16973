-- Modules that are found and added.
use Rattle.std.proofs.Common.{◌≡◌, ◌∙◌, ℕ, ◌+◌, ◌<◌, ◌≤◌, Bool, true, false, List, [], ◌∷◌, ◌++◌, length, take, Option, Some, None, Result, Ok, Err, IfOk, IfSome, OnOk, slice_get, nat_lt, nat_le, bytes_eq, option_map, refl, sym, ap, subst, arith, Vec, Global}
use Rattle.std.specs.Map.{lookup, lookup_key}
use Rattle.std.proofs.lemmas.Map.Made.{lookup_key_same}
use Rattle.std.proofs.lemmas.Slice.Eq.{bytes_eq-Decides}
use Rattle.std.proofs.lemmas.Grind.{common_steps}
use Rattle.std.proofs.lemmas.Bool.Decides.{nat_tests}
use Rattle.std.specs.Cmp.Derive.{both_true}
use Rattle.std.proofs.lemmas.List.Folds.{list_all-append}
use Rattle.decl_set.specs.Asked.{are_chars}
use Rattle.entity_catalog.specs.Named.{Named}
use Rattle.jats_io.specs.Loads.{held, Loads}
use Rattle.jats_io.specs.declared.store.Loaded.{Loaded}
use Rattle.jats_io.specs.declared.store.Loaded.TheVariants.{Bytes}
use Rattle.jats_fault.specs.declared.fault.Fault.{Fault}
use Rattle.module_reader.specs.Loading.{Adds, FindsModule, IsModule, LoadsModule}
use Rattle.module_reader.specs.Moves.{GoesOn}
use Rattle.module_reader.specs.Sources.{Files, Source, held_as, measured, module_of, new_module}
use Rattle.module_reader.specs.declared.refusals.Stop.{Stop}
use Rattle.module_reader.specs.declared.state.State.{State}
use Rattle.module_reader.proofs.Lists.{get_last, get_kept}

pub finds : (modules : Files) (name : List ℕ) (number : ℕ) (key text : List ℕ) → slice_get modules number ≡ Some (key, text) → Some key ≡ lookup_key (bytes_eq name) modules → Some text ≡ lookup (bytes_eq name) modules → FindsModule modules name (Some number)
finds modules name number key text entry found value =
    let same : name ≡ key = lookup_key_same bytes_eq-Decides name modules key (sym found) in
    (text, sym value, rw same entry)

-- ---- a module that is added

pub added_is : (old new : State) (name : List ℕ) (number : ℕ) → Adds old new name number → IsModule new.modules number name
added_is old new name number adds =
    let same : new.modules ≡ old.modules ++ (name, adds.0) ∷ [] = ap (λ (s : State). s.modules) adds.3 in
    (adds.0, rw (same, adds.2) (get_last old.modules (name, adds.0)))

pub added_goes_on : (old new : State) (name : List ℕ) (number : ℕ) → Adds old new name number → GoesOn old new
added_goes_on old new name number adds = rw adds.3 (record {
  texts = λ k n t is. is;
  entry = λ n t is. get_kept old.modules ((name, adds.0) ∷ []) 0 (n, t) is;
  spends = omega arith;
  chars = λ all. record { bound = all.bound; modules = list_all-append (λ (m : List ℕ × List ℕ). are_chars m.1) old.modules ((name, adds.0) ∷ []) ∙ both_true all.modules (both_true adds.4 refl) };
})

pub all_added : (old new : State) (name : List ℕ) (r : Result ℕ Stop) → IfOk r (λ k. Adds old new name k) → IfOk r (λ k. IsModule new.modules k name) × OnOk r (GoesOn old new)
all_added old new name (Ok number) adds = (added_is old new name number adds, added_goes_on old new name number adds)
all_added old new name (Err f) adds = (tt, tt)

-- ---- what a load tells of a module

pub take_short : (n : ℕ) (b : List ℕ) → length b ≤ n → take n b ≡ b
take_short n b short = grind (arith, common_steps)

pub long_front : (n : ℕ) (b : List ℕ) → n < length b → nat_lt n (length (take (n + 1) b)) ≡ true
long_front n b long = grind (arith, common_steps, nat_tests)

-- the first bytes show a file that is too long as well
measured_front : (s : State) (name b : List ℕ) → measured s name (take 4194305 b) ≡ measured s name b
measured_front s name b = by (nat_lt 4194304 (length b)) refl
  where
    by : (t : Bool) → nat_lt 4194304 (length b) ≡ t → measured s name (take 4194305 b) ≡ measured s name b
    by true e = rw (e, long_front 4194304 b (grind (arith, nat_tests))) refl
    by false e = ap (measured s name) (take_short 4194305 b (grind (arith, nat_tests)))

held_front : (s : State) (name bytes : List ℕ) (h : Option (List ℕ)) → option_map (take 4194305) h ≡ Some bytes → held_as s name h ≡ measured s name bytes
held_front s name bytes None e = cc
held_front s name bytes (Some b) e = let same : take 4194305 b ≡ bytes = cc in sym (measured_front s name b) ∙ ap (measured s name) same

-- a module that is loaded now
pub new_told : (holds : Option Files) (s new : State) (name : List ℕ) (loaded : Loaded) (bytes : Vec ℕ Global) (r : Result ℕ Stop) → loaded ≡ Bytes bytes → length s.modules < 1024
    → IfSome holds (λ files. Loads files name 4194304 (Ok loaded)) → LoadsModule (measured s name bytes.items) new name r
    → IfSome holds (λ files. (named : Named) → LoadsModule (new_module (record { files = files; catalog = named }) s name) new name r)
unfolding new_module
new_told None s new name loaded bytes r is room told loads = tt
new_told (Some files) s new name loaded bytes r is room told loads = λ named.
    let few : nat_le 1024 (length s.modules) ≡ false = grind (arith, nat_tests) in
    let P : Result (State × List ℕ) Fault → Type 0 = λ said. LoadsModule said new name r in
    rw few (subst P (sym (held_front s name bytes.items (held files name) (rw is at told))) loads)

-- a module that is not found
pub module_told : (holds : Option Files) (s new : State) (name : List ℕ) (r : Result ℕ Stop) → lookup (bytes_eq name) s.modules ≡ None
    → IfSome holds (λ files. (named : Named) → LoadsModule (new_module (record { files = files; catalog = named }) s name) new name r)
    → IfSome holds (λ files. (named : Named) → LoadsModule (module_of (record { files = files; catalog = named }) s name) new name r)
module_told None s new name r none told = tt
module_told (Some files) s new name r none told = λ named. rw none (told named)
