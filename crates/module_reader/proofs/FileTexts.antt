-- Texts of files.
use Rattle.std.proofs.Common.{◌≡◌, ◌∙◌, ℕ, ◌+◌, Bool, true, false, List, take, Option, Some, None, Result, IfSome, Ok, nat_lt, length, option_map, sym, ap, refl, subst, arith, Vec, Global}
use Rattle.std.proofs.lemmas.Bool.Decides.{nat_tests}
use Rattle.jats_fault.specs.declared.fault.Fault.{Fault}
use Rattle.jats_io.specs.Loads.{held, Loads}
use Rattle.jats_io.specs.declared.store.Loaded.{Loaded}
use Rattle.jats_io.specs.declared.store.Loaded.TheVariants.{Bytes}
use Rattle.module_reader.specs.Endings.{Reads}
use Rattle.module_reader.specs.Sources.{Files, text_held, file_text}
use Rattle.module_reader.specs.declared.refusals.Stop.{Stop}
use Rattle.module_reader.proofs.Modules.{take_short, long_front}

module _ (limit : ℕ) (name : List ℕ) where
  -- the first bytes show a file that is too long as well
  text_front : (b : List ℕ) → text_held limit name (Some (take (limit + 1) b)) ≡ text_held limit name (Some b)
  text_front b = by (nat_lt limit (length b)) refl
    where
      by : (t : Bool) → nat_lt limit (length b) ≡ t → text_held limit name (Some (take (limit + 1) b)) ≡ text_held limit name (Some b)
      by true e = rw (e, long_front limit b (grind (arith, nat_tests))) refl
      by false e = ap (λ (x : List ℕ). text_held limit name (Some x)) (take_short (limit + 1) b (grind (arith, nat_tests)))

  held_front : (bytes : List ℕ) (h : Option (List ℕ)) → option_map (take (limit + 1)) h ≡ Some bytes → text_held limit name h ≡ text_held limit name (Some bytes)
  held_front bytes None e = cc
  held_front bytes (Some b) e = let same : take (limit + 1) b ≡ bytes = cc in sym (text_front b) ∙ ap (λ (x : List ℕ). text_held limit name (Some x)) same

  pub text_told : (holds : Option Files) (loaded : Loaded) (bytes : Vec ℕ Global) (r : Result (List ℕ) Stop) → loaded ≡ Bytes bytes → IfSome holds (λ files. Loads files name limit (Ok loaded))
      → Reads (text_held limit name (Some bytes.items)) r → IfSome holds (λ files. Reads (file_text limit files name) r)
  unfolding file_text
  text_told None loaded bytes r is told reads = tt
  text_told (Some files) loaded bytes r is told reads =
      let P : Result (List ℕ) Fault → Type 0 = λ said. Reads said r in
      subst P (sym (held_front bytes.items (held files name) (rw is at told))) reads
