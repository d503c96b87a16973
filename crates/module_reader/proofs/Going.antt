-- What a reading never takes back.
use Rattle.std.proofs.Common.{◌≡◌, ◌∙◌, ℕ, zero, suc, ◌≤◌, Bool, true, false, List, [], ◌∷◌, Option, Some, None, slice_get, bytes_eq, cond, option_map, option_and_then, refl, sym, ap, subst, arith}
use Rattle.std.specs.Map.{lookup}
use Rattle.pe_expansion.specs.Bound.{Bound, text_bound, text_in, given_text, with_outer}
use Rattle.pe_expansion.specs.declared.bindings.PeText.{PeText}
use Rattle.pe_expansion.specs.declared.bindings.PeText.TheVariants.{Inner, Outer}
use Rattle.decl_set.specs.Asked.{are_chars}
use Rattle.std.specs.Prelude.{IsTrue}
use Rattle.std.specs.Cmp.Derive.{both_true}
use Rattle.std.proofs.lemmas.Bool.{and_parts}
use Rattle.std.proofs.lemmas.Option.{none-some}
use Rattle.module_reader.specs.Moves.{AreChars, GoesOn, are_bound_chars, are_module_chars, has_chars, loaded_at}
use Rattle.module_reader.specs.Sources.{given}
use Rattle.module_reader.specs.declared.state.State.{State}

pub stays : (s : State) → GoesOn s s
stays s = record { texts = λ k n t is. is; entry = λ n t is. is; spends = omega arith; chars = λ all. all }

pub goes_further : (a b c : State) → GoesOn a b → GoesOn b c → GoesOn a c
goes_further a b c first second = record {
  texts = λ k n t is. second.texts k n t (first.texts k n t is);
  entry = λ n t is. second.entry n t (first.entry n t is);
  spends = (let x = first.spends in let y = second.spends in omega arith);
  chars = λ all. second.chars (first.chars all);
}

-- a text that is given to an entity without one
pub outer_keeps : (bound : Bound) (name text : List ℕ) → option_and_then text_in (text_bound bound name) ≡ None → (k : ℕ) (n t : List ℕ) → loaded_at bound k ≡ Some (n, t) → loaded_at (with_outer bound name text) k ≡ Some (n, t)
outer_keeps [] name text none k n t is = is
outer_keeps (b ∷ bs) name text none k n t is = by (bytes_eq name b.0) none k is (outer_keeps bs name text)
  where
    by : (same : Bool) → option_and_then text_in (cond same (Some b.1) (lookup (bytes_eq name) bs)) ≡ None → (k : ℕ) → loaded_at (b ∷ bs) k ≡ Some (n, t)
        → (option_and_then text_in (text_bound bs name) ≡ None → (k : ℕ) (n t : List ℕ) → loaded_at bs k ≡ Some (n, t) → loaded_at (with_outer bs name text) k ≡ Some (n, t))
        → loaded_at (cond same ((b.0, given_text text b.1) ∷ bs) (b ∷ with_outer bs name text)) k ≡ Some (n, t)
    by true none zero is later = let both : option_map (λ t. (b.0, t)) (text_in b.1) ≡ None = rw none in absurd (let no : None ≡ Some (n, t) = sym both ∙ is in cc)
    by true none (suc k) is later = is
    by false none zero is later = is
    by false none (suc k) is later = later none k n t is

given_chars : (text : List ℕ) (e : PeText) → IsTrue (are_chars text) → IsTrue (has_chars (text_in e)) → IsTrue (has_chars (text_in (given_text text e)))
given_chars text (Inner t) all was = was
given_chars text (Outer ids base t) all was = all

-- a text of Chars that is given
pub outer_chars : (bound : Bound) (name text : List ℕ) → IsTrue (are_chars text) → IsTrue (are_bound_chars bound) → IsTrue (are_bound_chars (with_outer bound name text))
outer_chars [] name text all was = refl
outer_chars (b ∷ bs) name text all was =
    let h = and_parts (has_chars (text_in b.1)) (are_bound_chars bs) was in by (bytes_eq name b.0) h.0 h.1 (outer_chars bs name text all h.1)
  where
    by : (same : Bool) → IsTrue (has_chars (text_in b.1)) → IsTrue (are_bound_chars bs) → IsTrue (are_bound_chars (with_outer bs name text))
        → IsTrue (are_bound_chars (cond same ((b.0, given_text text b.1) ∷ bs) (b ∷ with_outer bs name text)))
    by true x y z = both_true (given_chars text b.1 all x) y
    by false x y z = both_true x z

pub given_goes_on : (s : State) (name text : List ℕ) → option_and_then text_in (text_bound s.bound name) ≡ None → (AreChars s → IsTrue (are_chars text)) → GoesOn s (given name (s, text))
given_goes_on s name text none of_chars = record {
  texts = outer_keeps s.bound name text none;
  entry = λ n t is. is;
  spends = omega arith;
  chars = λ all. record { bound = outer_chars s.bound name text (of_chars all) all.bound; modules = all.modules };
}

-- the text of a module that is loaded
pub module_chars : (modules : List (List ℕ × List ℕ)) (number : ℕ) (name text : List ℕ) → IsTrue (are_module_chars modules) → slice_get modules number ≡ Some (name, text) → IsTrue (are_chars text)
module_chars [] number name text all at = absurd (none-some _ at)
module_chars (m ∷ ms) zero name text all at =
    let same : m ≡ (name, text) = cc in subst (λ (m : List ℕ × List ℕ). IsTrue (are_chars m.1)) same (and_parts (are_chars m.1) (are_module_chars ms) all).0
module_chars (m ∷ ms) (suc number) name text all at = module_chars ms number name text (and_parts (are_chars m.1) (are_module_chars ms) all).1 at
