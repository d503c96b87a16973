-- Texts that are read are of Chars.
use Rattle.std.proofs.Common.{◌≡◌, ◌∙◌, ℕ, zero, suc, ◌+◌, ◌-◌, Bool, true, List, [], ◌∷◌, take, drop, Option, Some, None, slice_get, option_map, option_and_then, refl, sym, ap, subst}
use Rattle.std.specs.Prelude.{IfOk, IsTrue, Result, Ok, Err}
use Rattle.std.proofs.lemmas.Bool.{and_parts}
use Rattle.decl_set.specs.Asked.{are_chars}
use Rattle.decl_set.proofs.ValueChars.{drop_all}
use Rattle.pe_expansion.specs.Bound.{Bound, text_in}
use Rattle.pe_expansion.specs.declared.bindings.PeText.{PeText}
use Rattle.module_reader.specs.Frames.{IsSound, current, found, rest_of, text_found}
use Rattle.module_reader.specs.Moves.{AreChars, are_bound_chars, are_module_chars, has_chars, loaded_at}
use Rattle.module_reader.specs.declared.frames.Work.{Work}
use Rattle.module_reader.specs.declared.state.State.{State}
use Rattle.module_reader.proofs.ExpansionChars.{take_all}

abbrev IsOfChars : Option (List ℕ × List ℕ) → Type 0
IsOfChars o = IsTrue (are_chars (text_found o))

module_chars : (ms : List (List ℕ × List ℕ)) → IsTrue (are_module_chars ms) → IsOfChars (slice_get ms 0)
module_chars [] all = refl
module_chars (m ∷ ms) all = (and_parts (are_chars m.1) (are_module_chars ms) all).0

entity_chars : (name : List ℕ) (o : Option (List ℕ)) → IsTrue (has_chars o) → IsOfChars (option_map (λ t. (name, t)) o)
entity_chars name None all = refl
entity_chars name (Some text) all = all

bound_chars : (bound : Bound) (k : ℕ) → IsTrue (are_bound_chars bound) → IsOfChars (loaded_at bound k)
bound_chars [] k all = refl
bound_chars (b ∷ bs) zero all = entity_chars b.0 (text_in b.1) (and_parts (has_chars (text_in b.1)) (are_bound_chars bs) all).0
bound_chars (b ∷ bs) (suc k) all = bound_chars bs k (and_parts (has_chars (text_in b.1)) (are_bound_chars bs) all).1

found_chars : (s : State) (o : Option ℕ) → AreChars s → IsOfChars (found s o)
found_chars s None all = module_chars s.modules all.modules
found_chars s (Some k) all = bound_chars s.bound k all.bound

-- a part of the text that is read
pub part_chars : (w : Work) (n at : ℕ) → IsSound w → IsTrue (are_chars (take n (drop at (current w).text)))
unfolding IsSound
part_chars w n at sound = take_all n _ (drop_all at (current w).text (found_chars w.state w.frame.text sound.2))

pub if_chars : {E : Type 0} (r : Result (List ℕ) E) (part : List ℕ) → IfOk r (λ t. t ≡ part) → IsTrue (are_chars part) → IfOk r (λ t. IsTrue (are_chars t))
if_chars (Ok t) part is all = subst (λ (x : List ℕ). IsTrue (are_chars x)) (sym is) all
if_chars (Err e) part is all = tt
