-- What a reading keeps where something is declared.
use Rattle.std.proofs.Common.{◌≡◌, ◌≤◌, ℕ, zero, suc, refl, List, [], ◌∷◌, ◌++◌, Bool, true, false, Option, Some, None, Result, Ok, arith, length, slice_get, option_map, option_and_then, sym, ap, ◌∙◌, subst}
use Rattle.std.specs.Prelude.{IsTrue}
use Rattle.std.specs.Cmp.Derive.{both_true}
use Rattle.std.specs.List.{list_all}
use Rattle.std.proofs.lemmas.List.Folds.{list_all-append}
use Rattle.std.proofs.lemmas.Option.{none-some}
use Rattle.attlist_merge.specs.declared.raw.RawAttList.{RawAttList}
use Rattle.decl_set.specs.Declarations.{Declarations}
use Rattle.decl_set.specs.Declaring.{with_attributes}
use Rattle.decl_set.proofs.ValueSpending.{attributes_rise}
use Rattle.jats_chars.specs.declared.NoMemory.{NoMemory}
use Rattle.pe_expansion.specs.Binds.{Binds}
use Rattle.pe_expansion.specs.Bound.{Bound, text_in}
use Rattle.pe_expansion.specs.declared.bindings.PeText.{PeText}
use Rattle.module_reader.specs.Moves.{GoesOn, AreChars, loaded_at, has_chars, are_bound_chars}
use Rattle.module_reader.specs.declared.state.State.{State}
use Rattle.module_reader.proofs.Going.{stays}

-- a set and a count that is no less
pub set_on : (old : State) (set : Declarations) (spent : ℕ) → old.spent ≤ spent
    → GoesOn old (record { bound = old.bound; set = set; spent = spent; modules = old.modules; bytes = old.bytes })
set_on old set spent more = record {
  texts = λ k name text e. e;
  entry = λ name text e. e;
  spends = more;
  chars = λ all. record { bound = all.bound; modules = all.modules };
}

pub counted_on : (old : State) (set : Declarations) (spent : ℕ) (list : RawAttList) → with_attributes old.set old.spent list ≡ Ok (set, spent)
    → GoesOn old (record { bound = old.bound; set = set; spent = spent; modules = old.modules; bytes = old.bytes })
counted_on old set spent list e = set_on old set spent (attributes_rise old.set old.spent list (set, spent) e)

-- an entity goes last
loaded_before : (bound : Bound) (e : List ℕ × PeText) (k : ℕ) (name text : List ℕ) → loaded_at bound k ≡ Some (name, text) → loaded_at (bound ++ e ∷ []) k ≡ Some (name, text)
loaded_before [] e k name text at = absurd (none-some _ at)
loaded_before (b ∷ bs) e zero name text at = at
loaded_before (b ∷ bs) e (suc k) name text at = loaded_before bs e k name text at

pub bound_on : (old : State) (name : List ℕ) (e : PeText) → IsTrue (has_chars (text_in e))
    → GoesOn old (record { bound = old.bound ++ (name, e) ∷ []; set = old.set; spent = old.spent; modules = old.modules; bytes = old.bytes })
bound_on old name e chars = record {
  texts = λ k n text at. loaded_before old.bound (name, e) k n text at;
  entry = λ n text at. at;
  spends = omega arith;
  chars = λ all. record {
    bound = list_all-append (λ (e : List ℕ × PeText). has_chars (text_in e.1)) old.bound ((name, e) ∷ []) ∙ both_true all.bound (both_true chars refl);
    modules = all.modules;
  };
}

pub bound_is : (old : State) (bound : Bound) (name : List ℕ) (e : PeText) → bound ≡ old.bound ++ (name, e) ∷ [] → IsTrue (has_chars (text_in e))
    → GoesOn old (record { bound = bound; set = old.set; spent = old.spent; modules = old.modules; bytes = old.bytes })
bound_is old bound name e is chars =
    subst (λ (b : Bound). GoesOn old (record { bound = b; set = old.set; spent = old.spent; modules = old.modules; bytes = old.bytes })) (sym is) (bound_on old name e chars)

-- what binding leaves
pub binds_on : (old : State) (bound : Bound) (name : List ℕ) (e : PeText) (r : Result Bool NoMemory) (b : Bool) → r ≡ Ok b → Binds old.bound bound name e r → IsTrue (has_chars (text_in e))
    → GoesOn old (record { bound = bound; set = old.set; spent = old.spent; modules = old.modules; bytes = old.bytes })
binds_on old bound name e r true at is chars = (let P : Result Bool NoMemory → Type 0 = Binds old.bound bound name e in bound_is old bound name e (subst P at is).1 chars)
binds_on old bound name e r false at is chars =
    let P : Result Bool NoMemory → Type 0 = Binds old.bound bound name e in
    subst (λ (b : Bound). GoesOn old (record { bound = b; set = old.set; spent = old.spent; modules = old.modules; bytes = old.bytes })) (sym (subst P at is).1) (stays old)
