-- The table is right.
use Rattle.std.proofs.Common.{◌≡◌, ℕ, Bool, true, false, cond, not, ◌&&◌, List, [], ◌∷◌, refl, sym, ap, subst, IsTrue, bytes_eq, find, Some, None}
use Rattle.std.specs.List.{list_all}
use Rattle.attribute_types.proofs.TextTests.{on_test}
use Rattle.std.specs.Prelude.{codes, is_none, ◌↔◌, Result, Ok, Err, IfOk}
use Rattle.jats_chars.specs.declared.NoMemory.{NoMemory}
use Rattle.std.proofs.lemmas.Bool.{both_ways}
use Rattle.jats_chars.specs.Names.{is_name, is_nmtoken, is_names, is_nmtokens}
use Rattle.attribute_types.specs.declared.classes.ValueClass.{ValueClass}
use Rattle.attribute_types.specs.declared.classes.ValueClass.TheVariants.{Any, Name, Names, Nmtoken, Nmtokens, Tokens, Fixed, FixedToken}
use Rattle.attribute_types.specs.Classes.{among, in_class}
use Rattle.attribute_types.specs.Proper.{IsProper}
use Rattle.attribute_types.specs.Covers.{Covers}
use Rattle.attribute_types.specs.Table.{Uncovered, Tells, uncovered, free_of}
use Rattle.attribute_types.proofs.Collapsing.{name_names, name_nmtoken, name_nmtokens, nmtoken_nmtokens, names_nmtokens}
use Rattle.attribute_types.proofs.Cells as cell

-- what is in the class of names is in these
free_in : (xs : List (List ℕ)) → IsTrue (in_class Name (free_of xs))
free_in xs = cell.free_name xs

free_names : (xs : List (List ℕ)) → IsTrue (in_class Names (free_of xs))
free_names xs = name_names (free_of xs) (cell.free_name xs)

free_nmtoken : (xs : List (List ℕ)) → IsTrue (in_class Nmtoken (free_of xs))
free_nmtoken xs = name_nmtoken (free_of xs) (cell.free_name xs)

free_nmtokens : (xs : List (List ℕ)) → IsTrue (in_class Nmtokens (free_of xs))
free_nmtokens xs = name_nmtokens (free_of xs) (cell.free_name xs)

row_any : (second : ValueClass) → IsProper second → Tells Any second (uncovered Any second)
row_any Any q = λ v h. refl
row_any Name q = (refl, cell.empty_no_name)
row_any Names q = (refl, cell.empty_no_names)
row_any Nmtoken q = (refl, cell.empty_no_nmtoken)
row_any Nmtokens q = (refl, cell.empty_no_nmtokens)
row_any (Tokens others) q = (refl, cell.empty_no_token others q)
row_any (Fixed text) q = cell.empty_or_x_out text
row_any (FixedToken text) q = (refl, cell.empty_no_fixed_token text q)

row_name : (second : ValueClass) → IsProper second → Tells Name second (uncovered Name second)
row_name Any q = λ v h. refl
row_name Name q = λ v h. h
row_name Names q = name_names
row_name Nmtoken q = name_nmtoken
row_name Nmtokens q = name_nmtokens
row_name (Tokens others) q = (free_in others, cell.free_no_token others)
row_name (Fixed text) q = (free_in (text ∷ []), cell.free_no_fixed text)
row_name (FixedToken text) q = (free_in (text ∷ []), cell.free_no_fixed_token text)

row_names : (second : ValueClass) → IsProper second → Tells Names second (uncovered Names second)
row_names Any q = λ v h. refl
row_names Name q = (cell.two_names, cell.two_no_name)
row_names Names q = λ v h. h
row_names Nmtoken q = (cell.two_names, cell.two_no_nmtoken)
row_names Nmtokens q = names_nmtokens
row_names (Tokens others) q = (free_names others, cell.free_no_token others)
row_names (Fixed text) q = (free_names (text ∷ []), cell.free_no_fixed text)
row_names (FixedToken text) q = (free_names (text ∷ []), cell.free_no_fixed_token text)

row_nmtoken : (second : ValueClass) → IsProper second → Tells Nmtoken second (uncovered Nmtoken second)
row_nmtoken Any q = λ v h. refl
row_nmtoken Name q = (cell.one_nmtoken, cell.one_no_name)
row_nmtoken Names q = (cell.one_nmtoken, cell.one_no_names)
row_nmtoken Nmtoken q = λ v h. h
row_nmtoken Nmtokens q = nmtoken_nmtokens
row_nmtoken (Tokens others) q = (free_nmtoken others, cell.free_no_token others)
row_nmtoken (Fixed text) q = (free_nmtoken (text ∷ []), cell.free_no_fixed text)
row_nmtoken (FixedToken text) q = (free_nmtoken (text ∷ []), cell.free_no_fixed_token text)

row_nmtokens : (second : ValueClass) → IsProper second → Tells Nmtokens second (uncovered Nmtokens second)
row_nmtokens Any q = λ v h. refl
row_nmtokens Name q = (nmtoken_nmtokens (codes "1") cell.one_nmtoken, cell.one_no_name)
row_nmtokens Names q = (nmtoken_nmtokens (codes "1") cell.one_nmtoken, cell.one_no_names)
row_nmtokens Nmtoken q = (names_nmtokens (codes "a a") cell.two_names, cell.two_no_nmtoken)
row_nmtokens Nmtokens q = λ v h. h
row_nmtokens (Tokens others) q = (free_nmtokens others, cell.free_no_token others)
row_nmtokens (Fixed text) q = (free_nmtokens (text ∷ []), cell.free_no_fixed text)
row_nmtokens (FixedToken text) q = (free_nmtokens (text ∷ []), cell.free_no_fixed_token text)

row_tokens : (tokens : List (List ℕ)) (second : ValueClass) → IsProper (Tokens tokens) → IsProper second → Tells (Tokens tokens) second (uncovered (Tokens tokens) second)
row_tokens tokens Any p q = λ v h. refl
row_tokens tokens Name p q = cell.tokens_name tokens p
row_tokens tokens Names p q = cell.tokens_names tokens p
row_tokens tokens Nmtoken p q = cell.tokens_nmtoken tokens p
row_tokens tokens Nmtokens p q = cell.tokens_nmtokens tokens p
row_tokens tokens (Tokens others) p q = cell.tokens_tokens tokens others p
row_tokens tokens (Fixed text) p q = cell.tokens_fixed tokens text p
row_tokens tokens (FixedToken text) p q = cell.tokens_fixed_token tokens text p

row_fixed : (text : List ℕ) (second : ValueClass) → Tells (Fixed text) second (uncovered (Fixed text) second)
row_fixed text Any = λ v h. refl
row_fixed text Name = cell.fixed_out text Name
row_fixed text Names = cell.fixed_out text Names
row_fixed text Nmtoken = cell.fixed_out text Nmtoken
row_fixed text Nmtokens = cell.fixed_out text Nmtokens
row_fixed text (Tokens others) = cell.fixed_out text (Tokens others)
row_fixed text (Fixed other) = cell.fixed_out text (Fixed other)
row_fixed text (FixedToken other) = cell.fixed_out text (FixedToken other)

row_fixed_token : (text : List ℕ) (second : ValueClass) → IsProper (FixedToken text) → Tells (FixedToken text) second (uncovered (FixedToken text) second)
row_fixed_token text Any p = λ v h. refl
row_fixed_token text Name p = cell.fixed_token_out text Name p (λ v w e. ap is_name e)
row_fixed_token text Names p = cell.fixed_token_out text Names p (λ v w e. ap is_names e)
row_fixed_token text Nmtoken p = cell.fixed_token_out text Nmtoken p (λ v w e. ap is_nmtoken e)
row_fixed_token text Nmtokens p = cell.fixed_token_out text Nmtokens p (λ v w e. ap is_nmtokens e)
row_fixed_token text (Tokens others) p = cell.fixed_token_out text (Tokens others) p (λ v w e. ap (among others) e)
row_fixed_token text (Fixed other) p = cell.fixed_token_fixed text other p
row_fixed_token text (FixedToken other) p = cell.fixed_token_out text (FixedToken other) p (λ v w e. ap (λ (t : List ℕ). bytes_eq t other) e)

pub uncovered_tells : (first second : ValueClass) → IsProper first → IsProper second → Tells first second (uncovered first second)
uncovered_tells Any second p q = row_any second q
uncovered_tells Name second p q = row_name second q
uncovered_tells Names second p q = row_names second q
uncovered_tells Nmtoken second p q = row_nmtoken second q
uncovered_tells Nmtokens second p q = row_nmtokens second q
uncovered_tells (Tokens tokens) second p q = row_tokens tokens second p q
uncovered_tells (Fixed text) second p q = row_fixed text second
uncovered_tells (FixedToken text) second p q = row_fixed_token text second p

-- no token that fails is found exactly where all pass
pub none_found : (p : List ℕ → Bool) (xs : List (List ℕ)) → is_none (find (λ x. not (p x)) xs) ≡ list_all p xs
none_found p [] = refl
none_found p (x ∷ xs) =
    let Q : Bool → Type 0 = λ b. is_none (cond (not b) (Some x) (find (λ y. not (p y)) xs)) ≡ (b && list_all p xs) in
    on_test Q (p x) (λ e. none_found p xs) (λ e. refl)

-- nothing is told exactly where the second class has every value of the first
covers_none : (first second : ValueClass) (o : Uncovered) → Tells first second o → (is_none o ≡ true) ↔ Covers first second
covers_none first second None t = (λ e. t, λ c. refl)
covers_none first second (Some v) t = (λ e. absurd (both_ways false refl e), λ c. absurd (both_ways (in_class second v) t.1 (c v t.0)))

pub covers_told : (first second : ValueClass) → IsProper first → IsProper second → IsTrue (is_none (uncovered first second)) ↔ Covers first second
covers_told first second p q = covers_none first second (uncovered first second) (uncovered_tells first second p q)

-- what the answer of the table tells
pub told_by : (first second : ValueClass) (r : Result Uncovered NoMemory) → IsProper first → IsProper second → IfOk r (λ o. o ≡ uncovered first second) → IfOk r (λ o. Tells first second o)
told_by first second (Ok o) p q e = subst (Tells first second) (sym e) (uncovered_tells first second p q)
told_by first second (Err e) p q h = tt

pub none_by : (first second : ValueClass) (r : Result Uncovered NoMemory) → IsProper first → IsProper second → IfOk r (λ o. o ≡ uncovered first second) → IfOk r (λ o. IsTrue (is_none o) ↔ Covers first second)
none_by first second (Ok o) p q e = let P : Uncovered → Type 0 = λ x. IsTrue (is_none x) ↔ Covers first second in subst P (sym e) (covers_told first second p q)
none_by first second (Err e) p q h = tt
