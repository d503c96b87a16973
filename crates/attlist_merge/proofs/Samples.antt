-- The required attributes with their samples, and values that show an odd attribute: right, apart, and of Chars.
use Rattle.std.proofs.Common.{◌≡◌, ◌∙◌, ℕ, Bool, true, false, cond, not, ◌&&◌, List, [], ◌∷◌, length, refl, sym, subst, Some, None, bytes_eq, is_none, arith}
use Rattle.std.specs.Prelude.{◌==◌, Option, option_map}
use Rattle.std.specs.List.{list_all}
use Rattle.std.specs.Option.{option_or}
use Rattle.std.proofs.lemmas.Bool.{and_parts, and_from, ne_eqb}
use Rattle.std.proofs.lemmas.List.Folds.{list_all-append}
use Rattle.jats_chars.specs.Chars.{are_chars}
use Rattle.attribute_types.specs.declared.classes.ValueClass.{ValueClass}
use Rattle.attribute_types.specs.Chars.{has_chars, preset_has_chars, is_of_chars}
use Rattle.attribute_types.specs.Proper.{sample_of}
use Rattle.attribute_types.specs.Table.{Uncovered, uncovered}
use Rattle.attribute_types.proofs.OfChars.{class_of_chars, sample_of_chars, uncovered_of_chars}
use Rattle.attribute_types.proofs.TextTests.{on_test}
use Rattle.attlist_merge.specs.declared.list.Definition.{Definition}
use Rattle.attlist_merge.specs.declared.odd.OddAtt.{OddAtt}
use Rattle.attlist_merge.specs.declared.odd.OddAtt.TheVariants.{Undeclared, Value, Missing}
use Rattle.attlist_merge.specs.Lists.{Entry, Definitions, definition_of, is_required, IsSound, IsKept}
use Rattle.attlist_merge.specs.Oddness.{first_some, against, odd_value, odd_missing, requires, odd_of, odd_at, chosen, shown_by}
use Rattle.attlist_merge.specs.Shown.{classes_have_chars, odd_has_chars, values_have_chars, RequiredRight, RequiredHasChars, RequiredNamed, OddHasChars, ShownHasChars, ShownNamed}
use Rattle.attlist_merge.proofs.Showing.{right_first, none_fit, apart_all}

-- the samples of what is required are what shows a missing attribute
pub required_right : RequiredRight
required_right list kept = (right_first (Missing []) list kept (none_fit list []), apart_all (Missing []) list kept.names)

-- the class of a sound definition is of Chars where its value is
pub class_has_chars : (e : Entry) → IsSound e → preset_has_chars e.1.preset ≡ true → has_chars e.1.class ≡ true
class_has_chars e s p = subst (λ (c : ValueClass). has_chars c ≡ true) (sym s.class) (class_of_chars e.1.kind e.1.preset s.tokens p)

-- ---- an odd attribute

odd_value-chars : (second : Definitions) (e : Entry) → has_chars e.1.class ≡ true → (o : OddAtt) → odd_value second e ≡ Some o → odd_has_chars o ≡ true
odd_value-chars second e d o = by (definition_of second e.0)
  where
    from : (x : Uncovered) → is_of_chars x ≡ true → option_map (λ value. Value e.0 value) x ≡ Some o → odd_has_chars o ≡ true
    from None c h = cc
    from (Some v) c h = let same : Value e.0 v ≡ o = cc in subst (λ (x : OddAtt). odd_has_chars x ≡ true) same c

    by : (x : Option Definition) → against e x ≡ Some o → odd_has_chars o ≡ true
    by None h =
        let same : Undeclared e.0 (sample_of e.1.class) ≡ o = cc in
        subst (λ (x : OddAtt). odd_has_chars x ≡ true) same (sample_of_chars e.1.class d)
    by (Some x) h = from (uncovered e.1.class x.class) (uncovered_of_chars e.1.class x.class d) h

odd_values-chars : (second es : Definitions) → classes_have_chars es ≡ true → (o : OddAtt) → first_some (odd_value second) es ≡ Some o → odd_has_chars o ≡ true
odd_values-chars second [] d o h = cc
odd_values-chars second (e ∷ es) d o h = by (odd_value second e) refl (λ k. odd_values-chars second es p.1 o k) h
  where
    p : (has_chars e.1.class ≡ true) × (classes_have_chars es ≡ true)
    p = and_parts (has_chars e.1.class) (classes_have_chars es) d

    by : (x : Option OddAtt) → odd_value second e ≡ x → (first_some (odd_value second) es ≡ Some o → odd_has_chars o ≡ true)
        → option_or x (first_some (odd_value second) es) ≡ Some o → odd_has_chars o ≡ true
    by None q rest h = rest h
    by (Some y) q rest h = odd_value-chars second e p.0 o (q ∙ h)

missing-chars : (r q : Bool) (n : List ℕ) (o : OddAtt) → cond (r && not q) (Some (Missing n)) None ≡ Some o → odd_has_chars o ≡ true
missing-chars true true n o h = cc
missing-chars true false n o h = let same : Missing n ≡ o = cc in subst (λ (x : OddAtt). odd_has_chars x ≡ true) same refl
missing-chars false q n o h = cc

odd_missings-chars : (first es : Definitions) (o : OddAtt) → first_some (odd_missing first) es ≡ Some o → odd_has_chars o ≡ true
odd_missings-chars first [] o h = cc
odd_missings-chars first (e ∷ es) o h = by (odd_missing first e) refl (λ k. odd_missings-chars first es o k) h
  where
    by : (x : Option OddAtt) → odd_missing first e ≡ x → (first_some (odd_missing first) es ≡ Some o → odd_has_chars o ≡ true)
        → option_or x (first_some (odd_missing first) es) ≡ Some o → odd_has_chars o ≡ true
    by None q rest h = rest h
    by (Some y) q rest h = missing-chars (is_required e.1.preset) (requires first e.0) e.0 o (q ∙ h)

pub odd_of_chars : OddHasChars
odd_of_chars first second o d h = by (first_some (odd_value second) first) refl h
  where
    by : (x : Option OddAtt) → first_some (odd_value second) first ≡ x → option_or x (first_some (odd_missing first) second) ≡ Some o → odd_has_chars o ≡ true
    by None q h = odd_missings-chars first second o h
    by (Some y) q h = odd_values-chars second first d o (q ∙ h)

-- ---- values that show it

at-chars : (o : OddAtt) (name v : List ℕ) → odd_has_chars o ≡ true → odd_at o name ≡ Some v → are_chars v ≡ true
at-chars (Undeclared n w) name v c h = by (bytes_eq name n) h
  where
    by : (b : Bool) → cond b (Some w) None ≡ Some v → are_chars v ≡ true
    by true h = let same : w ≡ v = cc in subst (λ (x : List ℕ). are_chars x ≡ true) same c
    by false h = cc
at-chars (Value n w) name v c h = by (bytes_eq name n) h
  where
    by : (b : Bool) → cond b (Some w) None ≡ Some v → are_chars v ≡ true
    by true h = let same : w ≡ v = cc in subst (λ (x : List ℕ). are_chars x ≡ true) same c
    by false h = cc
at-chars (Missing n) name v c h = cc

chosen-chars : (e : Entry) → has_chars e.1.class ≡ true → (x : Option (List ℕ)) → ((v : List ℕ) → x ≡ Some v → are_chars v ≡ true) → values_have_chars (chosen x e) ≡ true
chosen-chars e d (Some v) c = and_from (are_chars v) true (c v refl) refl
chosen-chars e d None c =
    let Q : Bool → Type 0 = λ b. values_have_chars (cond b ((e.0, sample_of e.1.class) ∷ []) []) ≡ true in
    on_test Q (is_required e.1.preset)
    (λ t. and_from (are_chars (sample_of e.1.class)) true (sample_of_chars e.1.class d) refl)
    (λ t. refl)

pub shown_of_chars : ShownHasChars
shown_of_chars o [] c d = refl
shown_of_chars o (e ∷ es) c d =
    let p = and_parts (has_chars e.1.class) (classes_have_chars es) d in
    list_all-append (λ value. are_chars value.1) (chosen (odd_at o e.0) e) (shown_by o es)
    ∙ and_from (values_have_chars (chosen (odd_at o e.0) e)) (values_have_chars (shown_by o es))
    (chosen-chars e p.0 (odd_at o e.0) (λ v h. at-chars o e.0 v c h)) (shown_of_chars o es c p.1)

chosen-named : (p : List ℕ → Bool) (e : Entry) → p e.0 ≡ true → (x : Option (List ℕ)) → list_all (λ value. p value.0) (chosen x e) ≡ true
chosen-named p e h (Some v) = and_from (p e.0) true h refl
chosen-named p e h None =
    let Q : Bool → Type 0 = λ b. list_all (λ (value : List ℕ × List ℕ). p value.0) (cond b ((e.0, sample_of e.1.class) ∷ []) []) ≡ true in
    on_test Q (is_required e.1.preset) (λ t. and_from (p e.0) true h refl) (λ t. refl)

pub shown_named : ShownNamed
shown_named p o [] h = refl
shown_named p o (e ∷ es) h =
    let q = and_parts (p e.0) (list_all (λ (e : Entry). p e.0) es) h in
    list_all-append (λ value. p value.0) (chosen (odd_at o e.0) e) (shown_by o es)
    ∙ and_from (list_all (λ (value : List ℕ × List ℕ). p value.0) (chosen (odd_at o e.0) e)) (list_all (λ (value : List ℕ × List ℕ). p value.0) (shown_by o es))
    (chosen-named p e q.0 (odd_at o e.0)) (shown_named p o es q.1)

pub required_of_chars : RequiredHasChars
required_of_chars list d = shown_of_chars (Missing []) list refl d

pub required_named : RequiredNamed
required_named p list h = shown_named p (Missing []) list h

-- ---- elements without a list

-- against no list each attribute is odd
pub odd_alone : (list : Definitions) → (length list == 0) ≡ is_none (odd_of list [])
odd_alone [] = refl
odd_alone (e ∷ es) = ne_eqb (length (e ∷ es)) 0 (λ h. absurd (omega (arith, h)))

pub nothing_kept : IsKept []
nothing_kept = record { names = refl; definitions = tt; ids = refl; notations = refl }
