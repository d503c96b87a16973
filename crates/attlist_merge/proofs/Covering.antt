-- Where nothing is odd, each list of values goes over.
use Rattle.std.proofs.Common.{◌≡◌, ◌∙◌, ℕ, Bool, true, false, cond, not, ◌||◌, ◌&&◌, List, [], ◌∷◌, refl, sym, ap, subst, Some, None, bytes_eq, IsTrue}
use Rattle.std.specs.Prelude.{Option, option_map, is_none, ◌↔◌}
use Rattle.std.specs.List.{list_any, list_all}
use Rattle.std.specs.Option.{option_map_or, option_or}
use Rattle.std.proofs.lemmas.Bool.{both_ways, and_parts, and_from}
use Rattle.attribute_types.specs.Classes.{in_class}
use Rattle.attribute_types.specs.Table as table
use Rattle.attribute_types.specs.Table.{Uncovered, uncovered}
use Rattle.attribute_types.proofs.TextTests.{on_test, bytes_same}
use Rattle.attribute_types.proofs.Uncovering.{uncovered_tells, covers_told}
use Rattle.attribute_types.specs.Covers.{Covers}
use Rattle.attlist_merge.specs.declared.list.Definition.{Definition}
use Rattle.attlist_merge.specs.declared.odd.OddAtt.{OddAtt}
use Rattle.attlist_merge.specs.declared.odd.OddAtt.TheVariants as odd
use Rattle.attlist_merge.specs.Lists.{Entry, Definitions, definition_of, is_required, IsSound, IsKept}
use Rattle.attlist_merge.specs.Values.{Values, is_allowed, is_given, CoversList}
use Rattle.attlist_merge.specs.Oddness.{first_some, against, odd_value, requires, odd_missing, odd_of}
use Rattle.attlist_merge.proofs.Kept.{sound_found}

pub or_none : {Y : Type 0} (a b : Option Y) → option_or a b ≡ None → (a ≡ None) × (b ≡ None)
or_none None b h = (refl, h)
or_none (Some y) b h = cc

-- an entry that is found gives nothing where none does
pub none_found : (f : Entry → Option OddAtt) (list : Definitions) (name : List ℕ) (d : Definition) → first_some f list ≡ None → definition_of list name ≡ Some d → f (name, d) ≡ None
none_found f [] name d none at = cc
none_found f (x ∷ xs) name d none at =
    let parts = or_none (f x) (first_some f xs) none in
    let Q : Bool → Type 0 = λ b. bytes_eq name x.0 ≡ b → cond b (Some x.1) (definition_of xs name) ≡ Some d → f (name, d) ≡ None in
    on_test Q (bytes_eq name x.0)
    (λ t e at. let same : x.1 ≡ d = cc in let R : List ℕ → Type 0 = λ n. f (n, d) ≡ None in let S : Definition → Type 0 = λ y. f (x.0, y) ≡ None in subst R (sym (bytes_same name x.0 e)) (subst S same parts.0))
    (λ t e at. none_found f xs name d parts.1 at)
    refl at

map_none : {X Y : Type 0} (f : X → Y) (o : Option X) → option_map f o ≡ None → o ≡ None
map_none f None h = refl
map_none f (Some x) h = cc

-- what the second declares of it has the value
allowed_against : (name value : List ℕ) (d : Definition) (o : Option Definition) → IsSound (name, d) → ((e : Definition) → o ≡ Some e → IsSound (name, e)) → against (name, d) o ≡ None → in_class d.class value ≡ true → option_map_or (λ e. in_class e.class value) o false ≡ true
allowed_against name value d None s t none inside = cc
allowed_against name value d (Some e) s t none inside =
    let nothing : uncovered d.class e.class ≡ None = map_none _ (uncovered d.class e.class) none in
    subst (table.Tells d.class e.class) nothing (uncovered_tells d.class e.class s.proper (t e refl).proper) value inside

allowed_one : (first second : Definitions) → IsKept first → IsKept second → first_some (odd_value second) first ≡ None → (p : List ℕ × List ℕ) → is_allowed first p ≡ true → is_allowed second p ≡ true
allowed_one first second kf ks none p h = by (definition_of first p.0) refl h
  where
    by : (o : Option Definition) → definition_of first p.0 ≡ o → option_map_or (λ d. in_class d.class p.1) o false ≡ true → is_allowed second p ≡ true
    by None at h = cc
    by (Some d) at h =
        allowed_against p.0 p.1 d (definition_of second p.0) (sound_found first p.0 d kf.definitions at) (λ e found. sound_found second p.0 e ks.definitions found) (none_found (odd_value second) first p.0 d none at) h

all_weaker : {X : Type 0} (p q : X → Bool) → ((x : X) → p x ≡ true → q x ≡ true) → (xs : List X) → list_all p xs ≡ true → list_all q xs ≡ true
all_weaker p q leads [] h = h
all_weaker p q leads (x ∷ xs) h = and_from (q x) (list_all q xs) (leads x (and_parts (p x) (list_all p xs) h).0) (all_weaker p q leads xs (and_parts (p x) (list_all p xs) h).1)

-- a required attribute that is found is given
given_found : (values : Values) (list : Definitions) (name : List ℕ) (d : Definition) → list_all (is_given values) list ≡ true → definition_of list name ≡ Some d → is_given values (name, d) ≡ true
given_found values [] name d all at = cc
given_found values (x ∷ xs) name d all at =
    let parts = and_parts (is_given values x) (list_all (is_given values) xs) all in
    let Q : Bool → Type 0 = λ b. bytes_eq name x.0 ≡ b → cond b (Some x.1) (definition_of xs name) ≡ Some d → is_given values (name, d) ≡ true in
    on_test Q (bytes_eq name x.0)
    (λ t e at. let same : x.1 ≡ d = cc in let R : List ℕ → Type 0 = λ n. is_given values (n, d) ≡ true in let S : Definition → Type 0 = λ y. is_given values (x.0, y) ≡ true in subst R (sym (bytes_same name x.0 e)) (subst S same parts.0))
    (λ t e at. given_found values xs name d parts.1 at)
    refl at

-- one that the second requires is required by the first, so it is given
given_one : (values : Values) (first : Definitions) (e : Entry) → list_all (is_given values) first ≡ true → odd_missing first e ≡ None → is_given values e ≡ true
given_one values first e all none = by (is_required e.1.preset) none
  where
    found : Bool
    found = list_any (λ value. bytes_eq e.0 value.0) values

    given : (o : Option Definition) → definition_of first e.0 ≡ o → option_map_or (λ d. is_required d.preset) o false ≡ true → found ≡ true
    given None at h = cc
    given (Some d) at h = let g = given_found values first e.0 d all at in ap (λ b. not b || found) (sym h) ∙ g

    needed : (b : Bool) → cond (not b) (Some (odd.Missing e.0)) None ≡ None → b ≡ true
    needed true h = refl
    needed false h = cc

    by : (b : Bool) → cond (b && not (requires first e.0)) (Some (odd.Missing e.0)) None ≡ None → (not b || found) ≡ true
    by true h = given (definition_of first e.0) refl (needed (requires first e.0) h)
    by false h = refl

given_all : (values : Values) (first es : Definitions) → list_all (is_given values) first ≡ true → first_some (odd_missing first) es ≡ None → list_all (is_given values) es ≡ true
given_all values first [] all none = refl
given_all values first (e ∷ es) all none =
    let parts = or_none (odd_missing first e) (first_some (odd_missing first) es) none in
    and_from (is_given values e) (list_all (is_given values) es) (given_one values first e all parts.0) (given_all values first es all parts.1)

pub covers_list : (first second : Definitions) → IsKept first → IsKept second → odd_of first second ≡ None → CoversList first second
covers_list first second kf ks none values right =
    let parts = or_none (first_some (odd_value second) first) (first_some (odd_missing first) second) none in
    let halves = and_parts (list_all (is_allowed first) values) (list_all (is_given values) first) right in
    and_from (list_all (is_allowed second) values) (list_all (is_given values) second)
    (all_weaker (is_allowed first) (is_allowed second) (allowed_one first second kf ks parts.0) values halves.0)
    (given_all values first second halves.1 parts.1)

-- ---- what the test of one attribute tells

same_truth : (a b : Bool) (P : Type 0) → (a ≡ true) ↔ P → (b ≡ true) ↔ P → a ≡ b
same_truth true b P f g = sym (g.1 (f.0 refl))
same_truth false true P f g = absurd (both_ways false refl (f.1 (g.0 refl)))
same_truth false false P f g = refl

none_map : {X Y : Type 0} (f : X → Y) (o : Option X) → is_none (option_map f o) ≡ is_none o
none_map f None = refl
none_map f (Some x) = refl

pub covered_told : (name : List ℕ) (d : Definition) (second : Definitions) (e : Definition) (b : Bool) → IsSound (name, d) → IsSound (name, e) → definition_of second name ≡ Some e → IsTrue b ↔ Covers d.class e.class → b ≡ is_none (odd_value second (name, d))
covered_told name d second e b s t at told =
    same_truth b (is_none (uncovered d.class e.class)) (Covers d.class e.class) told (covers_told d.class e.class s.proper t.proper)
    ∙ (sym (none_map (λ value. odd.Value name value) (uncovered d.class e.class)) ∙ ap (λ o. is_none (against (name, d) o)) (sym at))
