-- Where something is odd, values show it.
use Rattle.std.proofs.Common.{◌≡◌, ◌∙◌, ℕ, Bool, true, false, cond, not, ◌||◌, ◌&&◌, List, [], ◌∷◌, ◌++◌, refl, sym, ap, subst, Some, None, bytes_eq, is_none, IsTrue}
use Rattle.std.specs.Prelude.{Option, option_map, Result, Ok, Err, IfOk, ◌↔◌}
use Rattle.jats_chars.specs.declared.NoMemory.{NoMemory}
use Rattle.std.specs.List.{list_any, list_all, flat_map, AllByRecursion}
use Rattle.std.specs.Option.{option_map_or, option_or}
use Rattle.std.proofs.lemmas.Bool.{both_ways, and_parts, and_from, or_left, or_right}
use Rattle.std.proofs.lemmas.List.Folds.{list_all-append, list_any-append}
use Rattle.attribute_types.specs.Classes.{in_class}
use Rattle.attribute_types.specs.Proper.{sample_of}
use Rattle.attribute_types.specs.Table as table
use Rattle.attribute_types.specs.Table.{Uncovered, uncovered}
use Rattle.attribute_types.proofs.TextTests.{on_test, bytes_same, bytes_own}
use Rattle.attribute_types.proofs.Cells.{sample_in}
use Rattle.attribute_types.proofs.Uncovering.{uncovered_tells}
use Rattle.attlist_merge.specs.declared.list.Definition.{Definition}
use Rattle.attlist_merge.specs.declared.odd.OddAtt.{OddAtt}
use Rattle.attlist_merge.specs.declared.odd.OddAtt.TheVariants.{Undeclared, Value, Missing}
use Rattle.attlist_merge.specs.Lists.{Entry, Definitions, definition_of, is_required, IsSound, IsKept, are_distinct}
use Rattle.attlist_merge.specs.Values.{Values, is_allowed, is_given, is_right, CoversList, are_apart}
use Rattle.attlist_merge.specs.Oddness.{first_some, against, odd_value, requires, odd_missing, odd_of, odd_at, chosen, shown_by, Tells}
use Rattle.attlist_merge.proofs.Kept.{sound_found}
use Rattle.attlist_merge.proofs.Covering.{covers_list}

-- ---- each entry is found under its name

abbrev pub IsFound : Definitions → Entry → Type 0
IsFound list e = definition_of list e.0 ≡ Some e.1

found_later : (y : Entry) (ys : Definitions) → definition_of ys y.0 ≡ None → (x : Entry) → IsFound ys x → IsFound (y ∷ ys) x
found_later y ys none x found =
    let Q : Bool → Type 0 = λ b. bytes_eq x.0 y.0 ≡ b → cond b (Some y.1) (definition_of ys x.0) ≡ Some x.1 in
    let R : List ℕ → Type 0 = λ n. definition_of ys n ≡ None in
    on_test Q (bytes_eq x.0 y.0)
    (λ t e. let off : definition_of ys x.0 ≡ None = subst R (sym (bytes_same x.0 y.0 e)) none in cc)
    (λ t e. found)
    refl

all_mapped : (P Q : Entry → Type 0) → ((x : Entry) → P x → Q x) → (xs : Definitions) → AllByRecursion P xs → AllByRecursion Q xs
all_mapped P Q f [] h = tt
all_mapped P Q f (x ∷ xs) h = (f x h.0, all_mapped P Q f xs h.1)

is_none-none : (o : Option Definition) → is_none o ≡ true → o ≡ None
is_none-none None h = refl
is_none-none (Some d) h = absurd (both_ways false refl h)

all_found : (list : Definitions) → are_distinct list ≡ true → AllByRecursion (IsFound list) list
all_found [] d = tt
all_found (y ∷ ys) d =
    let parts = and_parts (is_none (definition_of ys y.0)) (are_distinct ys) d in (
      ap (λ b. cond b (Some y.1) (definition_of ys y.0)) (bytes_own y.0),
      all_mapped (IsFound ys) (IsFound (y ∷ ys)) (found_later y ys (is_none-none (definition_of ys y.0) parts.0)) ys (all_found ys parts.1),
    )

-- ---- right by the first

-- where the value that shows it stands, it is in the class
abbrev pub IsFit : Definitions → OddAtt → Type 0
IsFit first o = (e : Entry) → IsFound first e → (v : List ℕ) → odd_at o e.0 ≡ Some v → in_class e.1.class v ≡ true

allowed_chosen : (first : Definitions) (e : Entry) (o : Option (List ℕ)) → IsFound first e → IsSound e → ((v : List ℕ) → o ≡ Some v → in_class e.1.class v ≡ true) → list_all (is_allowed first) (chosen o e) ≡ true
allowed_chosen first e (Some v) found s fit =
    and_from (is_allowed first (e.0, v)) true (ap (λ x. option_map_or (λ d. in_class d.class v) x false) found ∙ fit v refl) refl
allowed_chosen first e None found s fit =
    let Q : Bool → Type 0 = λ b. list_all (is_allowed first) (cond b ((e.0, sample_of e.1.class) ∷ []) []) ≡ true in
    on_test Q (is_required e.1.preset)
    (λ t. and_from (is_allowed first (e.0, sample_of e.1.class)) true (ap (λ x. option_map_or (λ d. in_class d.class (sample_of e.1.class)) x false) found ∙ sample_in e.1.class s.proper) refl)
    (λ t. refl)

module _ (o : OddAtt) where
  abbrev pub pick : Entry → Values
  pick e = chosen (odd_at o e.0) e

  abbrev pub picked : Definitions → Values
  picked es = flat_map pick es

  allowed_all : (first es : Definitions) → IsFit first o → AllByRecursion (IsFound first) es → AllByRecursion IsSound es → list_all (is_allowed first) (picked es) ≡ true
  allowed_all first [] fit found sound = refl
  allowed_all first (e ∷ es) fit found sound =
      list_all-append (is_allowed first) (pick e) (picked es)
      ∙ and_from (list_all (is_allowed first) (pick e)) (list_all (is_allowed first) (picked es)) (allowed_chosen first e (odd_at o e.0) found.0 sound.0 (fit e found.0)) (allowed_all first es fit found.1 sound.1)

  chosen_named : (e : Entry) (x : Option (List ℕ)) → is_required e.1.preset ≡ true → list_any (λ value. bytes_eq e.0 value.0) (chosen x e) ≡ true
  chosen_named e (Some v) r = ap (λ b. b || false) (bytes_own e.0)
  chosen_named e None r = ap (λ b. list_any (λ (value : List ℕ × List ℕ). bytes_eq e.0 value.0) (cond b ((e.0, sample_of e.1.class) ∷ []) [])) r ∙ ap (λ b. b || false) (bytes_own e.0)

  given_more : (front values : Values) (x : Entry) → is_given values x ≡ true → is_given (front ++ values) x ≡ true
  given_more front values x h =
      let Q : Bool → Type 0 = λ b. (not b || list_any (λ value. bytes_eq x.0 value.0) values) ≡ true → (not b || list_any (λ value. bytes_eq x.0 value.0) (front ++ values)) ≡ true in
      on_test Q (is_required x.1.preset)
      (λ t h. list_any-append (λ value. bytes_eq x.0 value.0) front values ∙ or_right (list_any (λ value. bytes_eq x.0 value.0) front) (list_any (λ value. bytes_eq x.0 value.0) values) h)
      (λ t h. refl)
      h

  all_more : (front values : Values) (xs : Definitions) → list_all (is_given values) xs ≡ true → list_all (is_given (front ++ values)) xs ≡ true
  all_more front values [] h = refl
  all_more front values (x ∷ xs) h =
      let parts = and_parts (is_given values x) (list_all (is_given values) xs) h in
      and_from (is_given (front ++ values) x) (list_all (is_given (front ++ values)) xs) (given_more front values x parts.0) (all_more front values xs parts.1)

  given_here : (e : Entry) (rest : Values) → is_given (pick e ++ rest) e ≡ true
  given_here e rest =
      let Q : Bool → Type 0 = λ b. is_required e.1.preset ≡ b → (not b || list_any (λ value. bytes_eq e.0 value.0) (pick e ++ rest)) ≡ true in
      on_test Q (is_required e.1.preset)
      (λ t r. list_any-append (λ value. bytes_eq e.0 value.0) (pick e) rest ∙ or_left (list_any (λ value. bytes_eq e.0 value.0) (pick e)) (list_any (λ value. bytes_eq e.0 value.0) rest) (chosen_named e (odd_at o e.0) r))
      (λ t r. refl)
      refl

  given_all : (es : Definitions) → list_all (is_given (picked es)) es ≡ true
  given_all [] = refl
  given_all (e ∷ es) = and_from (is_given (pick e ++ picked es) e) (list_all (is_given (pick e ++ picked es)) es) (given_here e (picked es)) (all_more (pick e) (picked es) es (given_all es))

  -- ---- no name stands twice

  chosen_other : (n : List ℕ) (e : Entry) (x : Option (List ℕ)) → bytes_eq n e.0 ≡ false → list_any (λ value. bytes_eq n value.0) (chosen x e) ≡ false
  chosen_other n e (Some v) off = ap (λ b. b || false) off
  chosen_other n e None off =
      let Q : Bool → Type 0 = λ b. list_any (λ (value : List ℕ × List ℕ). bytes_eq n value.0) (cond b ((e.0, sample_of e.1.class) ∷ []) []) ≡ false in
      on_test Q (is_required e.1.preset) (λ t. ap (λ b. b || false) off) (λ t. refl)

  both_off : (a b : Bool) → a ≡ false → b ≡ false → (a || b) ≡ false
  both_off a b e f = ap (λ x. x || b) e ∙ f

  none_named : (n : List ℕ) (es : Definitions) → definition_of es n ≡ None → list_any (λ value. bytes_eq n value.0) (picked es) ≡ false
  none_named n [] none = refl
  none_named n (e ∷ es) none =
      let Q : Bool → Type 0 = λ b. bytes_eq n e.0 ≡ b → cond b (Some e.1) (definition_of es n) ≡ None → list_any (λ value. bytes_eq n value.0) (pick e ++ picked es) ≡ false in
      on_test Q (bytes_eq n e.0)
      (λ t b h. cc)
      (λ t b h. list_any-append (λ value. bytes_eq n value.0) (pick e) (picked es) ∙ both_off (list_any (λ value. bytes_eq n value.0) (pick e)) (list_any (λ value. bytes_eq n value.0) (picked es)) (chosen_other n e (odd_at o e.0) b) (none_named n es h))
      refl none

  apart_chosen : (e : Entry) (x : Option (List ℕ)) (rest : Values) → list_any (λ value. bytes_eq e.0 value.0) rest ≡ false → are_apart rest ≡ true → are_apart (chosen x e ++ rest) ≡ true
  apart_chosen e (Some v) rest off h = and_from (not (list_any (λ value. bytes_eq e.0 value.0) rest)) (are_apart rest) (ap not off) h
  apart_chosen e None rest off h =
      let Q : Bool → Type 0 = λ b. are_apart (cond b ((e.0, sample_of e.1.class) ∷ []) [] ++ rest) ≡ true in
      on_test Q (is_required e.1.preset) (λ t. and_from (not (list_any (λ value. bytes_eq e.0 value.0) rest)) (are_apart rest) (ap not off) h) (λ t. h)

  pub apart_all : (es : Definitions) → are_distinct es ≡ true → are_apart (picked es) ≡ true
  apart_all [] d = refl
  apart_all (e ∷ es) d =
      let parts = and_parts (is_none (definition_of es e.0)) (are_distinct es) d in
      apart_chosen e (odd_at o e.0) (picked es) (none_named e.0 es (is_none-none (definition_of es e.0) parts.0)) (apart_all es parts.1)

  pub right_first : (first : Definitions) → IsKept first → IsFit first o → is_right first (picked first) ≡ true
  right_first first kept fit =
      and_from (list_all (is_allowed first) (picked first)) (list_all (is_given (picked first)) first)
      (allowed_all first first fit (all_found first kept.names) kept.definitions) (given_all first)

  -- ---- wrong by the second

  and_off : (a b : Bool) → b ≡ false → (a && b) ≡ false
  and_off true b e = e
  and_off false b e = refl

  -- a value that is not allowed stands among them
  stands : (second : Definitions) (n v : List ℕ) → ((m : List ℕ) → bytes_eq n m ≡ true → odd_at o m ≡ Some v) → is_allowed second (n, v) ≡ false → (es : Definitions) (d : Definition) → definition_of es n ≡ Some d → list_all (is_allowed second) (picked es) ≡ false
  stands second n v hit off [] d at = cc
  stands second n v hit off (e ∷ es) d at =
      let Q : Bool → Type 0 = λ b. bytes_eq n e.0 ≡ b → cond b (Some e.1) (definition_of es n) ≡ Some d → list_all (is_allowed second) (pick e ++ picked es) ≡ false in
      let R : List ℕ → Type 0 = λ m. is_allowed second (m, v) ≡ false in
      on_test Q (bytes_eq n e.0)
      (λ t b h. ap (λ x. list_all (is_allowed second) (chosen x e ++ picked es)) (hit e.0 b) ∙ ap (λ x. x && list_all (is_allowed second) (picked es)) (subst R (bytes_same n e.0 b) off))
      (λ t b h. list_all-append (is_allowed second) (pick e) (picked es) ∙ and_off (list_all (is_allowed second) (pick e)) (list_all (is_allowed second) (picked es)) (stands second n v hit off es d h))
      refl at

-- ---- the attribute by which it is odd

record OddEntry (first second : Definitions) (o : OddAtt) : Type 0 where
  e : Entry
  found : IsFound first e
  sound : IsSound e
  is : odd_value second e ≡ Some o

odd_entry : (first second es : Definitions) (o : OddAtt) → AllByRecursion (IsFound first) es → AllByRecursion IsSound es → first_some (odd_value second) es ≡ Some o → OddEntry first second o
odd_entry first second [] o found sound h = cc
odd_entry first second (e ∷ es) o found sound h = by (odd_value second e) refl h (λ k. odd_entry first second es o found.1 sound.1 k)
  where
    by : (x : Option OddAtt) → odd_value second e ≡ x → option_or x (first_some (odd_value second) es) ≡ Some o → (first_some (odd_value second) es ≡ Some o → OddEntry first second o) → OddEntry first second o
    by None at k rest = rest k
    by (Some y) at k rest = record { e = e; found = found.0; sound = sound.0; is = at ∙ k }

-- a value at one name is in the class of the attribute of that name
fit_value : (first : Definitions) (n v : List ℕ) (d : Definition) → definition_of first n ≡ Some d → in_class d.class v ≡ true → (e : Entry) → IsFound first e → (w : List ℕ) → cond (bytes_eq e.0 n) (Some v) None ≡ Some w → in_class e.1.class w ≡ true
fit_value first n v d at inside e found w h =
    let Q : Bool → Type 0 = λ b. bytes_eq e.0 n ≡ b → cond b (Some v) None ≡ Some w → in_class e.1.class w ≡ true in
    let R : List ℕ → Type 0 = λ m. definition_of first m ≡ Some e.1 in
    let S : Definition → List ℕ → Type 0 = λ x y. in_class x.class y ≡ true in
    on_test Q (bytes_eq e.0 n)
    (λ t b h. let there : definition_of first n ≡ Some e.1 = subst R (bytes_same e.0 n b) found in let same : d ≡ e.1 = cc in let value : v ≡ w = cc in subst (λ (y : List ℕ). S e.1 y) value (subst (λ (x : Definition). S x v) same inside))
    (λ t b h. cc)
    refl h

hit_value : (n v m : List ℕ) → bytes_eq n m ≡ true → cond (bytes_eq m n) (Some v) None ≡ Some v
hit_value n v m b = let R : List ℕ → Type 0 = λ x. cond (bytes_eq x n) (Some v) None ≡ Some v in subst R (bytes_same n m b) (ap (λ c. cond c (Some v) None) (bytes_own n))

-- values with one at a name that is right by the first and not allowed by the second
shows_value : (first second : Definitions) (o : OddAtt) (n v : List ℕ) (d : Definition) → IsKept first → ((m : List ℕ) → odd_at o m ≡ cond (bytes_eq m n) (Some v) None) → definition_of first n ≡ Some d → in_class d.class v ≡ true → is_allowed second (n, v) ≡ false → Tells first second (Some o)
shows_value first second o n v d kept at found inside off = (
  right_first o first kept (λ e f w h. fit_value first n v d found inside e f w (sym (at e.0) ∙ h)),
  ap (λ b. b && list_all (is_given (picked o first)) second) (stands o second n v (λ m b. at m ∙ hit_value n v m b) off first d found),
  apart_all o first kept.names,
)

told_against : (first second : Definitions) (e : Entry) (x : Option Definition) (o : OddAtt) → IsKept first → IsKept second → IsFound first e → IsSound e → definition_of second e.0 ≡ x → against e x ≡ Some o → Tells first second (Some o)
told_against first second e None o kf ks found sound at is =
    let same : Undeclared e.0 (sample_of e.1.class) ≡ o = cc in
    let P : OddAtt → Type 0 = λ y. Tells first second (Some y) in
    subst P same (shows_value first second (Undeclared e.0 (sample_of e.1.class)) e.0 (sample_of e.1.class) e.1 kf (λ m. refl) found (sample_in e.1.class sound.proper) (ap (λ y. option_map_or (λ d. in_class d.class (sample_of e.1.class)) y false) at))
told_against first second e (Some d) o kf ks found sound at is = by (uncovered e.1.class d.class) is (uncovered_tells e.1.class d.class sound.proper (sound_found second e.0 d ks.definitions at).proper)
  where
    P : OddAtt → Type 0
    P y = Tells first second (Some y)

    by : (x : Uncovered) → option_map (λ value. Value e.0 value) x ≡ Some o → table.Tells e.1.class d.class x → Tells first second (Some o)
    by None is told = cc
    by (Some v) is told =
        let same : Value e.0 v ≡ o = cc in
        subst P same (shows_value first second (Value e.0 v) e.0 v e.1 kf (λ m. refl) found told.0 (ap (λ y. option_map_or (λ c. in_class c.class v) y false) at ∙ told.1))

-- ---- a required attribute that is missing

-- none of the values has a name that the first does not require
not_given : (first : Definitions) (n : List ℕ) (es : Definitions) → requires first n ≡ false → AllByRecursion (IsFound first) es → list_any (λ value. bytes_eq n value.0) (picked (Missing n) es) ≡ false
not_given first n [] none found = refl
not_given first n (e ∷ es) none found =
    let Q : Bool → Type 0 = λ b. is_required e.1.preset ≡ b → list_any (λ value. bytes_eq n value.0) (cond b ((e.0, sample_of e.1.class) ∷ []) [] ++ picked (Missing n) es) ≡ false in
    let rest = not_given first n es none found.1 in
    on_test Q (is_required e.1.preset)
    (λ t r. ap (λ b. b || list_any (λ value. bytes_eq n value.0) (picked (Missing n) es)) (apart r) ∙ rest)
    (λ t r. rest)
    refl
  where
    apart : is_required e.1.preset ≡ true → bytes_eq n e.0 ≡ false
    apart r =
        let Q : Bool → Type 0 = λ b. bytes_eq n e.0 ≡ b → b ≡ false in
        let R : List ℕ → Type 0 = λ m. definition_of first m ≡ Some e.1 in
        on_test Q (bytes_eq n e.0)
        (λ t b. absurd (both_ways (requires first n) none (ap (λ o. option_map_or (λ d. is_required d.preset) o false) (subst R (sym (bytes_same n e.0 b)) found.0) ∙ r)))
        (λ t b. refl)
        refl

missing_parts : (r q : Bool) (n : List ℕ) (o : OddAtt) → cond (r && not q) (Some (Missing n)) None ≡ Some o → (r ≡ true) × (q ≡ false) × (Missing n ≡ o)
missing_parts true true n o h = cc
missing_parts true false n o h = (refl, refl, let same : Missing n ≡ o = cc in same)
missing_parts false q n o h = cc

pub none_fit : (first : Definitions) (n : List ℕ) → IsFit first (Missing n)
none_fit first n e found v h = cc

told_missing : (first second es : Definitions) (o : OddAtt) → IsKept first → first_some (odd_missing first) es ≡ Some o → IsTrue (is_right first (shown_by o first)) × (list_all (is_given (shown_by o first)) es ≡ false) × IsTrue (are_apart (shown_by o first))
told_missing first second [] o kf h = cc
told_missing first second (e ∷ es) o kf h = by (odd_missing first e) refl h (λ k. told_missing first second es o kf k)
  where
    Shown : OddAtt → Definitions → Type 0
    Shown y xs = IsTrue (is_right first (shown_by y first)) × (list_all (is_given (shown_by y first)) xs ≡ false) × IsTrue (are_apart (shown_by y first))

    and_off : (a b : Bool) → b ≡ false → (a && b) ≡ false
    and_off true b e = e
    and_off false b e = refl

    here : is_required e.1.preset ≡ true → requires first e.0 ≡ false → Shown (Missing e.0) (e ∷ es)
    here r q = (
      right_first (Missing e.0) first kf (none_fit first e.0),
      ap (λ b. (not b || list_any (λ value. bytes_eq e.0 value.0) (shown_by (Missing e.0) first)) && list_all (is_given (shown_by (Missing e.0) first)) es) r
          ∙ ap (λ b. b && list_all (is_given (shown_by (Missing e.0) first)) es) (not_given first e.0 first q (all_found first kf.names)),
      apart_all (Missing e.0) first kf.names,
    )

    by : (x : Option OddAtt) → odd_missing first e ≡ x → option_or x (first_some (odd_missing first) es) ≡ Some o → (first_some (odd_missing first) es ≡ Some o → Shown o es) → Shown o (e ∷ es)
    by None at k rest = let s = rest k in (s.0, and_off (is_given (shown_by o first) e) (list_all (is_given (shown_by o first)) es) s.1, s.2)
    by (Some y) at k rest =
        let parts = missing_parts (is_required e.1.preset) (requires first e.0) e.0 o (at ∙ k) in
        subst (λ (z : OddAtt). Shown z (e ∷ es)) parts.2 (here parts.0 parts.1)

-- ---- both

pub odd_tells : (first second : Definitions) → IsKept first → IsKept second → Tells first second (odd_of first second)
odd_tells first second kf ks = by (first_some (odd_value second) first) refl (first_some (odd_missing first) second) refl
  where
    and_off : (a b : Bool) → b ≡ false → (a && b) ≡ false
    and_off true b e = e
    and_off false b e = refl

    by : (x : Option OddAtt) → first_some (odd_value second) first ≡ x → (y : Option OddAtt) → first_some (odd_missing first) second ≡ y → Tells first second (option_or x y)
    by None at None to = covers_list first second kf ks (ap (λ o. option_or o (first_some (odd_missing first) second)) at ∙ to)
    by None at (Some o) to =
        let told = told_missing first second second o kf to in
        (told.0, and_off (list_all (is_allowed second) (shown_by o first)) (list_all (is_given (shown_by o first)) second) told.1, told.2)
    by (Some o) at y to =
        let entry = odd_entry first second first o (all_found first kf.names) kf.definitions at in
        told_against first second entry.e (definition_of second entry.e.0) o kf ks entry.found entry.sound refl entry.is

-- what an answer tells

covers_none : (first second : Definitions) (o : Option OddAtt) → Tells first second o → (is_none o ≡ true) ↔ CoversList first second
covers_none first second None t = (λ e. t, λ c. refl)
covers_none first second (Some o) t = (λ e. absurd (both_ways false refl e), λ c. absurd (both_ways (is_right second (shown_by o first)) t.1 (c (shown_by o first) t.0)))

pub told_by : (first second : Definitions) (r : Result (Option OddAtt) NoMemory) → IsKept first → IsKept second → IfOk r (λ o. o ≡ odd_of first second) → IfOk r (λ o. Tells first second o)
told_by first second (Ok o) p q e = subst (Tells first second) (sym e) (odd_tells first second p q)
told_by first second (Err e) p q h = tt

pub none_by : (first second : Definitions) (r : Result (Option OddAtt) NoMemory) → IsKept first → IsKept second → IfOk r (λ o. o ≡ odd_of first second) → IfOk r (λ o. IsTrue (is_none o) ↔ CoversList first second)
none_by first second (Ok o) p q e = let P : Option OddAtt → Type 0 = λ x. IsTrue (is_none x) ↔ CoversList first second in subst P (sym e) (covers_none first second (odd_of first second) (odd_tells first second p q))
none_by first second (Err e) p q h = tt

pub cover_by : (first second : Definitions) (b : Bool) → IsKept first → IsKept second → b ≡ is_none (odd_of first second) → IsTrue b ↔ CoversList first second
cover_by first second b p q e = let P : Bool → Type 0 = λ x. IsTrue x ↔ CoversList first second in subst P (sym e) (covers_none first second (odd_of first second) (odd_tells first second p q))
