-- What a list of attributes keeps.
use Rattle.std.proofs.Common.{◌≡◌, ℕ, zero, suc, Bool, true, false, cond, not, ◌||◌, ◌&&◌, List, [], ◌∷◌, ◌++◌, refl, sym, ap, subst, Some, None, slice_get, bytes_eq, is_none, IsTrue, Bor}
use Rattle.std.specs.Prelude.{Option, IfSome, Result, Ok, Err, OnOk, OnErr, option_map}
use Rattle.std.specs.List.{list_any, list_all, AllByRecursion}
use Rattle.std.specs.Option.{option_copied}
use Rattle.jats_chars.specs.declared.NoMemory.{NoMemory}
use Rattle.std.proofs.lemmas.Bool.{and_parts, and_from}
use Rattle.jats_chars.specs.Names.{is_nmtoken, is_nmtokens}
use Rattle.attribute_types.specs.declared.types.AttType.{AttType}
use Rattle.attribute_types.specs.declared.types.AttType.TheVariants as kind
use Rattle.attribute_types.specs.declared.types.Preset.{Preset}
use Rattle.attribute_types.specs.declared.types.Preset.TheVariants as preset
use Rattle.attribute_types.specs.Spacing.{collapsed, is_filled}
use Rattle.attribute_types.specs.Classes.{among}
use Rattle.attribute_types.specs.Types.{class_of_type, class_of}
use Rattle.attribute_types.specs.Proper.{IsProper}
use Rattle.attribute_types.proofs.TextTests.{on_test, bytes_same, bytes_swap, all_among}
use Rattle.attribute_types.proofs.Collapsing.{name_nmtokens, names_nmtokens, nmtoken_nmtokens}
use Rattle.attlist_merge.specs.declared.list.Att.{Att}
use Rattle.attlist_merge.specs.declared.list.Definition.{Definition}
use Rattle.attlist_merge.specs.declared.list.AttFault.{AttFault}
use Rattle.attlist_merge.specs.Lists.{Entry, Definitions, definition_of, doubled, has_id_value, is_outside, is_settled, is_id, has_id, is_id_entry, is_notation, has_notation, is_notation_entry, IsSound, IsKept, are_distinct, at_most_one}
use Rattle.attlist_merge.specs.Adding.{IsReady, defined, fault_of, or_doubled}

-- ---- what each definition keeps

pub sound_at : (list : Definitions) (i : ℕ) (e : Entry) → AllByRecursion IsSound list → slice_get list i ≡ Some e → IsSound e
sound_at [] i e all at = cc
sound_at (x ∷ xs) zero e all at = let same : x ≡ e = cc in subst IsSound same all.0
sound_at (x ∷ xs) (suc i) e all at = sound_at xs i e all.1 at

-- a definition that is found is sound under each name
pub sound_found : (list : Definitions) (name : List ℕ) (d : Definition) → AllByRecursion IsSound list → definition_of list name ≡ Some d → IsSound (name, d)
sound_found [] name d all at = cc
sound_found (x ∷ xs) name d all at =
    let Q : Bool → Type 0 = λ b. cond b (Some x.1) (definition_of xs name) ≡ Some d → IsSound (name, d) in
    let R : Definition → Type 0 = λ y. IsSound (name, y) in
    on_test Q (bytes_eq name x.0)
    (λ e at. let same : x.1 ≡ d = cc in subst R same record { tokens = all.0.tokens; class = all.0.class; proper = all.0.proper; settled = all.0.settled; distinct = all.0.distinct; id = all.0.id; inside = all.0.inside })
    (λ e at. sound_found xs name d all.1 at)
    at

-- ---- the class of an attribute without fault is proper

-- the value of a fixed token is Nmtokens
fixed_proper : (t : List ℕ) → bytes_eq (collapsed t) t ≡ true → is_nmtokens (collapsed t) ≡ true → is_nmtokens t ≡ true
fixed_proper t same h = subst (λ (x : List ℕ). is_nmtokens x ≡ true) (bytes_same (collapsed t) t same) h

inside : (b : Bool) → not b ≡ false → b ≡ true
inside true e = refl
inside false e = cc

token_inside : (tokens : List (List ℕ)) (t : List ℕ) → (is_filled tokens && list_all is_nmtoken tokens) ≡ true → among tokens (collapsed t) ≡ true → is_nmtokens (collapsed t) ≡ true
token_inside tokens t p at = nmtoken_nmtokens t (all_among is_nmtoken tokens (collapsed t) (and_parts (is_filled tokens) (list_all is_nmtoken tokens) p).1 at)

fixed_class : (k : AttType) (t : List ℕ) → IsProper (class_of_type k) → IsTrue (is_settled k (preset.Fixed t)) → is_outside k (preset.Fixed t) ≡ false → IsProper (class_of k (preset.Fixed t))
fixed_class kind.Cdata t p s o = refl
fixed_class kind.Id t p s o = fixed_proper t s (name_nmtokens t (inside _ o))
fixed_class kind.Idref t p s o = fixed_proper t s (name_nmtokens t (inside _ o))
fixed_class kind.Idrefs t p s o = fixed_proper t s (names_nmtokens t (inside _ o))
fixed_class kind.Entity t p s o = fixed_proper t s (name_nmtokens t (inside _ o))
fixed_class kind.Entities t p s o = fixed_proper t s (names_nmtokens t (inside _ o))
fixed_class kind.Nmtoken t p s o = fixed_proper t s (nmtoken_nmtokens t (inside _ o))
fixed_class kind.Nmtokens t p s o = fixed_proper t s (inside _ o)
fixed_class (kind.Notation names) t p s o = fixed_proper t s (token_inside names t p (inside _ o))
fixed_class (kind.Enumeration tokens) t p s o = fixed_proper t s (token_inside tokens t p (inside _ o))

pub proper_class : (k : AttType) (p : Preset) → IsProper (class_of_type k) → IsTrue (is_settled k p) → is_outside k p ≡ false → IsProper (class_of k p)
proper_class k preset.Required h s o = h
proper_class k preset.Implied h s o = h
proper_class k (preset.Value t) h s o = h
proper_class k (preset.Fixed t) h s o = fixed_class k t h s o

-- ---- a list that grows

all_pushed : {X : Type 0} (P : X → Type 0) (xs : List X) (x : X) → AllByRecursion P xs → P x → AllByRecursion P (xs ++ x ∷ [])
all_pushed P [] x all h = (h, tt)
all_pushed P (y ∷ ys) x all h = (all.0, all_pushed P ys x all.1 h)

none_pushed : (es : Definitions) (e : Entry) (name : List ℕ) → is_none (definition_of es name) ≡ true → bytes_eq name e.0 ≡ false → is_none (definition_of (es ++ e ∷ []) name) ≡ true
none_pushed [] e name h off = ap (λ b. is_none (cond b (Some e.1) None)) off
none_pushed (x ∷ xs) e name h off =
    let Q : Bool → Type 0 = λ b. is_none (cond b (Some x.1) (definition_of xs name)) ≡ true → is_none (cond b (Some x.1) (definition_of (xs ++ e ∷ []) name)) ≡ true in
    on_test Q (bytes_eq name x.0) (λ t h. h) (λ t h. none_pushed xs e name h off) h

-- a name that is not in the list differs from each, and from those of the rest
pub apart_first : (x : Entry) (xs : Definitions) (name : List ℕ) → definition_of (x ∷ xs) name ≡ None → (bytes_eq name x.0 ≡ false) × (definition_of xs name ≡ None)
apart_first x xs name h =
    let Q : Bool → Type 0 = λ b. cond b (Some x.1) (definition_of xs name) ≡ None → (b ≡ false) × (definition_of xs name ≡ None) in
    on_test Q (bytes_eq name x.0) (λ t h. cc) (λ t h. (refl, h)) h

distinct_pushed : (list : Definitions) (e : Entry) → are_distinct list ≡ true → definition_of list e.0 ≡ None → are_distinct (list ++ e ∷ []) ≡ true
distinct_pushed [] e d new = refl
distinct_pushed (x ∷ xs) e d new =
    let parts = and_parts (is_none (definition_of xs x.0)) (are_distinct xs) d in
    let apart = apart_first x xs e.0 new in
    and_from (is_none (definition_of (xs ++ e ∷ []) x.0)) (are_distinct (xs ++ e ∷ [])) (none_pushed xs e x.0 parts.0 (bytes_swap e.0 x.0 apart.0)) (distinct_pushed xs e parts.1 apart.1)

none_any : (p : Entry → Bool) (xs : Definitions) (e : Entry) → list_any p xs ≡ false → p e ≡ false → list_any p (xs ++ e ∷ []) ≡ false
none_any p [] e none off = ap (λ b. b || false) off
none_any p (x ∷ xs) e none off =
    let Q : Bool → Type 0 = λ b. (b || list_any p xs) ≡ false → (b || list_any p (xs ++ e ∷ [])) ≡ false in
    on_test Q (p x) (λ t h. h) (λ t h. none_any p xs e h off) none

-- a list in which at most one passes keeps so, where the new one fails
one_kept : (p : Entry → Bool) (xs : Definitions) (e : Entry) → at_most_one p xs ≡ true → p e ≡ false → at_most_one p (xs ++ e ∷ []) ≡ true
one_kept p [] e one off = ap (λ b. not (b && false) && true) off
one_kept p (x ∷ xs) e one off =
    let parts = and_parts (not (p x && list_any p xs)) (at_most_one p xs) one in
    let Q : Bool → Type 0 = λ b. not (b && list_any p xs) ≡ true → not (b && list_any p (xs ++ e ∷ [])) ≡ true in
    let R : Bool → Type 0 = λ b. list_any p xs ≡ b → not b ≡ true → not (list_any p (xs ++ e ∷ [])) ≡ true in
    and_from (not (p x && list_any p (xs ++ e ∷ []))) (at_most_one p (xs ++ e ∷ []))
    (on_test Q (p x) (λ t h. on_test R (list_any p xs) (λ u v w. cc) (λ u v w. ap not (none_any p xs e v off)) refl h) (λ t h. refl) parts.0)
    (one_kept p xs e parts.1 off)

-- or where none passed before
one_new : (p : Entry → Bool) (xs : Definitions) (e : Entry) → list_any p xs ≡ false → at_most_one p (xs ++ e ∷ []) ≡ true
one_new p [] e none = let Q : Bool → Type 0 = λ b. (not (b && false) && true) ≡ true in on_test Q (p e) (λ t. refl) (λ t. refl)
one_new p (x ∷ xs) e none =
    let Q : Bool → Type 0 = λ b. (b || list_any p xs) ≡ false → (b ≡ false) × (list_any p xs ≡ false) in
    let parts : (p x ≡ false) × (list_any p xs ≡ false) = on_test Q (p x) (λ t h. cc) (λ t h. (refl, h)) none in
    and_from (not (p x && list_any p (xs ++ e ∷ []))) (at_most_one p (xs ++ e ∷ [])) (ap (λ b. not (b && list_any p (xs ++ e ∷ []))) parts.0) (one_new p xs e parts.1)

one_pushed : (p : Entry → Bool) (xs : Definitions) (e : Entry) → at_most_one p xs ≡ true → (p e && list_any p xs) ≡ false → at_most_one p (xs ++ e ∷ []) ≡ true
one_pushed p xs e one off =
    let Q : Bool → Type 0 = λ b. p e ≡ b → (b && list_any p xs) ≡ false → at_most_one p (xs ++ e ∷ []) ≡ true in
    on_test Q (p e) (λ t u h. one_new p xs e h) (λ t u h. one_kept p xs e one u) refl off

-- ---- what an attribute without fault is

pub record IsFaultless (list : Definitions) (k : AttType) (p : Preset) : Type 0 where
  pub distinct : doubled k ≡ None
  pub id : has_id_value k p ≡ false
  pub inside : is_outside k p ≡ false
  pub ids : (is_id k && has_id list) ≡ false
  pub notations : (is_notation k && has_notation list) ≡ false

no_doubled : (o : Option (List ℕ)) (rest : Option AttFault) → or_doubled o rest ≡ None → (o ≡ None) × (rest ≡ None)
no_doubled None rest h = (refl, h)
no_doubled (Some t) rest h = cc

no_fault : (b : Bool) (f : AttFault) (rest : Option AttFault) → cond b (Some f) rest ≡ None → (b ≡ false) × (rest ≡ None)
no_fault true f rest h = cc
no_fault false f rest h = (refl, h)

pub faultless : (list : Definitions) (k : AttType) (p : Preset) → fault_of list k p ≡ None → IsFaultless list k p
faultless list k p h =
    let a = no_doubled (doubled k) _ h in
    let b = no_fault (has_id_value k p) _ _ a.1 in
    let c = no_fault (is_outside k p) _ _ b.1 in
    let d = no_fault (is_id k && has_id list) _ _ c.1 in
    let e = no_fault (is_notation k && has_notation list) _ _ d.1 in
    record { distinct = a.0; id = b.0; inside = c.0; ids = d.0; notations = e.0 }

pub kept_pushed : (list : Definitions) (att : Att) → IsKept list → IsReady att → definition_of list att.name ≡ None → fault_of list att.kind att.preset ≡ None → IsKept (list ++ (att.name, defined att) ∷ [])
kept_pushed list att kept ready new none =
    let right = faultless list att.kind att.preset none in
    let e : Entry = (att.name, defined att) in
    let sound : IsSound e = record {
      tokens = ready.tokens;
      class = refl;
      proper = proper_class att.kind att.preset ready.tokens ready.settled right.inside;
      settled = ready.settled;
      distinct = right.distinct;
      id = right.id;
      inside = right.inside;
    } in record {
      names = distinct_pushed list e kept.names new;
      definitions = all_pushed IsSound list e kept.definitions sound;
      ids = one_pushed is_id_entry list e kept.ids right.ids;
      notations = one_pushed is_notation_entry list e kept.notations right.notations;
    }

-- ---- what reading calls know

pub sound_lent : (list : Definitions) (name : List ℕ) (r : Option (Bor Definition)) → AllByRecursion IsSound list → option_copied r ≡ definition_of list name → IfSome r (λ d. IsSound (name, d.now))
sound_lent list name None all e = tt
sound_lent list name (Some d) all e = sound_found list name d.now all (sym e)

pub sound_pair : (list : Definitions) (i : ℕ) (r : Option (Bor (List ℕ) × Bor Definition)) → AllByRecursion IsSound list → option_map (λ p. (p.0.now, p.1.now)) r ≡ slice_get list i → IfSome r (λ p. IsSound (p.0.now, p.1.now))
sound_pair list i None all e = tt
sound_pair list i (Some p) all e = sound_at list i (p.0.now, p.1.now) all (sym e)

pub kept_either : (old new pushed : Definitions) (r : Result (Unit {0}) NoMemory) → OnOk r (new ≡ pushed) → OnErr r (new ≡ old) → IsKept old → IsKept pushed → IsKept new
kept_either old new pushed (Ok u) a b k l = subst IsKept (sym a) l
kept_either old new pushed (Err u) a b k l = subst IsKept (sym b) k
