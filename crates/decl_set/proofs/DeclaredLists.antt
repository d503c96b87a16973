-- What a set keeps where attributes are declared.
use Rattle.std.proofs.Common.{◌≡◌, ◌∙◌, inl, inr, ℕ, Bool, true, cond, List, [], ◌∷◌, ◌++◌, length, refl, sym, ap, subst, Some, Ok, Err, is_some, unwrap_or, bytes_eq, arith}
use Rattle.std.specs.Prelude.{Result}
use Rattle.std.specs.List.{list_all, AllByRecursion}
use Rattle.std.specs.Map.{lookup}
use Rattle.std.specs.Option.{option_map_or}
use Rattle.std.proofs.lemmas.Bool.{and_from}
use Rattle.jats_chars.specs.Names.{is_name}
use Rattle.attribute_types.specs.Spacing.{is_filled}
use Rattle.attribute_types.specs.declared.types.AttType.{AttType}
use Rattle.attribute_types.specs.declared.types.Preset.{Preset}
use Rattle.attribute_types.specs.declared.types.Preset.TheVariants as preset
use Rattle.attribute_types.specs.declared.classes.ValueClass.{ValueClass}
use Rattle.attribute_types.proofs.TextTests.{on_test}
use Rattle.attlist_merge.specs.declared.list.Att.{Att}
use Rattle.attlist_merge.specs.declared.raw.RawPreset.{RawPreset}
use Rattle.attlist_merge.specs.declared.raw.RawPreset.TheVariants as raw
use Rattle.attlist_merge.specs.declared.raw.RawAtt.{RawAtt}
use Rattle.attlist_merge.specs.declared.raw.RawAttList.{RawAttList}
use Rattle.attlist_merge.specs.Adding.{defined}
use Rattle.attlist_merge.specs.Lists as lists
use Rattle.attlist_merge.specs.Lists.{Definitions, definition_of, value_in}
use Rattle.attlist_merge.proofs.Kept.{kept_pushed}
use Rattle.dtd_scanner.specs.Walk.{◌>>=◌}
use Rattle.decl_set.specs.Asked.{IsKept, IsList, IsRead, are_chars, is_definition, is_entity_kept}
use Rattle.decl_set.specs.AttributeSteps.{Changes, IsWellRead, lists_with, written_in}
use Rattle.decl_set.specs.Declarations.{Declarations, AttributesOf, Entity, attributes_in}
use Rattle.decl_set.specs.Declaring.{attributes_given, kept_list as listed_in, preset_of, with_all, with_attribute, with_attributes, with_list}
use Rattle.decl_set.specs.Outcomes.{DeclaresCounting}
use Rattle.decl_set.specs.Values.{value_of}
use Rattle.decl_set.specs.declared.faults.DeclFault.{DeclFault}
use Rattle.decl_set.proofs.AddedAttributes.{IsAdded, attribute_gives, both_ok, fails_through, read_gives, read_ready}
use Rattle.decl_set.proofs.CollapsedTexts.{settled_chars}
use Rattle.decl_set.proofs.Kept.{kept_list, tests_pushed}
use Rattle.decl_set.proofs.ReadLists.{list_read}
use Rattle.decl_set.proofs.ValueFacts.{value_chars}

-- ---- definitions

preset_chars : (entities : List Entity) (spent : ℕ) (name : List ℕ) (kind : AttType) (r : RawPreset) (p : Preset) (n : ℕ) → list_all is_entity_kept entities ≡ true → option_map_or are_chars (written_in r) true ≡ true
    → preset_of entities spent name kind r ≡ Ok (p, n) → option_map_or are_chars (value_in p) true ≡ true
preset_chars entities spent name kind raw.Required p n kept chars is = subst (λ q. option_map_or are_chars (value_in q) true ≡ true) (both_ok preset.Required p spent n is).0 refl
preset_chars entities spent name kind raw.Implied p n kept chars is = subst (λ q. option_map_or are_chars (value_in q) true ≡ true) (both_ok preset.Implied p spent n is).0 refl
preset_chars entities spent name kind (raw.Value text) p n kept chars is =
    let g = read_gives (value_of entities [] spent text) preset.Value kind name p n is in
    subst (λ q. option_map_or are_chars (value_in q) true ≡ true) g.2 (settled_chars kind g.0.text (value_chars entities [] spent text g.0 kept chars g.1))
preset_chars entities spent name kind (raw.Fixed text) p n kept chars is =
    let g = read_gives (value_of entities [] spent text) preset.Fixed kind name p n is in
    subst (λ q. option_map_or are_chars (value_in q) true ≡ true) g.2 (settled_chars kind g.0.text (value_chars entities [] spent text g.0 kept chars g.1))

definition_is : (name : List ℕ) (kind : AttType) (class : ValueClass) (p : Preset) → is_name name ≡ true → option_map_or are_chars (value_in p) true ≡ true → is_definition (name, record { kind = kind; preset = p; class = class }) ≡ true
definition_is name kind class preset.Required named chars = and_from (is_name name) true named refl
definition_is name kind class preset.Implied named chars = and_from (is_name name) true named refl
definition_is name kind class (preset.Value text) named chars = and_from (is_name name) (are_chars text) named chars
definition_is name kind class (preset.Fixed text) named chars = and_from (is_name name) (are_chars text) named chars

-- ---- lists

-- what a list keeps while it grows
record IsGood (list : Definitions) : Type 0 where
  kept : lists.IsKept list
  definitions : list_all is_definition list ≡ true

-- and at the end
record IsWhole (list : Definitions) : Type 0 where
  good : IsGood list
  filled : is_filled list ≡ true

good_pushed : (entities : List Entity) (list next : Definitions) (spent n : ℕ) (a : RawAtt) → list_all is_entity_kept entities ≡ true → IsWellRead a → IsGood list → IsAdded entities list next spent n a → IsGood next
good_pushed entities list next spent n a kept read good new =
    let att : Att = record { name = a.name; kind = a.kind; preset = new.preset } in
    let ready = read_ready entities spent a new.preset n att read new.read refl in
    let definition = definition_is a.name a.kind (defined att).class new.preset read.named (preset_chars entities spent a.name a.kind a.preset new.preset n kept read.chars new.read) in
    record {
      kept = subst lists.IsKept (sym new.goes_last) (kept_pushed list att good.kept ready new.new new.faultless);
      definitions = ap (list_all is_definition) new.goes_last ∙ tests_pushed is_definition list (a.name, defined att) good.definitions definition;
    }

filled_pushed : {X : Type 0} (xs : List X) (x : X) → is_filled (xs ++ x ∷ []) ≡ true
filled_pushed [] x = refl
filled_pushed (y ∷ ys) x = refl

filled_found : (list : Definitions) (name : List ℕ) → is_some (definition_of list name) ≡ true → is_filled list ≡ true
filled_found [] name there = there
filled_found (e ∷ es) name there = refl

attribute_whole : (entities : List Entity) (element : List ℕ) (list next : Definitions) (spent n : ℕ) (a : RawAtt) → list_all is_entity_kept entities ≡ true → IsWellRead a → IsGood list
    → with_attribute entities element list spent a ≡ Ok (next, n) → IsWhole next
attribute_whole entities element list next spent n a kept read good is = elim (attribute_gives entities element list next spent n a is) [
  | inl there ↦ record { good = subst IsGood (sym there.1) good; filled = ap is_filled there.1 ∙ filled_found list a.name there.0 }
  | inr new ↦ record { good = good_pushed entities list next spent n a kept read good new; filled = ap is_filled new.goes_last ∙ filled_pushed list _ }
]

by_first : (entities : List Entity) (element : List ℕ) (list last : Definitions) (spent n : ℕ) (a : RawAtt) (rest : List RawAtt) → list_all is_entity_kept entities ≡ true → IsWellRead a → IsGood list
    → ((next : Definitions) (m : ℕ) → IsWhole next → with_all entities element next m rest ≡ Ok (last, n) → IsWhole last)
    → (r : Result (Definitions × ℕ) DeclFault) → with_attribute entities element list spent a ≡ r → (r >>= λ x. with_all entities element x.0 x.1 rest) ≡ Ok (last, n) → IsWhole last
by_first entities element list last spent n a rest kept read good later (Ok x) at is = later x.0 x.1 (attribute_whole entities element list x.0 spent x.1 a kept read good at) is
by_first entities element list last spent n a rest kept read good later (Err f) at is = cc

all_whole : (entities : List Entity) (element : List ℕ) (atts : List RawAtt) (list last : Definitions) (spent n : ℕ) → list_all is_entity_kept entities ≡ true → AllByRecursion IsWellRead atts → IsWhole list
    → with_all entities element list spent atts ≡ Ok (last, n) → IsWhole last
all_whole entities element [] list last spent n kept read whole is = subst IsWhole (both_ok list last spent n is).0 whole
all_whole entities element (a ∷ rest) list last spent n kept read whole is =
    by_first entities element list last spent n a rest kept read.0 whole.good (λ next m w e. all_whole entities element rest next last m n kept read.1 w e) (with_attribute entities element list spent a) refl is

-- definitions, at least one, give a whole list
some_whole : (entities : List Entity) (element : List ℕ) (atts : List RawAtt) (list last : Definitions) (spent n : ℕ) → list_all is_entity_kept entities ≡ true → AllByRecursion IsWellRead atts → is_filled atts ≡ true → IsGood list
    → with_all entities element list spent atts ≡ Ok (last, n) → IsWhole last
some_whole entities element [] list last spent n kept read some good is = cc
some_whole entities element (a ∷ rest) list last spent n kept read some good is =
    by_first entities element list last spent n a rest kept read.0 good (λ next m w e. all_whole entities element rest next last m n kept read.1 w e) (with_attribute entities element list spent a) refl is

-- ---- the list that an element has

empty_good : IsGood []
empty_good = record { kept = record { names = refl; definitions = tt; ids = refl; notations = refl }; definitions = refl }

found_good : (ls : List AttributesOf) (element : List ℕ) → AllByRecursion IsList ls → IsGood (unwrap_or (lookup (bytes_eq element) ls) [])
found_good [] element all = empty_good
found_good (l ∷ ls) element all =
    let P : Bool → Type 0 = λ b. IsGood (unwrap_or (cond b (Some l.1) (lookup (bytes_eq element) ls)) []) in
    on_test P (bytes_eq element l.0) (λ is. record { kept = all.0.kept; definitions = all.0.definitions }) (λ is. found_good ls element all.1)

-- ---- the set

abbrev Listing : Type 0
Listing = Result (List AttributesOf × ℕ) DeclFault

abbrev placed : Declarations → List ℕ → Definitions × ℕ → Listing
placed set element x = Ok (with_list set.lists element x.0, x.1)

abbrev declared : Declarations → List ℕ → Definitions × ℕ → Result (Declarations × ℕ) DeclFault
declared set element x = Ok (listed_in set element x)

by_all : (set : Declarations) (new : List AttributesOf) (n : ℕ) (element : List ℕ) → IsKept set → is_name element ≡ true → (r : Result (Definitions × ℕ) DeclFault) → ((last : Definitions) (m : ℕ) → r ≡ Ok (last, m) → IsWhole last)
    → (r >>= placed set element) ≡ Ok (new, n) → IsKept (record set { lists = new })
by_all set new n element kept named (Ok x) whole is =
    let w = whole x.0 x.1 refl in
    let list : IsList (element, x.0) = record { named = named; filled = w.filled; kept = w.good.kept; definitions = w.good.definitions } in
    subst (λ ls. IsKept (record set { lists = ls })) (both_ok (with_list set.lists element x.0) new x.1 n is).0 (kept_list set element x.0 kept list)
by_all set new n element kept named (Err f) whole is = cc

-- the set keeps its constraints
pub lists_kept : {X : Type 0} (set : Declarations) (new : List AttributesOf) (spent n : ℕ) (raw : RawAttList) (r : Result X DeclFault) → IsKept set → IsRead raw → is_filled raw.atts ≡ true
    → Changes (lists_with set.entities set.lists spent raw (attributes_in set raw.element)) (set.lists, spent) (new, n) r → IsKept (record set { lists = new })
lists_kept set new spent n raw (Ok x) kept read some is =
    let all = list_read raw read in
    by_all set new n raw.element kept all.0 (with_all set.entities raw.element (attributes_in set raw.element) spent raw.atts)
    (λ last m e. some_whole set.entities raw.element raw.atts (attributes_in set raw.element) last spent m kept.entities_are all.1 some (found_good set.lists raw.element kept.lists_are) e) is
lists_kept set new spent n raw (Err f) kept read some is =
    let same : new ≡ set.lists = ap (λ (p : List AttributesOf × ℕ). p.0) is.1 in
    subst (λ ls. IsKept (record set { lists = ls })) (sym same) kept

-- ---- what the declaration answers

given : (set : Declarations) (spent : ℕ) (element : List ℕ) (atts : List RawAtt) → is_filled atts ≡ true
    → attributes_given set spent element atts ≡ (with_all set.entities element (attributes_in set element) spent atts >>= λ r. Ok (listed_in set element r))
given set spent element [] some = cc
given set spent element (a ∷ rest) some = refl

listed_as : (set : Declarations) (element : List ℕ) (new : List AttributesOf) (n : ℕ) (r : Result (Definitions × ℕ) DeclFault) → (r >>= placed set element) ≡ Ok (new, n)
    → (r >>= declared set element) ≡ Ok (record set { lists = new }, n)
listed_as set element new n (Ok x) is =
    let both = both_ok (with_list set.lists element x.0) new x.1 n is in
    ap (λ (ls : List AttributesOf). Ok (record set { lists = ls }, x.1)) both.0 ∙ ap (λ k. Ok (record set { lists = new }, k)) both.1
listed_as set element new n (Err f) is = cc

fault_as : (set : Declarations) (element : List ℕ) (g : DeclFault) (r : Result (Definitions × ℕ) DeclFault) → (r >>= placed set element) ≡ Err g
    → (r >>= declared set element) ≡ Err g
fault_as set element g (Ok x) is = cc
fault_as set element g (Err f) is = let same : f ≡ g = cc in ap Err same

pub declares : {X : Type 0} (set : Declarations) (new : List AttributesOf) (spent n : ℕ) (raw : RawAttList) (r : Result X DeclFault) → is_filled raw.atts ≡ true
    → Changes (lists_with set.entities set.lists spent raw (attributes_in set raw.element)) (set.lists, spent) (new, n) r
    → DeclaresCounting (with_attributes set spent raw) (set, spent) (record set { lists = new }, n) r
unfolding with_attributes
declares set new spent n raw (Ok x) some is =
    given set spent raw.element raw.atts some ∙ listed_as set raw.element new n (with_all set.entities raw.element (attributes_in set raw.element) spent raw.atts) is
declares set new spent n raw (Err f) some is =
    let all = with_all set.entities raw.element (attributes_in set raw.element) spent raw.atts in
    let same : new ≡ set.lists = ap (λ (p : List AttributesOf × ℕ). p.0) is.1 in
    let count : n ≡ spent = ap (λ (p : List AttributesOf × ℕ). p.1) is.1 in (
      fails_through f (lists_with set.entities set.lists spent raw (attributes_in set raw.element)) (attributes_given set spent raw.element raw.atts) (λ g e. given set spent raw.element raw.atts some ∙ fault_as set raw.element g all e) is.0,
      ap (λ ls. (record set { lists = ls }, n)) same ∙ ap (λ k. (set, k)) count,
    )

-- a declaration without definitions
pub declares_none : (set : Declarations) (spent : ℕ) (raw : RawAttList) → length raw.atts ≡ 0 → with_attributes set spent raw ≡ Ok (set, spent)
unfolding with_attributes
declares_none set spent raw none = by raw.atts none
  where
    by : (atts : List RawAtt) → length atts ≡ 0 → attributes_given set spent raw.element atts ≡ Ok (set, spent)
    by [] none = refl
    by (a ∷ rest) none = absurd (omega arith)

pub filled_by : {X : Type 0} (xs : List X) → (length xs ≡ 0 → ⊥) → is_filled xs ≡ true
filled_by [] some = absurd (some refl)
filled_by (x ∷ xs) some = refl
