-- The lines of attribute lists are read as they were declared.
use Rattle.std.proofs.Common.{◌≡◌, ◌∙◌, ℕ, List, [], ◌∷◌, ◌++◌, Bool, true, false, cond, not, ◌&&◌, ◌||◌, Option, Some, None, is_some, is_none, Result, Ok, refl, ap, sym, subst, true≢false, append_assoc, append-nil, map, bytes_eq, if◌then◌else◌}
use Rattle.std.specs.Prelude.{unwrap_or}
use Rattle.std.specs.List.{list_all, list_any, flat_map, AllByRecursion}
use Rattle.std.specs.Map.{lookup}
use Rattle.std.proofs.lemmas.Bool.{and_parts, or_right, not-true}
use Rattle.jats_chars.specs.Classes.{is_char}
use Rattle.jats_chars.specs.Names.{is_name}
use Rattle.attribute_types.specs.Spacing.{collapsed, is_filled}
use Rattle.attribute_types.specs.declared.types.AttType.{AttType}
use Rattle.attribute_types.specs.declared.types.Preset.{Preset}
use Rattle.attribute_types.specs.declared.types.Preset.TheVariants as preset
use Rattle.attribute_types.proofs.TextTests.{bytes_same, bytes_own, bytes_swap}
use Rattle.attlist_merge.specs.Adding.{fault_of, or_doubled, second_fault}
use Rattle.attlist_merge.specs.Lists.{Entry, Definitions, definition_of, is_cdata, doubled, has_id_value, is_outside, is_settled, is_id, is_notation, is_id_entry, is_notation_entry, has_id, has_notation, IsSound, are_distinct, at_most_one}
use Rattle.attlist_merge.specs.declared.list.AttFault.TheVariants as fault
use Rattle.dtd_scanner.specs.Walk.{◌>>=◌}
use Rattle.dtd_scanner.specs.declared.item.ItemKind.TheVariants.{AttlistDecl}
use Rattle.decl_set.specs.Asked.{are_chars, are_apart, is_definition, IsList}
use Rattle.decl_set.specs.Declarations.{Declarations, AttributesOf, Entity}
use Rattle.decl_set.specs.Declaring.{settled, read_as, preset_of, added, with_attribute, with_all, with_list, kept_list, with_attributes}
use Rattle.decl_set.specs.Values.{value_of}
use Rattle.decl_set.specs.declared.faults.DeclFault.{DeclFault}
use Rattle.decl_set.proofs.Kept.{name_apart, with_list_new}
use Rattle.decl_set.proofs.ValueFacts.{value_escaped}
use Rattle.module_reader.specs.Reading.{attributes_declared, attributes_read, counting}
use Rattle.module_reader.specs.Sources.{Source}
use Rattle.module_reader.specs.declared.standing.Standing.{Standing}
use Rattle.module_reader.specs.declared.state.State.{State}
use Rattle.dtd_flattener.specs.Flat.{is_special_value, escaped, attribute_body, list_lines}
use Rattle.dtd_flattener.proofs.Apart.{new_name}
use Rattle.dtd_flattener.proofs.AttributeBodies.{has_names, is_preset_written, preset_written, IsWritten, raw_preset, raw_att, attribute_read, attribute_flat}
use Rattle.dtd_flattener.proofs.Escapes.{escaped_same}
use Rattle.dtd_flattener.proofs.Fronts.{all_by}
use Rattle.dtd_flattener.proofs.Leading.{Leads, with_set, leads_on}

-- ---- values

settled_same : (k : AttType) (text : List ℕ) → (is_cdata k || bytes_eq (collapsed text) text) ≡ true → settled k text ≡ text
settled_same k text is = by (is_cdata k) is
  where
    by : (b : Bool) → (b || bytes_eq (collapsed text) text) ≡ true → (if b then text else collapsed text) ≡ text
    by true h = refl
    by false h = bytes_same (collapsed text) text h

module _ (entities : List Entity) (spent : ℕ) (name : List ℕ) (k : AttType) where
  value_read : (text : List ℕ) → are_chars text ≡ true → value_of entities [] spent (escaped is_special_value text) ≡ Ok (record { text = text; spent = spent })
  value_read text is =
      ap (value_of entities [] spent) (escaped_same is_special_value text)
      ∙ value_escaped is_special_value refl refl refl refl refl entities [] spent text (all_by is_char (λ c. not (is_special_value c) || is_char c) (λ c h. or_right (not (is_special_value c)) (is_char c) h) text is)

  -- a preset is read as it was
  preset_read : (p : Preset) → is_preset_written p ≡ true → is_settled k p ≡ true → preset_of entities spent name k (raw_preset p) ≡ Ok (p, spent)
  preset_read preset.Required is kept = refl
  preset_read preset.Implied is kept = refl
  preset_read (preset.Value text) is kept = ap (read_as preset.Value k name) (value_read text is) ∙ ap (λ t. Ok (preset.Value t, spent)) (settled_same k text kept)
  preset_read (preset.Fixed text) is kept = ap (read_as preset.Fixed k name) (value_read text is) ∙ ap (λ t. Ok (preset.Fixed t, spent)) (settled_same k text kept)

-- ---- the constraints of a list

no_fault : (list : Definitions) (k : AttType) (p : Preset) → doubled k ≡ None → has_id_value k p ≡ false → is_outside k p ≡ false → (is_id k && has_id list) ≡ false → (is_notation k && has_notation list) ≡ false
    → fault_of list k p ≡ None
no_fault list k p distinct id inside first second =
    ap (λ o. or_doubled o (if has_id_value k p then Some fault.IdPreset else (if is_outside k p then Some fault.PresetNotInClass else second_fault list k))) distinct
    ∙ ap (λ b. if b then Some fault.IdPreset else (if is_outside k p then Some fault.PresetNotInClass else second_fault list k)) id
    ∙ ap (λ b. if b then Some fault.PresetNotInClass else second_fault list k) inside
    ∙ ap (λ b. if b then Some fault.SecondId else (if is_notation k && has_notation list then Some fault.SecondNotation else None)) first
    ∙ ap (λ b. if b then Some fault.SecondNotation else None) second

any_between : {X : Type 0} (p : X → Bool) (before : List X) (x : X) (after : List X) → p x ≡ true → list_any p (before ++ x ∷ after) ≡ true
any_between p [] x after is = ap (λ b. b || list_any p after) is
any_between p (y ∷ before) x after is = or_right (p y) (list_any p (before ++ x ∷ after)) (any_between p before x after is)

-- where at most one passes, none passes before one that does
none_before : (p : Entry → Bool) (before : Definitions) (e : Entry) (after : Definitions) → at_most_one p (before ++ e ∷ after) ≡ true → p e ≡ true → list_any p before ≡ false
none_before p [] e after one is = refl
none_before p (d ∷ before) e after one is =
    let rest = before ++ e ∷ after in
    let parts = and_parts (not (p d && list_any p rest)) (at_most_one p rest) one in
    let other : p d ≡ false = both_not (p d) (list_any p rest) (not-true (p d && list_any p rest) parts.0) (any_between p before e after is) in
    ap (λ b. b || list_any p before) other ∙ none_before p before e after parts.1 is
  where
    both_not : (a b : Bool) → (a && b) ≡ false → b ≡ true → a ≡ false
    both_not true b h is = absurd (true≢false (sym is ∙ h))
    both_not false b h is = refl

no_second : (p : Entry → Bool) (before : Definitions) (e : Entry) (after : Definitions) → at_most_one p (before ++ e ∷ after) ≡ true → (p e && list_any p before) ≡ false
no_second p before e after one = by (p e) refl
  where
    by : (b : Bool) → p e ≡ b → (b && list_any p before) ≡ false
    by true is = none_before p before e after one is
    by false is = refl

none_is : {X : Type 0} (o : Option X) → is_none o ≡ true → o ≡ None
none_is None is = refl
none_is (Some x) is = absurd (true≢false (sym is))

-- a name that is not found differs from each
apart_between : (name : List ℕ) (before : Definitions) (e : Entry) (after : Definitions) → lookup (bytes_eq name) (before ++ e ∷ after) ≡ None → bytes_eq name e.0 ≡ false
apart_between name [] e after none = (name_apart e after name none).0
apart_between name (d ∷ before) e after none = apart_between name before e after (name_apart d (before ++ e ∷ after) name none).1

new_definition : (before : Definitions) (e : Entry) (after : Definitions) → are_distinct (before ++ e ∷ after) ≡ true → definition_of before e.0 ≡ None
new_definition [] e after distinct = refl
new_definition (d ∷ before) e after distinct =
    let rest = before ++ e ∷ after in
    let parts = and_parts (is_none (definition_of rest d.0)) (are_distinct rest) distinct in
    let off = bytes_swap d.0 e.0 (apart_between d.0 before e after (none_is (definition_of rest d.0) parts.0)) in
    ap (λ b. cond b (Some d.1) (definition_of before e.0)) off ∙ new_definition before e after parts.1

-- what a list keeps
record Keeps (list : Definitions) : Type 0 where
  names : are_distinct list ≡ true
  ids : at_most_one is_id_entry list ≡ true
  notations : at_most_one is_notation_entry list ≡ true

-- ---- one attribute more

module _ (entities : List Entity) (element : List ℕ) (spent : ℕ) (before : Definitions) (e : Entry) (after : Definitions) where
  attribute_added : Keeps (before ++ e ∷ after) → IsSound e → IsWritten e → with_attribute entities element before spent (raw_att e) ≡ Ok (before ++ e ∷ [], spent)
  attribute_added kept sound is =
      let k = e.1.kind in
      let p = e.1.preset in
      let clear = no_fault before k p sound.distinct sound.id sound.inside (no_second is_id_entry before e after kept.ids) (no_second is_notation_entry before e after kept.notations) in
      ap {B = Result (Definitions × ℕ) DeclFault} (λ o. if is_some o then Ok (before, spent) else preset_of entities spent e.0 k (raw_preset p) >>= λ q. added element before (record { name = e.0; kind = k; preset = q.0 }) q.1 (fault_of before k q.0)) (new_definition before e after kept.names)
      ∙ ap {B = Result (Definitions × ℕ) DeclFault} (λ r. r >>= λ q. added element before (record { name = e.0; kind = k; preset = q.0 }) q.1 (fault_of before k q.0)) (preset_read entities spent e.0 k p is.preset sound.settled)
      ∙ ap (added element before (record { name = e.0; kind = k; preset = p }) spent) clear
      ∙ ap (λ class. Ok (before ++ (e.0, record { kind = k; preset = p; class = class }) ∷ [], spent)) (sym sound.class)

-- ---- the list of an element

-- the lists before it, and the list so far, where it is not empty
abbrev lists_with : List AttributesOf → List ℕ → Definitions → List AttributesOf
lists_with done element [] = done
lists_with done element (d ∷ ds) = done ++ (element, d ∷ ds) ∷ []

module _ (element : List ℕ) where
  found_last : (done : List AttributesOf) (list : Definitions) → lookup (bytes_eq element) done ≡ None → lookup (bytes_eq element) (done ++ (element, list) ∷ []) ≡ Some list
  found_last [] list new = ap {B = Option Definitions} (λ b. cond b (Some list) None) (bytes_own element)
  found_last (l ∷ done) list new =
      let off = name_apart l done element new in
      ap (λ b. cond b (Some l.1) (lookup (bytes_eq element) (done ++ (element, list) ∷ []))) off.0 ∙ found_last done list off.1

  found_list : (done : List AttributesOf) (list : Definitions) → lookup (bytes_eq element) done ≡ None → unwrap_or (lookup (bytes_eq element) (lists_with done element list)) [] ≡ list
  found_list done [] new = ap (λ o. unwrap_or o []) new
  found_list done (d ∷ ds) new = ap (λ o. unwrap_or o []) (found_last done (d ∷ ds) new)

  replaced_last : (done : List AttributesOf) (old list : Definitions) → lookup (bytes_eq element) done ≡ None → with_list (done ++ (element, old) ∷ []) element list ≡ done ++ (element, list) ∷ []
  replaced_last [] old list new = ap (λ b. cond b ((element, list) ∷ []) ((element, old) ∷ (element, list) ∷ [])) (bytes_own element)
  replaced_last (l ∷ done) old list new =
      let off = name_apart l done element new in
      ap (λ b. cond b ((l.0, list) ∷ (done ++ (element, old) ∷ [])) (l ∷ with_list (done ++ (element, old) ∷ []) element list)) off.0 ∙ ap (λ ls. l ∷ ls) (replaced_last done old list off.1)

  placed : (done : List AttributesOf) (before list : Definitions) → lookup (bytes_eq element) done ≡ None → with_list (lists_with done element before) element list ≡ done ++ (element, list) ∷ []
  placed done [] list new = with_list_new done element list new
  placed done (d ∷ ds) list new = replaced_last done (d ∷ ds) list new

  grown : (done : List AttributesOf) (before : Definitions) (e : Entry) → lists_with done element (before ++ e ∷ []) ≡ done ++ (element, before ++ e ∷ []) ∷ []
  grown done [] e = refl
  grown done (d ∷ ds) e = refl

module _ (source : Source) (base : State) (set : Declarations) where
  abbrev listing : List AttributesOf → State
  listing lists = with_set base (record set { lists = lists })

  module _ (element : List ℕ) (done : List AttributesOf) (named : is_name element ≡ true) (new : lookup (bytes_eq element) done ≡ None) where
    attribute_leads : (c : Standing) (at : ℕ) (before : Definitions) (e : Entry) (after : Definitions) → Keeps (before ++ e ∷ after) → IsSound e → IsWritten e → has_names e.1.kind ≡ true
        → attributes_declared c at (listing (lists_with done element before)) (attribute_body element e) ≡ Ok (listing (lists_with done element (before ++ e ∷ [])))
    unfolding attributes_declared with_attributes
    attribute_leads c at before e after kept sound is names =
        let lists = lists_with done element before in
        let given : Definitions × ℕ → State = λ r. record base { set = record set { lists = with_list lists element r.0 }; spent = r.1 } in
        ap (attributes_read c at (listing lists)) (attribute_read element e named is names)
        ∙ ap (λ list. counting c at (listing lists) (with_all set.entities element list base.spent (raw_att e ∷ []) >>= λ r. Ok (kept_list (record set { lists = lists }) element r))) (found_list element done before new)
        ∙ ap (λ x. counting c at (listing lists) ((x >>= λ r. with_all set.entities element r.0 r.1 []) >>= λ r. Ok (kept_list (record set { lists = lists }) element r))) (attribute_added set.entities element base.spent before e after kept sound is)
        ∙ ap (λ ls. Ok (listing ls)) (placed element done before (before ++ e ∷ []) new ∙ sym (grown element done before e))

    attributes_from : (before after : Definitions) → Keeps (before ++ after) → AllByRecursion IsSound after → AllByRecursion IsWritten after → list_all (λ e. has_names e.1.kind) after ≡ true
        → Leads source (listing (lists_with done element before)) (map (λ e. (AttlistDecl, attribute_body element e)) after) (listing (lists_with done element (before ++ after)))
    attributes_from before [] kept sound are names = ap (λ list. listing (lists_with done element list)) (sym (append-nil before))
    attributes_from before (e ∷ after) kept sound are names =
        let parts = and_parts (has_names e.1.kind) (list_all (λ d. has_names d.1.kind) after) names in
        let on : (before ++ e ∷ []) ++ after ≡ before ++ e ∷ after = append_assoc before (e ∷ []) after in (
          listing (lists_with done element (before ++ e ∷ [])),
          record { kind = refl; flat = attribute_flat element e named are.0; leads = λ c at. attribute_leads c at before e after kept sound.0 are.0 parts.0 },
          subst (λ (all : Definitions). Leads source (listing (lists_with done element (before ++ e ∷ []))) (map (λ x. (AttlistDecl, attribute_body element x)) after) (listing (lists_with done element all))) on
              (attributes_from (before ++ e ∷ []) after (subst Keeps (sym on) kept) sound.1 are.1 parts.1),
        )

-- ---- lists

-- the names of the NOTATION attributes of a list are Names
abbrev pub are_named : AttributesOf → Bool
are_named l = list_all (λ e. has_names e.1.kind) l.1

pub all_written : (list : Definitions) → list_all is_definition list ≡ true → AllByRecursion IsSound list → AllByRecursion IsWritten list
all_written [] are sound = tt
all_written (e ∷ list) are sound =
    let parts = and_parts (is_definition e) (list_all is_definition list) are in
    (record { named = (and_parts (is_name e.0) _ parts.0).0; tokens = sound.0.tokens; preset = preset_written e parts.0 }, all_written list parts.1 sound.1)

-- a list that is not empty stands last
filled_last : (done : List AttributesOf) (element : List ℕ) (list : Definitions) → is_filled list ≡ true → lists_with done element list ≡ done ++ (element, list) ∷ []
filled_last done element [] some = absurd (true≢false (sym some))
filled_last done element (d ∷ ds) some = refl

module _ (source : Source) (base : State) (set : Declarations) where
  list_leads : (done : List AttributesOf) (l : AttributesOf) → IsList l → are_named l ≡ true → lookup (bytes_eq l.0) done ≡ None
      → Leads source (listing source base set done) (list_lines l) (listing source base set (done ++ l ∷ []))
  list_leads done l is names new =
      subst (λ (lists : List AttributesOf). Leads source (listing source base set done) (list_lines l) (listing source base set lists)) (filled_last done l.0 l.1 is.filled)
      (attributes_from source base set l.0 done is.named new [] l.1 (record { names = is.kept.names; ids = is.kept.ids; notations = is.kept.notations }) is.kept.definitions (all_written l.1 is.definitions is.kept.definitions) names)

  lists_from : (done lists : List AttributesOf) → are_apart (done ++ lists) ≡ true → AllByRecursion IsList lists → list_all are_named lists ≡ true
      → Leads source (listing source base set done) (flat_map list_lines lists) (listing source base set (done ++ lists))
  lists_from done [] apart are names = ap (listing source base set) (sym (append-nil done))
  lists_from done (l ∷ lists) apart are names =
      let parts = and_parts (are_named l) (list_all are_named lists) names in
      let on : (done ++ l ∷ []) ++ lists ≡ done ++ l ∷ lists = append_assoc done (l ∷ []) lists in
      leads_on source (listing source base set done) (listing source base set (done ++ l ∷ [])) (listing source base set (done ++ l ∷ lists)) (list_lines l) (flat_map list_lines lists)
      (list_leads done l are.0 parts.0 (new_name done l lists apart))
      (subst (λ (all : List AttributesOf). Leads source (listing source base set (done ++ l ∷ [])) (flat_map list_lines lists) (listing source base set all)) on
      (lists_from (done ++ l ∷ []) lists (ap are_apart on ∙ apart) are.1 parts.1))

-- The lines of attribute lists, one an attribute, declare them in turn, where the names of NOTATION attributes are Names.
pub lists_lead : (source : Source) (base : State) (set : Declarations) (lists : List AttributesOf) → are_apart lists ≡ true → AllByRecursion IsList lists → list_all are_named lists ≡ true
    → Leads source (with_set base (record set { lists = [] })) (flat_map list_lines lists) (with_set base (record set { lists = lists }))
lists_lead source base set lists apart are names = lists_from source base set [] lists apart are names
