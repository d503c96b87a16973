-- What a reading keeps: its texts are of Chars, and its set keeps what a set keeps at every moment.
use Rattle.std.proofs.Common.{◌≡◌, ◌∙◌, ℕ, zero, suc, ◌+◌, ◌-◌, ◌≤◌, ◌<◌, List, [], ◌∷◌, ◌++◌, take, drop, length, Bool, true, false, nat_lt, nat_le, bytes_eq, codes, cond, is_some, Option, Some, None, Result, Ok, Err, IfOk, IfSome, refl, sym, ap, subst, arith}
use Rattle.std.specs.Prelude.{IsTrue, if◌then◌else◌, slice_range, slice_get}
use Rattle.std.specs.Cmp.Derive.{both_true}
use Rattle.std.specs.List.{list_all}
use Rattle.std.specs.Map.{lookup}
use Rattle.std.proofs.lemmas.Bool.{and_parts, ltb-false, leb-false}
use Rattle.std.proofs.lemmas.List.Folds.{list_all-append}
use Rattle.jats_chars.specs.Decoded.{text_of}
use Rattle.jats_chars.specs.Names.{is_name}
use Rattle.jats_chars.specs.declared.decoding.DecodeFault.{DecodeFault}
use Rattle.jats_fault.specs.declared.fault.Fault.{Fault}
use Rattle.jats_io.specs.Loads.{held}
use Rattle.content_models.specs.declared.content.Content.{Content}
use Rattle.content_models.specs.Parses.{most_open, occurrences, repeated_in, IsTooDeep}
use Rattle.content_models.specs.Proper.{IsProper}
use Rattle.content_models.specs.Reading.{content_of}
use Rattle.content_models.proofs.Contents.{content_sound}
use Rattle.content_models.proofs.Exact.{spelled_proper}
use Rattle.position_automata.specs.Automata.{IsDeterministic}
use Rattle.position_automata.specs.Judged.{judged, Judges}
use Rattle.position_automata.proofs.Judging.{judges}
use Rattle.attlist_merge.specs.declared.raw.RawAtt.{RawAtt}
use Rattle.attlist_merge.specs.declared.raw.RawAttList.{RawAttList}
use Rattle.attlist_merge.specs.Lists.{Definitions}
use Rattle.attlist_merge.specs.Reading.{raw_list_of}
use Rattle.entity_catalog.specs.Resolution.{resolve}
use Rattle.entity_catalog.specs.declared.ids.Ids.{Ids}
use Rattle.dtd_scanner.specs.Scanning.{first_item}
use Rattle.dtd_scanner.specs.Parts.{contents_of, opening_len}
use Rattle.dtd_scanner.specs.References.{named}
use Rattle.dtd_scanner.specs.Walk.{◌>>=◌, over}
use Rattle.dtd_scanner.specs.declared.item.Item.{Item}
use Rattle.dtd_scanner.specs.declared.item.ItemKind.{ItemKind}
use Rattle.dtd_scanner.specs.declared.item.ItemKind.TheVariants.{Blank, Comment, Pi, Reference, SectionStart, ElementDecl, AttlistDecl, EntityDecl, NotationDecl}
use Rattle.dtd_scanner.specs.declared.item.ScanFault.{ScanFault}
use Rattle.pe_expansion.specs.Bound.{Bound, text_bound, text_in, none_bound}
use Rattle.pe_expansion.specs.Expansion.{Written, literal_of, plain_body_of}
use Rattle.pe_expansion.specs.Ignored.{ignored_end}
use Rattle.pe_expansion.specs.Opening.{opening}
use Rattle.pe_expansion.specs.declared.bindings.PeText.{PeText}
use Rattle.pe_expansion.specs.declared.bindings.PeText.TheVariants.{Inner, Outer}
use Rattle.pe_expansion.specs.declared.faults.PeFault.{PeFault}
use Rattle.pe_expansion.specs.declared.faults.PeFault.TheVariants as pe
use Rattle.pe_expansion.specs.declared.pieces.Manner.TheVariants as manner
use Rattle.decl_set.specs.Asked.{IsKept, IsRead, are_chars, are_ids, are_entity_ids, is_entity}
use Rattle.decl_set.specs.Declarations.{Declarations, content_in, attributes_in, entity_in, notation_in, none_declared, follows_in}
use Rattle.decl_set.specs.Declaring.{with_element, element_judged, with_attributes, with_all, with_list, kept_list, attributes_given, with_entity, with_notation, end_fault}
use Rattle.decl_set.specs.declared.entity.EntityDef.{EntityDef}
use Rattle.decl_set.specs.declared.entity.EntityDef.TheVariants as entity
use Rattle.decl_set.specs.declared.faults.DeclFault.{DeclFault}
use Rattle.decl_set.proofs.DeclaredLists.{lists_kept}
use Rattle.decl_set.proofs.Kept as sets
use Rattle.decl_set.proofs.ValueChars.{drop_all}
use Rattle.decl_set.proofs.ValueKeeping.{bind_keeps, cond_ok, cond_some, over_keeps}
use Rattle.declaration_bodies.specs.declared.entities.RawDef.{RawDef}
use Rattle.declaration_bodies.specs.declared.entities.RawDef.TheVariants.{Value, External, Unparsed}
use Rattle.declaration_bodies.specs.declared.entities.RawEntity.{RawEntity}
use Rattle.declaration_bodies.specs.Elements.{element_of}
use Rattle.declaration_bodies.specs.Entities.{entity_of}
use Rattle.declaration_bodies.specs.Notations.{notation_of}
use Rattle.declaration_bodies.specs.Grammar.{IsDef}
use Rattle.declaration_bodies.proofs.Sound.{element_sound, entity_sound, notation_sound}
use Rattle.module_reader.specs.declared.standing.Standing.{Standing}
use Rattle.module_reader.specs.declared.state.State.{State}
use Rattle.module_reader.specs.Moves.{AreChars, are_bound_chars, are_module_chars, has_chars}
use Rattle.module_reader.specs.OfChars.{IsOfChars}
use Rattle.module_reader.specs.Reading as reads
use Rattle.module_reader.specs.Sets.{finished, finished_by, entry_read, set_from}
use Rattle.text_fronts.specs.Fronts.{trimmed}
use Rattle.module_reader.specs.Stops.{module_text, refused}
use Rattle.module_reader.specs.Sources.{Source, started, decoded_by, with_module, measured, held_as, new_module, module_by, module_of, given, resolved, loaded_by, loaded, heard, asking_most, asking}
use Rattle.module_reader.proofs.DecodedChars.{text_chars}
use Rattle.module_reader.proofs.ExpansionChars.{expansion_chars, opening_chars, take_all}
use Rattle.module_reader.proofs.Going.{outer_chars}
use Rattle.module_reader.proofs.Identifiers.{IsChars, entity_read_is, notation_ids_are}
use Rattle.module_reader.proofs.Peaks.{element_within}

pub record Keeps (s : State) : Type 0 where
  pub chars : AreChars s
  pub set : IsKept s.set

abbrev GivesText : {X : Type 0} → (X → Type 0) → State × X → Type 0
GivesText Q r = Keeps r.0 × Q r.1

-- ---- modules

loaded_text : (ms : List (List ℕ × List ℕ)) (name : List ℕ) → IsTrue (are_module_chars ms) → IfSome (lookup (bytes_eq name) ms) IsChars
loaded_text [] name all = tt
loaded_text (m ∷ ms) name all =
    let h = and_parts (are_chars m.1) (are_module_chars ms) all in
    cond_some (bytes_eq name m.0) (Some m.1) (lookup (bytes_eq name) ms) IsChars (λ is. h.0) (λ is. loaded_text ms name h.1)

module_keeps : (s : State) (name : List ℕ) (size : ℕ) → Keeps s → (r : Result (List ℕ) DecodeFault) → IfOk r IsChars → IfOk (decoded_by name (with_module s name size) r) (GivesText IsChars)
module_keeps s name size k (Ok text) all = (
  record {
    chars = record {
      bound = k.chars.bound;
      modules = list_all-append (λ (m : List ℕ × List ℕ). are_chars m.1) s.modules ((name, text) ∷ []) ∙ both_true k.chars.modules (both_true all refl);
    };
    set = k.set;
  },
  all,
)
module_keeps s name size k (Err f) all = tt

measured_keeps : (s : State) (name bytes : List ℕ) → Keeps s → IfOk (measured s name bytes) (GivesText IsChars)
measured_keeps s name bytes k =
    cond_ok (nat_lt 4194304 (length bytes)) _ _ (GivesText IsChars) (λ is. tt)
    (λ is. cond_ok (nat_lt 33554432 (s.bytes + length bytes)) _ _ (GivesText IsChars) (λ is. tt) (λ is. module_keeps s name (length bytes) k (text_of bytes) (text_chars bytes)))

held_keeps : (s : State) (name : List ℕ) (o : Option (List ℕ)) → Keeps s → IfOk (held_as s name o) (GivesText IsChars)
held_keeps s name None k = tt
held_keeps s name (Some bytes) k = measured_keeps s name bytes k

module _ (source : Source) where
  new_keeps : (s : State) (name : List ℕ) → Keeps s → IfOk (new_module source s name) (GivesText IsChars)
  unfolding new_module
  new_keeps s name k = cond_ok (nat_le 1024 (length s.modules)) _ _ (GivesText IsChars) (λ is. tt) (λ is. held_keeps s name (held source.files name) k)

  by_keeps : (s : State) (name : List ℕ) (o : Option (List ℕ)) → Keeps s → IfSome o IsChars → IfOk (module_by source s name o) (GivesText IsChars)
  by_keeps s name (Some text) k all = (k, all)
  by_keeps s name None k all = new_keeps s name k

  pub module_of_keeps : (s : State) (name : List ℕ) → Keeps s → IfOk (module_of source s name) (GivesText IsChars)
  module_of_keeps s name k = by_keeps s name (lookup (bytes_eq name) s.modules) k (loaded_text s.modules name k.chars.modules)

  -- ---- texts of outer entities, and questions

  given_keeps : (name : List ℕ) (r : State × List ℕ) → GivesText IsChars r → Keeps (given name r)
  given_keeps name r k = record { chars = record { bound = outer_chars r.0.bound name r.1 k.1 k.0.chars.bound; modules = k.0.chars.modules }; set = k.0.set }

  resolved_keeps : (c : Standing) (at : ℕ) (s : State) (name : List ℕ) (ids : Ids) (o : Option (List ℕ)) → Keeps s → IfOk (resolved source c at s name ids o) Keeps
  resolved_keeps c at s name ids None k = tt
  resolved_keeps c at s name ids (Some file) k = bind_keeps (module_of source s file) _ (GivesText IsChars) Keeps (module_of_keeps s file k) (given_keeps name)

  loaded_by_keeps : (c : Standing) (at : ℕ) (s : State) (name : List ℕ) (o : Option PeText) → Keeps s → IfOk (loaded_by source c at s name o) Keeps
  loaded_by_keeps c at s name None k = k
  loaded_by_keeps c at s name (Some (Inner text)) k = k
  loaded_by_keeps c at s name (Some (Outer ids base text)) k = resolved_keeps c at s name ids (resolve source.catalog base ids) k

  loaded_keeps : (c : Standing) (at : ℕ) (s : State) (name : List ℕ) → Keeps s → IfOk (loaded source c at s name) Keeps
  unfolding loaded
  loaded_keeps c at s name k = loaded_by_keeps c at s name (text_bound s.bound name) k

  module _ {X : Type 0} (Q : X → Type 0) (c : Standing) (at : ℕ) where
    heard_keeps : (again : State → Result (State × X) Fault) → ((s : State) → Keeps s → IfOk (again s) (GivesText Q)) → (s : State) (r : Result X PeFault) → Keeps s → IfOk r Q
        → IfOk (heard source c at again s r) (GivesText Q)
    heard_keeps again later s (Ok x) k q = (k, q)
    heard_keeps again later s (Err (pe.NotLoaded name)) k q = bind_keeps (loaded source c at s name) again Keeps (GivesText Q) (loaded_keeps c at s name k) later
    heard_keeps again later s (Err f) k q = tt

    module _ (ask : State → Result X PeFault) (answers : (s : State) → Keeps s → IfOk (ask s) Q) where
      most_keeps : (n : ℕ) (s : State) → Keeps s → IfOk (asking_most source c at n ask s) (GivesText Q)
      most_keeps zero s k = heard_keeps (λ t. Err (refused c at 20 [])) (λ t k. tt) s (ask s) k (answers s k)
      most_keeps (suc n) s k = heard_keeps (asking_most source c at n ask) (most_keeps n) s (ask s) k (answers s k)

      asking_keeps : (s : State) → Keeps s → IfOk (asking source c at ask s) (GivesText Q)
      unfolding asking
      asking_keeps s k = most_keeps (length s.bound) s k

-- ---- declarations

declares_keeps : (c : Standing) (at : ℕ) (s : State) (r : Result Declarations DeclFault) → Keeps s → IfOk r IsKept → IfOk (reads.declares c at s r) Keeps
declares_keeps c at s (Ok set) k is = record { chars = record { bound = k.chars.bound; modules = k.chars.modules }; set = is }
declares_keeps c at s (Err f) k is = tt

not_some : {X : Type 0} (o : Option X) → is_some o ≡ false → o ≡ None
not_some None e = refl
not_some (Some x) e = cc

deterministic_by : (content : Content) (n : ℕ) → judged content ≡ Ok n → IsDeterministic content
deterministic_by content n is = (let P : Result ℕ (ℕ × ℕ) → Type 0 = Judges content in subst P is (judges content)).0

with_element_keeps : (set : Declarations) (name : List ℕ) (content : Content) → IsKept set → is_name name ≡ true → IsProper content → IfOk (with_element set name content) IsKept
unfolding with_element
with_element_keeps set name content k n p =
    cond_ok (is_some (content_in set name)) _ _ IsKept (λ is. tt)
    (λ new. cond_ok (nat_le 1024 (length set.elements)) _ _ IsKept (λ is. tt)
    (λ few. by (not_some (content_in set name) new) (leb-false 1024 (length set.elements) few) (judged content) refl))
  where
    by : content_in set name ≡ None → length set.elements < 1024 → (r : Result ℕ (ℕ × ℕ)) → judged content ≡ r → IfOk (element_judged set name content r) IsKept
    by new few (Err pq) e = tt
    by new few (Ok n') e =
        cond_ok (nat_lt 16000000 (follows_in set.elements + n')) _ _ IsKept (λ is. tt)
        (λ within. sets.kept_element set name content n' k (record { named = n; proper = p; deterministic = deterministic_by content n' e }) new few e (ltb-false 16000000 (follows_in set.elements + n') within))

with_notation_keeps : (set : Declarations) (name : List ℕ) (ids : Ids) → IsKept set → is_name name ≡ true → are_ids ids ≡ true → IfOk (with_notation set name ids) IsKept
unfolding with_notation
with_notation_keeps set name ids k n is =
    cond_ok (is_some (notation_in set name)) _ _ IsKept (λ there. tt) (λ new. sets.kept_notation set name ids k n is (not_some (notation_in set name) new))

abbrev KeepsCounted : Declarations × ℕ → Type 0
KeepsCounted q = IsKept q.0

attributes_kept : (set : Declarations) (spent : ℕ) (raw : RawAttList) → IsKept set → IsRead raw → IfOk (with_attributes set spent raw) KeepsCounted
unfolding with_attributes
attributes_kept set spent raw k read = by raw.atts k read
  where
    given_by : (a : RawAtt) (rest : List RawAtt) → IsKept set → IsRead (record { element = raw.element; atts = a ∷ rest })
        → (r : Result (Definitions × ℕ) DeclFault) → with_all set.entities raw.element (attributes_in set raw.element) spent (a ∷ rest) ≡ r → IfOk (r >>= λ x. Ok (kept_list set raw.element x)) KeepsCounted
    given_by a rest k read (Ok x) e =
        let done : Result (Unit {0}) DeclFault = Ok tt in
        lists_kept set (with_list set.lists raw.element x.0) spent x.1 (record { element = raw.element; atts = a ∷ rest }) done k read refl (rw e refl)
    given_by a rest k read (Err f) e = tt

    by : (atts : List RawAtt) → IsKept set → IsRead (record { element = raw.element; atts = atts }) → IfOk (attributes_given set spent raw.element atts) KeepsCounted
    by [] k read = k
    by (a ∷ rest) k read = given_by a rest k read (with_all set.entities raw.element (attributes_in set raw.element) spent (a ∷ rest)) refl

module _ (c : Standing) (at : ℕ) (s : State) (k : Keeps s) where
  element_keeps : (body : List ℕ) → IfOk (reads.element_declared c at s body) Keeps
  unfolding reads.element_declared
  element_keeps body = cond_ok (nat_lt 64 (most_open 0 body)) _ _ Keeps (λ is. tt) (λ few. read (ltb-false 64 (most_open 0 body) few) (element_of body) refl)
    where
      named_as : (x : List ℕ × List ℕ) → is_name x.0 ≡ true → (content : Content) → (repeated_in content ≡ None → IsProper content) → (o : Option (List ℕ)) → repeated_in content ≡ o
          → IfOk (reads.element_named c at s x.0 content o) Keeps
      named_as x n content p (Some again) e = tt
      named_as x n content p None e = declares_keeps c at s (with_element s.set x.0 content) k (with_element_keeps s.set x.0 content k.set n (p e))

      spelled : (x : List ℕ × List ℕ) → is_name x.0 ≡ true → (IsTooDeep x.1 → ⊥) → (o : Option Content) → content_of x.1 ≡ o → IfOk (reads.element_spelled c at s x.0 o) Keeps
      spelled x n d None e = tt
      spelled x n d (Some content) e =
          cond_ok (nat_lt 1024 (occurrences content)) _ _ Keeps (λ is. tt)
          (λ few. named_as x n content (spelled_proper x.1 content (content_sound x.1 content e) d (ltb-false 1024 (occurrences content) few)) (repeated_in content) refl)

      read : most_open 0 body ≤ 64 → (o : Option (List ℕ × List ℕ)) → element_of body ≡ o → IfOk (reads.element_read c at s o) Keeps
      read few None e = tt
      read few (Some x) e =
          let w : most_open 0 x.1 ≤ most_open 0 body = element_within body x.0 x.1 e in
          spelled x (element_sound body x e).is_named (λ deep. omega (arith, w, few, deep)) (content_of x.1) refl

  attributes_keep : (body : List ℕ) → IsChars body → IfOk (reads.attributes_declared c at s body) Keeps
  unfolding reads.attributes_declared
  attributes_keep body all = read (raw_list_of body) refl
    where
      counts : (r : Result (Declarations × ℕ) DeclFault) → IfOk r (λ (q : Declarations × ℕ). IsKept q.0) → IfOk (reads.counting c at s r) Keeps
      counts (Ok q) is = record { chars = record { bound = k.chars.bound; modules = k.chars.modules }; set = is }
      counts (Err f) is = tt

      read : (o : Option RawAttList) → raw_list_of body ≡ o → IfOk (reads.attributes_read c at s o) Keeps
      read None e = tt
      read (Some raw) e = counts (with_attributes s.set s.spent raw) (attributes_kept s.set s.spent raw k.set (body, all, e))

  notation_keeps : (body : List ℕ) → IsChars body → IfOk (reads.notation_declared c at s body) Keeps
  unfolding reads.notation_declared
  notation_keeps body all = read (notation_of body) refl
    where
      kept : (x : List ℕ × Ids) → is_name x.0 ≡ true → are_ids x.1 ≡ true → IfOk (with_notation s.set x.0 x.1) IsKept
      kept x n is = with_notation_keeps s.set x.0 x.1 k.set n is

      read : (o : Option (List ℕ × Ids)) → notation_of body ≡ o → IfOk (reads.notation_read c at s o) Keeps
      read None e = tt
      read (Some x) e = declares_keeps c at s (with_notation s.set x.0 x.1) k (kept x (notation_sound body x e).is_named (notation_ids_are body x.0 x.1 all e))

-- ---- entities

bound_keeps : (s : State) (name : List ℕ) (text : PeText) → Keeps s → IsTrue (has_chars (text_in text)) → Keeps (reads.bound_as s name text)
bound_keeps s name text k all = by (is_some (text_bound s.bound name))
  where
    by : (b : Bool) → Keeps (if b then s else record s { bound = s.bound ++ (name, text) ∷ [] })
    by true = k
    by false = record {
      chars = record {
        bound = list_all-append (λ (e : List ℕ × PeText). has_chars (text_in e.1)) s.bound ((name, text) ∷ []) ∙ both_true k.chars.bound (both_true all refl);
        modules = k.chars.modules;
      };
      set = k.set;
    }

entity_kept : (set : Declarations) (name : List ℕ) (def : EntityDef) → IsKept set → is_name name ≡ true → is_entity def ≡ true → IsKept (with_entity set name def)
unfolding with_entity
entity_kept set name def k n is = by (is_some (entity_in set name)) refl
  where
    by : (b : Bool) → is_some (entity_in set name) ≡ b → IsKept (if b then set else record set { entities = set.entities ++ (name, def) ∷ [] })
    by true e = k
    by false e = sets.kept_entity set name def k n is (not_some (entity_in set name) e)

declared_keeps : (s : State) (name : List ℕ) (def : EntityDef) → Keeps s → is_name name ≡ true → is_entity def ≡ true → Keeps (reads.declared_as s name def)
declared_keeps s name def k n is = record { chars = record { bound = k.chars.bound; modules = k.chars.modules }; set = entity_kept s.set name def k.set n is }

-- the notation of an unparsed entity is a Name
abbrev NotationIsName : RawDef → Type 0
NotationIsName (Unparsed ids notation) = is_name notation ≡ true
NotationIsName (Value text) = Unit {0}
NotationIsName (External ids) = Unit {0}

notation_named : (parameter : Bool) (text : List ℕ) (d : RawDef) → IsDef parameter text d → NotationIsName d
notation_named parameter text (Value value) is = tt
notation_named parameter text (External ids) is = tt
notation_named true text (Unparsed ids notation) is = absurd is
notation_named false text (Unparsed ids notation) is = is.is_named

abbrev IsWritten : Written → Type 0
IsWritten w = IsChars w.text

module _ (source : Source) (names : reads.Names) (c : Standing) (at : ℕ) where
  literal_answers : (raw : List ℕ) → IsChars raw → (s : State) → Keeps s → IfOk (literal_of s.bound names s.spent raw) IsWritten
  literal_answers raw all s k = by (literal_of s.bound names s.spent raw) refl
    where
      by : (r : Result Written PeFault) → literal_of s.bound names s.spent raw ≡ r → IfOk r IsWritten
      by (Ok w) e = expansion_chars manner.Literal s.bound names s.spent raw w k.chars.bound all e
      by (Err f) e = tt

  body_answers : (body : List ℕ) → IsChars body → (s : State) → Keeps s → IfOk (plain_body_of s.bound names s.spent body) IsWritten
  body_answers body all s k = by (plain_body_of s.bound names s.spent body) refl
    where
      by : (r : Result Written PeFault) → plain_body_of s.bound names s.spent body ≡ r → IfOk r IsWritten
      by (Ok w) e = expansion_chars manner.Body s.bound names s.spent body w k.chars.bound all e
      by (Err f) e = tt

  valued_keeps : (s : State) (raw : List ℕ) → Keeps s → IsChars raw → IfOk (reads.valued source names c at s raw) (GivesText IsWritten)
  valued_keeps s raw k all = asking_keeps source IsWritten c at (λ t. literal_of t.bound names t.spent raw) (literal_answers raw all) s k

  expanded_keeps : (s : State) (body : List ℕ) → Keeps s → IsChars body → IfOk (reads.expanded source names c at s body) (GivesText IsWritten)
  expanded_keeps s body k all = asking_keeps source IsWritten c at (λ t. plain_body_of t.bound names t.spent body) (body_answers body all) s k

  counted_keeps : (s : State) (spent : ℕ) → Keeps s → Keeps (record s { spent = spent })
  counted_keeps s spent k = record { chars = record { bound = k.chars.bound; modules = k.chars.modules }; set = k.set }

  bound_by_keeps : (s : State) (name : List ℕ) (d : RawDef) → Keeps s → IsOfChars d → IfOk (reads.bound_by source names c at s name d) Keeps
  bound_by_keeps s name (Value raw) k all =
      bind_keeps (reads.valued source names c at s raw) _ (GivesText IsWritten) Keeps (valued_keeps s raw k all)
      (λ r h. bound_keeps (record r.0 { spent = r.1.spent }) name (Inner r.1.text) (counted_keeps r.0 r.1.spent h.0) h.1)
  bound_by_keeps s name (External ids) k all = bound_keeps s name (Outer ids c.inmost None) k refl
  bound_by_keeps s name (Unparsed ids notation) k all = k

  declared_by_keeps : (s : State) (name : List ℕ) (d : RawDef) → Keeps s → is_name name ≡ true → NotationIsName d → IsOfChars d → IfOk (reads.declared_by source names c at s name d) Keeps
  declared_by_keeps s name (Value raw) k n m all =
      bind_keeps (reads.valued source names c at s raw) _ (GivesText IsWritten) Keeps (valued_keeps s raw k all)
      (λ r h. declared_keeps (record r.0 { spent = r.1.spent }) name (entity.Internal r.1.text) (counted_keeps r.0 r.1.spent h.0) n h.1)
  declared_by_keeps s name (External ids) k n m all = declared_keeps s name (entity.External ids) k n all
  declared_by_keeps s name (Unparsed ids notation) k n m all = declared_keeps s name (entity.Unparsed ids notation) k n (both_true m all)

  entity_new_keeps : (s : State) (e : RawEntity) (parameter : Bool) → Keeps s → is_name e.name ≡ true → NotationIsName e.def → IsOfChars e.def → IfOk (reads.entity_new source names c at s e parameter) Keeps
  entity_new_keeps s e true k n m all = cond_ok (is_some (text_bound s.bound e.name)) _ _ Keeps (λ is. k) (λ new. bound_by_keeps s e.name e.def k all)
  entity_new_keeps s e false k n m all = cond_ok (is_some (entity_in s.set e.name)) _ _ Keeps (λ is. k) (λ new. declared_by_keeps s e.name e.def k n m all)

  entity_keeps : (s : State) (body : List ℕ) → Keeps s → IsChars body → IfOk (reads.entity_declared source names c at s body) Keeps
  unfolding reads.entity_declared
  entity_keeps s body k all = read (entity_of body) refl
    where
      read : (o : Option RawEntity) → entity_of body ≡ o → IfOk (reads.entity_read source names c at s o) Keeps
      read None e = tt
      read (Some x) e =
          let is = entity_sound body x e in entity_new_keeps s x x.parameter k is.is_named (notation_named x.parameter is.def x.def is.is_def) (entity_read_is body x all e)

  kind_keeps : (kind : ItemKind) (s : State) (body : List ℕ) → Keeps s → IsChars body → IfOk (reads.declared source names c at kind s body) Keeps
  kind_keeps ElementDecl s body k all = element_keeps c at s k body
  kind_keeps AttlistDecl s body k all = attributes_keep c at s k body all
  kind_keeps EntityDecl s body k all = entity_keeps s body k all
  kind_keeps NotationDecl s body k all = notation_keeps c at s k body all
  kind_keeps Blank s body k all = k
  kind_keeps Comment s body k all = k
  kind_keeps Pi s body k all = k
  kind_keeps Reference s body k all = k
  kind_keeps SectionStart s body k all = k

  declaration_keeps : (kind : ItemKind) (s : State) (body : List ℕ) → Keeps s → IsChars body → IfOk (reads.declaration source names c at kind s body) Keeps
  declaration_keeps kind s body k all =
      bind_keeps (reads.expanded source names c at s body) _ (GivesText IsWritten) Keeps (expanded_keeps s body k all)
      (λ r h. kind_keeps kind (record r.0 { spent = r.1.spent }) r.1.text (counted_keeps r.0 r.1.spent h.0) h.1)

-- ---- items

abbrev KeepsLocal : reads.Local × ℕ → Type 0
KeepsLocal r = Keeps r.0.state

abbrev DeeperKeeps : reads.Deeper → Type 0
DeeperKeeps deeper = (names : reads.Names) (c : Standing) (s : State) (text : List ℕ) → Keeps s → IsChars text → IfOk (deeper names c s text) Keeps

contents_chars : (text : List ℕ) (kind : ItemKind) (len : ℕ) → IsChars text → IsChars (contents_of text 0 kind len)
contents_chars text kind len all = take_all (len - 1 - (0 + opening_len kind)) (drop (0 + opening_len kind) text) (drop_all (0 + opening_len kind) text all)

module _ (source : Source) (deeper : reads.Deeper) (deep : DeeperKeeps deeper) (names : reads.Names) (c : Standing) where
  opening_answers : (name : List ℕ) (s : State) → Keeps s → IfOk (opening s.bound names s.spent name) (λ (t : List ℕ × ℕ). IsChars t.0)
  opening_answers name s k = opening_chars s.bound names s.spent name k.chars.bound

  referred_keeps : (at : ℕ) (s : State) (name : List ℕ) → Keeps s → IfOk (reads.referred source deeper names c at s name) Keeps
  referred_keeps at s name k =
      let Q : List ℕ × ℕ → Type 0 = λ t. IsChars t.0 in
      bind_keeps (asking source c at (λ t. opening t.bound names t.spent name) s) (reads.entered source deeper names c at name) (GivesText Q) Keeps
      (asking_keeps source Q c at (λ t. opening t.bound names t.spent name) (opening_answers name) s k)
      (λ r h. deep (names ++ name ∷ []) (reads.standing_of source c at name (text_bound r.0.bound name)) (record r.0 { spent = r.1.1 }) r.1.0 (counted_keeps source names c at r.0 r.1.1 h.0) h.1)

  ignored_keeps : (at : ℕ) (l : reads.Local) (s : State) (o : Option ℕ) → Keeps s → IfOk (reads.ignored c at l s o) KeepsLocal
  ignored_keeps at l s None k = tt
  ignored_keeps at l s (Some end) k = k

  section_keeps : (at : ℕ) (l : reads.Local) (text : List ℕ) (len : ℕ) (keyword : List ℕ) → Keeps l.state → IsChars keyword → IfOk (reads.section source names c at l text len keyword) KeepsLocal
  section_keeps at l text len keyword k all =
      bind_keeps (reads.expanded source names c at l.state keyword) _ (GivesText IsWritten) KeepsLocal (expanded_keeps source names c at l.state keyword k all)
      (λ r h. by (record r.0 { spent = r.1.spent }) (trimmed r.1.text) (counted_keeps source names c at r.0 r.1.spent h.0))
    where
      by : (s : State) (word : List ℕ) → Keeps s → IfOk (reads.section_by c at l text len s word) KeepsLocal
      by s word k =
          cond_ok (bytes_eq word (codes "INCLUDE")) _ _ KeepsLocal (λ is. k)
          (λ other. cond_ok (bytes_eq word (codes "IGNORE")) _ _ KeepsLocal (λ is. ignored_keeps at l s (ignored_end text len) k) (λ other. tt))

  after_keeps : (l : reads.Local) (len : ℕ) (r : Result State Fault) → IfOk r Keeps → IfOk (reads.after l len r) KeepsLocal
  after_keeps l len (Ok s) k = k
  after_keeps l len (Err f) k = tt

  by_kind_keeps : (at : ℕ) (l : reads.Local) (text : List ℕ) (len : ℕ) (kind : ItemKind) → Keeps l.state → IsChars text → IfOk (reads.item_by source deeper names c at l text len kind) KeepsLocal
  by_kind_keeps at l text len Blank k all = k
  by_kind_keeps at l text len Comment k all = k
  by_kind_keeps at l text len Pi k all = k
  by_kind_keeps at l text len Reference k all = after_keeps l len (reads.referred source deeper names c at l.state (named len text)) (referred_keeps at l.state (named len text) k)
  by_kind_keeps at l text len SectionStart k all = section_keeps at l text len (contents_of text 0 SectionStart len) k (contents_chars text SectionStart len all)
  by_kind_keeps at l text len ElementDecl k all = after_keeps l len _ (declaration_keeps source names c at ElementDecl l.state (contents_of text 0 ElementDecl len) k (contents_chars text ElementDecl len all))
  by_kind_keeps at l text len AttlistDecl k all = after_keeps l len _ (declaration_keeps source names c at AttlistDecl l.state (contents_of text 0 AttlistDecl len) k (contents_chars text AttlistDecl len all))
  by_kind_keeps at l text len EntityDecl k all = after_keeps l len _ (declaration_keeps source names c at EntityDecl l.state (contents_of text 0 EntityDecl len) k (contents_chars text EntityDecl len all))
  by_kind_keeps at l text len NotationDecl k all = after_keeps l len _ (declaration_keeps source names c at NotationDecl l.state (contents_of text 0 NotationDecl len) k (contents_chars text NotationDecl len all))

  item_keeps : (at : ℕ) (l : reads.Local) (text : List ℕ) (r : Result Item ScanFault) → Keeps l.state → IsChars text → IfOk (reads.item_at source deeper names c at l text r) KeepsLocal
  item_keeps at l text (Ok item) k all = by_kind_keeps at l text item.end item.kind k all
  item_keeps at l text (Err f) k all = tt

  step_keeps : (at : ℕ) (l : reads.Local) (text : List ℕ) → Keeps l.state → IsChars text → IfOk (reads.item_step source deeper names c at l text) KeepsLocal
  step_keeps at l text k all = cond_ok (reads.ends_section l.sections text) _ _ KeepsLocal (λ is. k) (λ other. item_keeps at l text (first_item text) k all)

ended_keeps : (c : Standing) (s : State) (o : Option ℕ) → Keeps s → IfOk (reads.ended_by c s o) Keeps
ended_keeps c s None k = k
ended_keeps c s (Some start) k = tt

reading_keeps : (levels : ℕ) (source : Source) → DeeperKeeps (reads.reading levels source)
reading_keeps zero source = λ names c s text k all. tt
reading_keeps (suc levels) source = λ names c s text k all.
    let first : reads.Local = record { state = s; sections = [] } in
    let KeepsState : reads.Local → Type 0 = λ l. Keeps l.state in
    bind_keeps (over (reads.item_step source (reads.reading levels source) names c) 0 first text) (reads.ended c) KeepsState Keeps
    (over_keeps (reads.item_step source (reads.reading levels source) names c) KeepsState IsChars drop_all (λ at l t h ts. step_keeps source (reads.reading levels source) (reading_keeps levels source) names c at l t h ts) 0 first text k all)
    (λ l h. ended_keeps c l.state (slice_get l.sections (length l.sections - 1)) h)

-- ---- the set

started_keeps : Keeps started
started_keeps = record {
  chars = record { bound = refl; modules = refl };
  set = record {
    elements_apart = refl;
    lists_apart = refl;
    entities_apart = refl;
    notations_apart = refl;
    elements_are = tt;
    lists_are = tt;
    entities_are = refl;
    notations_are = refl;
    few = omega arith;
    follows = omega arith;
  };
}

-- a set that is read, and its tests
abbrev pub IsFinished : Declarations → Type 0
IsFinished set = IsKept set × (end_fault set ≡ None)

module _ (source : Source) (entry : List ℕ) where
  read_keeps : (r : State × List ℕ) → GivesText IsChars r → IfOk (reads.module_read source entry r.0 r.1) Keeps
  unfolding reads.module_read
  read_keeps r h = reading_keeps 33 source [] (module_text entry) r.0 r.1 h.0 h.1

  finished_keeps : (s : State) → Keeps s → IfOk (finished entry s) IsFinished
  finished_keeps s k = by (end_fault s.set) refl
    where
      by : (o : Option DeclFault) → end_fault s.set ≡ o → IfOk (finished_by entry s.set o) IsFinished
      by None e = (k.set, e)
      by (Some f) e = tt

  set_keeps : IfOk (set_from source entry) IsFinished
  unfolding set_from
  set_keeps =
      bind_keeps (module_of source started entry) (entry_read source entry) (GivesText IsChars) IsFinished (module_of_keeps source started entry started_keeps)
      (λ r h. bind_keeps (reads.module_read source entry r.0 r.1) (finished entry) Keeps IsFinished (read_keeps r h) finished_keeps)

-- the set that an entry stands for is kept and has no fault at its end
pub set_kept : (source : Source) (entry : List ℕ) (set : Declarations) → set_from source entry ≡ Ok set → IsKept set × (end_fault set ≡ None)
set_kept source entry set is = let P : Result Declarations Fault → Type 0 = λ r. IfOk r IsFinished in subst P is (set_keeps source entry)
