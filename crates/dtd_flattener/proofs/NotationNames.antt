-- The names of NOTATION attributes are those of notations.
use Rattle.std.proofs.Common.{◌≡◌, ◌∙◌, ℕ, List, [], ◌∷◌, Bool, true, false, Option, Some, None, is_some, refl, ap, sym, subst, true≢false, bytes_eq, if◌then◌else◌}
use Rattle.std.specs.List.{list_all}
use Rattle.std.specs.Map.{lookup}
use Rattle.std.proofs.lemmas.Bool.{and_parts, and_from}
use Rattle.jats_chars.specs.Names.{is_name}
use Rattle.attribute_types.specs.declared.types.AttType.{AttType}
use Rattle.attribute_types.specs.declared.types.AttType.TheVariants as kind
use Rattle.attribute_types.proofs.TextTests.{on_test, bytes_same}
use Rattle.attlist_merge.specs.Lists.{Entry, Definitions, is_notation, tokens_of}
use Rattle.attlist_merge.specs.Oddness.{first_some}
use Rattle.attlist_merge.proofs.Covering.{or_none}
use Rattle.decl_set.specs.Asked.{are_ids, is_notation_kept, IsKept}
use Rattle.decl_set.specs.Declarations.{Declarations, AttributesOf, Notation, content_in, notation_in}
use Rattle.decl_set.specs.Declaring.{undeclared, is_empty, notation_fault, entity_fault, list_fault, end_fault}
use Rattle.decl_set.specs.declared.faults.DeclFault.{DeclFault}
use Rattle.decl_set.specs.declared.faults.DeclFault.TheVariants as fault
use Rattle.dtd_flattener.proofs.AttributeBodies.{has_names}
use Rattle.dtd_flattener.proofs.Attributes.{are_named}

-- a notation that is found has a Name
found_named : (notations : List Notation) (name : List ℕ) → list_all is_notation_kept notations ≡ true → is_some (lookup (bytes_eq name) notations) ≡ true → is_name name ≡ true
found_named [] name kept found = absurd (true≢false (sym found))
found_named (n ∷ notations) name kept found =
    let parts = and_parts (is_notation_kept n) (list_all is_notation_kept notations) kept in
    let Q : Bool → Type 0 = λ b. is_some (if b then Some n.1 else lookup (bytes_eq name) notations) ≡ true → is_name name ≡ true in
    on_test Q (bytes_eq name n.0) (λ same h. subst (λ (w : List ℕ). is_name w ≡ true) (sym (bytes_same name n.0 same)) (and_parts (is_name n.0) (are_ids n.1) parts.0).0) (λ other h. found_named notations name parts.1 h) found

module _ (set : Declarations) (kept : list_all is_notation_kept set.notations ≡ true) where
  declared_named : (owner name : List ℕ) → undeclared set owner name ≡ None → is_name name ≡ true
  declared_named owner name none = found_named set.notations name kept (by (is_some (notation_in set name)) none)
    where
      by : (b : Bool) → (if b then None else Some (fault.NotationUndeclared owner name)) ≡ None → b ≡ true
      by true h = refl
      by false h = cc

  declared_names : (owner : List ℕ) (names : List (List ℕ)) → first_some (undeclared set owner) names ≡ None → list_all is_name names ≡ true
  declared_names owner [] none = refl
  declared_names owner (name ∷ names) none =
      let parts = or_none (undeclared set owner name) (first_some (undeclared set owner) names) none in
      and_from (is_name name) (list_all is_name names) (declared_named owner name parts.0) (declared_names owner names parts.1)

  -- the names of a NOTATION attribute without fault are Names
  notation_names : (owner : List ℕ) (e : Entry) → notation_fault set owner e ≡ None → is_notation e.1.kind ≡ true → list_all is_name (tokens_of e.1.kind) ≡ true
  notation_names owner e none is =
      let tokens = first_some (undeclared set owner) (tokens_of e.1.kind) in
      let inner : Option DeclFault = if is_empty (content_in set owner) then Some (fault.NotationOnEmpty owner e.0) else tokens in
      declared_names owner (tokens_of e.1.kind) (by (is_empty (content_in set owner)) (sym (ap {B = Option DeclFault} (λ b. if b then inner else None) is) ∙ none))
    where
      by : (b : Bool) → (if b then Some (fault.NotationOnEmpty owner e.0) else first_some (undeclared set owner) (tokens_of e.1.kind)) ≡ None → first_some (undeclared set owner) (tokens_of e.1.kind) ≡ None
      by true h = cc
      by false h = h

named_type : (k : AttType) → (is_notation k ≡ true → list_all is_name (tokens_of k) ≡ true) → has_names k ≡ true
named_type kind.Cdata names = refl
named_type kind.Id names = refl
named_type kind.Idref names = refl
named_type kind.Idrefs names = refl
named_type kind.Entity names = refl
named_type kind.Entities names = refl
named_type kind.Nmtoken names = refl
named_type kind.Nmtokens names = refl
named_type (kind.Notation tokens) names = names refl
named_type (kind.Enumeration tokens) names = refl

module _ (set : Declarations) (kept : list_all is_notation_kept set.notations ≡ true) where
  list_named : (owner : List ℕ) (list : Definitions) → first_some (notation_fault set owner) list ≡ None → list_all (λ e. has_names e.1.kind) list ≡ true
  list_named owner [] none = refl
  list_named owner (e ∷ list) none =
      let faults = or_none (notation_fault set owner e) (first_some (notation_fault set owner) list) none in
      and_from (has_names e.1.kind) (list_all (λ d. has_names d.1.kind) list) (named_type e.1.kind (notation_names set kept owner e faults.0)) (list_named owner list faults.1)

  lists_named : (lists : List AttributesOf) → first_some (list_fault set) lists ≡ None → list_all are_named lists ≡ true
  lists_named [] none = refl
  lists_named (l ∷ lists) none =
      let faults = or_none (list_fault set l) (first_some (list_fault set) lists) none in
      and_from (are_named l) (list_all are_named lists) (list_named l.0 l.1 faults.0) (lists_named lists faults.1)

-- The names of NOTATION attributes are Names in a set that passes the last tests: they are those of its notations.
pub notations_named : (set : Declarations) → IsKept set → end_fault set ≡ None → list_all are_named set.lists ≡ true
unfolding end_fault
notations_named set kept none = lists_named set kept.notations_are set.lists (or_none (first_some (entity_fault set) set.entities) (first_some (list_fault set) set.lists) none).1
