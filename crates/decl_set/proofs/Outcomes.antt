-- What the declaring calls answer, case by case.
use Rattle.std.proofs.Common.{◌≡◌, ◌≤◌, ◌<◌, ℕ, true, false, nat_le, List, [], ◌∷◌, ◌++◌, length, get_or, slice_get, ◌∙◌, refl, sym, ap, Some, None, Ok, Err, is_some, arith}
use Rattle.std.specs.Prelude.{Option, Result, IfOk, option_and_then}
use Rattle.std.specs.Option.{option_or}
use Rattle.std.proofs.lemmas.Bool.{false_from_ne_true, le-leb, leb-true}
use Rattle.std.proofs.lemmas.Option.{slice_get-get_or}
use Rattle.content_models.specs.declared.content.Content.{Content}
use Rattle.attlist_merge.specs.Oddness.{first_some}
use Rattle.entity_catalog.specs.declared.ids.Ids.{Ids}
use Rattle.position_automata.specs.Judged.{judged}
use Rattle.decl_set.specs.Declarations.{Declarations, content_in, entity_in, notation_in}
use Rattle.decl_set.specs.Declaring.{element_judged, with_element, with_entity, with_notation, entity_fault, list_fault, end_fault}
use Rattle.decl_set.specs.Outcomes.{Finishes}
use Rattle.decl_set.specs.declared.entity.EntityDef.{EntityDef}
use Rattle.decl_set.specs.declared.faults.DeclFault.{DeclFault}
use Rattle.decl_set.specs.declared.faults.DeclFault.TheVariants as fault

pub no_some : {X : Type 0} (o : Option X) → is_some o ≡ false → o ≡ None
no_some None e = refl
no_some (Some x) e = cc

-- ---- elements

pub element_doubled : (set : Declarations) (name : List ℕ) (content : Content) → is_some (content_in set name) ≡ true → with_element set name content ≡ Err (fault.DuplicateElement name)
unfolding with_element
element_doubled set name content there = rw there refl

pub element_over : (set : Declarations) (name : List ℕ) (content : Content) → is_some (content_in set name) ≡ false → 1024 ≤ length set.elements → with_element set name content ≡ Err (fault.ElementsOver name)
unfolding with_element
element_over set name content new many =
    let full : nat_le 1024 (length set.elements) ≡ true = le-leb 1024 (length set.elements) many in
    rw (new, full) refl

pub element_new : (set : Declarations) (name : List ℕ) (content : Content) (answer : Result ℕ (ℕ × ℕ)) → is_some (content_in set name) ≡ false → length set.elements < 1024 → judged content ≡ answer → with_element set name content ≡ element_judged set name content answer
unfolding with_element
element_new set name content answer new few is =
    let room : nat_le 1024 (length set.elements) ≡ false = false_from_ne_true _ (λ t. let h : 1024 ≤ length set.elements = leb-true 1024 (length set.elements) t in omega arith) in
    rw (new, room, is) refl

-- ---- entities

pub entity_there : (set : Declarations) (name : List ℕ) (def : EntityDef) → is_some (entity_in set name) ≡ true → set ≡ with_entity set name def
unfolding with_entity
entity_there set name def there = rw there refl

pub entity_new : (set : Declarations) (name : List ℕ) (def : EntityDef) → is_some (entity_in set name) ≡ false → record set { entities = set.entities ++ (name, def) ∷ [] } ≡ with_entity set name def
unfolding with_entity
entity_new set name def new = rw new refl

-- ---- notations

pub notation_doubled : (set : Declarations) (name : List ℕ) (ids : Ids) → is_some (notation_in set name) ≡ true → with_notation set name ids ≡ Err (fault.DuplicateNotation name)
unfolding with_notation
notation_doubled set name ids there = rw there refl

pub notation_new : (set : Declarations) (name : List ℕ) (ids : Ids) → is_some (notation_in set name) ≡ false → with_notation set name ids ≡ Ok (record set { notations = set.notations ++ (name, ids) ∷ [] })
unfolding with_notation
notation_new set name ids new = rw new refl

-- ---- the whole set

-- what a function gives at the item at a place
pub item_gives : {X Y : Type 0} (f : X → Option Y) (xs : List X) (i : ℕ) (x : X) (o : Option Y) → i < length xs → x ≡ get_or xs i x → o ≡ f x → option_and_then f (slice_get xs i) ≡ o
item_gives f xs i x o within at is = ap (option_and_then f) (slice_get-get_or xs i x within ∙ ap Some (sym at)) ∙ sym is

pub ended_by_entity : (set : Declarations) (f : DeclFault) → Some f ≡ first_some (entity_fault set) set.entities → Some f ≡ end_fault set
unfolding end_fault
ended_by_entity set f e = ap (λ o. option_or o (first_some (list_fault set) set.lists)) e

pub ended_by_list : {F : Type 0} (set : Declarations) (r : Result (Option DeclFault) F) → None ≡ first_some (entity_fault set) set.entities → IfOk r (λ o. o ≡ first_some (list_fault set) set.lists) → IfOk r (λ o. o ≡ end_fault set)
unfolding end_fault
ended_by_list set (Ok o) e h = h ∙ ap (λ first. option_or first (first_some (list_fault set) set.lists)) e
ended_by_list set (Err f) e h = tt

pub finishes : (said : Option DeclFault) (f : DeclFault) → Some f ≡ said → Finishes {X = Unit {0}} said (Err f)
finishes said fault.Malformed e = sym e
finishes said (fault.EntityTooDeep a) e = sym e
finishes said (fault.ExpansionOver a) e = sym e
finishes said (fault.EntityUndeclared a) e = sym e
finishes said (fault.LessThanInValue a) e = sym e
finishes said (fault.RecursiveEntity a) e = sym e
finishes said (fault.DuplicateNotation a) e = sym e
finishes said (fault.DuplicateElement a) e = sym e
finishes said (fault.Ambiguous a p q) e = sym e
finishes said (fault.IdPreset a b) e = sym e
finishes said (fault.SecondId a b) e = sym e
finishes said (fault.SecondNotation a b) e = sym e
finishes said (fault.NotationOnEmpty a b) e = sym e
finishes said (fault.NotationUndeclared a b) e = sym e
finishes said (fault.DuplicateToken a b c) e = sym e
finishes said (fault.PresetNotInClass a b) e = sym e
finishes said (fault.ElementsOver a) e = sym e
finishes said (fault.FollowsOver a) e = sym e
finishes said fault.NoMemory e = tt
