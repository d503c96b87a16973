-- What a set keeps where a map of it grows.
use Rattle.std.proofs.Common.{◌≡◌, ◌∙◌, ◌+◌, ◌≤◌, ◌<◌, ℕ, true, List, [], ◌∷◌, ◌++◌, length, map, refl, sym, ap, subst, None, Ok, Err, bytes_eq, is_some}
use Rattle.std.specs.Prelude.{Option, Result, OnOk, OnErr, option_map, Some}
use Rattle.std.specs.List.{AllByRecursion}
use Rattle.std.specs.Map.{lookup}
use Rattle.std.proofs.lemmas.List.{map-append}
use Rattle.jats_chars.specs.Names.{is_name}
use Rattle.entity_catalog.specs.declared.ids.Ids.{Ids}
use Rattle.position_automata.specs.Judged.{judged}
use Rattle.decl_set.specs.Asked.{IsKept, IsElement, is_entity, are_ids}
use Rattle.decl_set.specs.Declarations.{Element, Entity, Notation, content_in, entity_in, notation_in, follows_in}
use Rattle.decl_set.specs.DeclaredBy.{declared_by, as_element}
use Rattle.decl_set.specs.Inside.{IsBuilt}
use Rattle.decl_set.specs.declared.entity.EntityDef.{EntityDef}
use Rattle.decl_set.specs.declared.set.Declared.{Declared}
use Rattle.decl_set.specs.declared.set.DeclSet.TheInside.{Inside}
use Rattle.decl_set.proofs.Kept.{all_pushed, follows_pushed, kept_element, kept_entity, kept_notation}
use Rattle.decl_set.proofs.Reading.{content_found}

-- ---- elements

no_content : (o : Option Declared) → option_map (λ d. d.content) o ≡ None → o ≡ None
no_content None e = refl
no_content (Some d) e = cc

pub not_declared : (s : Inside) (name : List ℕ) → content_in (declared_by s) name ≡ None → lookup (bytes_eq name) s.elements.entries ≡ None
not_declared s name none = no_content (lookup (bytes_eq name) s.elements.entries) (sym (content_found s.elements.entries name) ∙ none)

some_content : (o : Option Declared) → is_some o ≡ is_some (option_map (λ d. d.content) o)
some_content None = refl
some_content (Some d) = refl

pub declared_found : (s : Inside) (name : List ℕ) → is_some (lookup (bytes_eq name) s.elements.entries) ≡ is_some (content_in (declared_by s) name)
declared_found s name = some_content (lookup (bytes_eq name) s.elements.entries) ∙ ap is_some (sym (content_found s.elements.entries name))

pub elements_pushed : (es now : List (List ℕ × Declared)) (name : List ℕ) (d : Declared) → now ≡ es ++ (name, d) ∷ [] → map as_element now ≡ map as_element es ++ (name, d.content) ∷ []
elements_pushed es now name d is = ap (map as_element) is ∙ map-append as_element es ((name, d) ∷ [])

pub elements_kept : (s : Inside) (now : List (List ℕ × Declared)) (name : List ℕ) (d : Declared) (n : ℕ) → IsKept (declared_by s) → now ≡ s.elements.entries ++ (name, d) ∷ [] → content_in (declared_by s) name ≡ None → length (declared_by s).elements < 1024 → IsElement (name, d.content) → judged d.content ≡ Ok n → follows_in (declared_by s).elements + n ≤ 16000000 → IsKept (record (declared_by s) { elements = map as_element now })
elements_kept s now name d n kept is new few element judged_is within =
    let P : List Element → Type 0 = λ es. IsKept (record (declared_by s) { elements = es }) in
    subst P (sym (elements_pushed s.elements.entries now name d is)) (kept_element (declared_by s) name d.content n kept element new few judged_is within)

pub elements_built : (es now : List (List ℕ × Declared)) (name : List ℕ) (d : Declared) → AllByRecursion IsBuilt es → now ≡ es ++ (name, d) ∷ [] → d.automaton ≡ d.content → AllByRecursion IsBuilt now
elements_built es now name d built is new = subst (AllByRecursion IsBuilt) (sym is) (all_pushed IsBuilt es (name, d) built new)

pub elements_counted : (es now : List (List ℕ × Declared)) (name : List ℕ) (d : Declared) (m n : ℕ) → m ≡ follows_in (map as_element es) → now ≡ es ++ (name, d) ∷ [] → judged d.content ≡ Ok n → m + n ≡ follows_in (map as_element now)
elements_counted es now name d m n counted is judged_is =
    ap (λ m. m + n) counted ∙ sym (ap follows_in (elements_pushed es now name d is) ∙ follows_pushed (map as_element es) name d.content n judged_is)

-- ---- entities and notations

pub entities_kept : {F : Type 0} (s : Inside) (now : List Entity) (name : List ℕ) (def : EntityDef) (r : Result (Unit {0}) F) → IsKept (declared_by s) → OnOk r (now ≡ s.entities.entries ++ (name, def) ∷ []) → OnErr r (now ≡ s.entities.entries) → is_name name ≡ true → is_entity def ≡ true → entity_in (declared_by s) name ≡ None → IsKept (record (declared_by s) { entities = now })
entities_kept s now name def (Ok u) kept ok err named is new =
    let P : List Entity → Type 0 = λ es. IsKept (record (declared_by s) { entities = es }) in
    subst P (sym ok) (kept_entity (declared_by s) name def kept named is new)
entities_kept s now name def (Err e) kept ok err named is new =
    let P : List Entity → Type 0 = λ es. IsKept (record (declared_by s) { entities = es }) in
    subst P (sym err) kept

pub notations_kept : {F : Type 0} (s : Inside) (now : List Notation) (name : List ℕ) (ids : Ids) (r : Result (Unit {0}) F) → IsKept (declared_by s) → OnOk r (now ≡ s.notations.entries ++ (name, ids) ∷ []) → OnErr r (now ≡ s.notations.entries) → is_name name ≡ true → are_ids ids ≡ true → notation_in (declared_by s) name ≡ None → IsKept (record (declared_by s) { notations = now })
notations_kept s now name ids (Ok u) kept ok err named is new =
    let P : List Notation → Type 0 = λ es. IsKept (record (declared_by s) { notations = es }) in
    subst P (sym ok) (kept_notation (declared_by s) name ids kept named is new)
notations_kept s now name ids (Err e) kept ok err named is new =
    let P : List Notation → Type 0 = λ es. IsKept (record (declared_by s) { notations = es }) in
    subst P (sym err) kept
