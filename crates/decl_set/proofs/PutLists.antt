-- Lists of attributes that are put in their places.
use Rattle.std.proofs.Common.{◌≡◌, ◌∙◌, ℕ, Bool, cond, List, [], ◌∷◌, refl, sym, ap, Some, Ok, Err, unwrap_or, bytes_eq}
use Rattle.std.specs.Prelude.{Option, Result}
use Rattle.std.specs.Map.{lookup, set_value}
use Rattle.std.proofs.lemmas.Map.Steps.{set_value_same}
use Rattle.indexmap.specs.IndexMap.{insert_entry}
use Rattle.attribute_types.proofs.TextTests.{on_test}
use Rattle.attlist_merge.specs.declared.raw.RawAttList.{RawAttList}
use Rattle.attlist_merge.specs.Lists.{Definitions}
use Rattle.dtd_scanner.specs.Walk.{◌>>=◌}
use Rattle.decl_set.specs.AttributeSteps.{Changes, lists_with}
use Rattle.decl_set.specs.Declarations.{AttributesOf, Entity}
use Rattle.decl_set.specs.Declaring.{with_all, with_list}
use Rattle.decl_set.specs.declared.faults.DeclFault.{DeclFault}
use Rattle.decl_set.proofs.AddedAttributes.{fails_through}

-- a map's insertion puts a list in its place, or last
inserted_list : (lists : List AttributesOf) (element : List ℕ) (list : Definitions) → insert_entry bytes_eq lists element list ≡ with_list lists element list
inserted_list [] element list = refl
inserted_list (l ∷ ls) element list = ap (λ rest. cond (bytes_eq element l.0) ((l.0, list) ∷ ls) (l ∷ rest)) (inserted_list ls element list)

-- so does a write where the element is found
written_list : (lists : List AttributesOf) (element : List ℕ) (was list : Definitions) → lookup (bytes_eq element) lists ≡ Some was → set_value (bytes_eq element) lists list ≡ with_list lists element list
written_list [] element was list there = cc
written_list (l ∷ ls) element was list there =
    let P : Bool → Type 0 = λ b. cond b (Some l.1) (lookup (bytes_eq element) ls) ≡ Some was → cond b ((l.0, list) ∷ ls) (l ∷ set_value (bytes_eq element) ls list) ≡ cond b ((l.0, list) ∷ ls) (l ∷ with_list ls element list) in
    on_test P (bytes_eq element l.0) (λ is at. refl) (λ is at. ap (λ rest. l ∷ rest) (written_list ls element was list at)) there

listed : (entities : List Entity) (lists : List AttributesOf) (spent n : ℕ) (raw : RawAttList) (was list : Definitions) → with_all entities raw.element was spent raw.atts ≡ Ok (list, n)
    → lists_with entities lists spent raw was ≡ Ok (with_list lists raw.element list, n)
listed entities lists spent n raw was list is =
    ap (λ (r : Result (Definitions × ℕ) DeclFault). r >>= λ x. Ok (with_list lists raw.element x.0, x.1)) is

pub put_new : (entities : List Entity) (lists after : List AttributesOf) (spent n : ℕ) (raw : RawAttList) (element : List ℕ) (list : Definitions) → with_all entities raw.element [] spent raw.atts ≡ Ok (list, n)
    → element ≡ raw.element → after ≡ insert_entry bytes_eq lists element list → lists_with entities lists spent raw [] ≡ Ok (after, n)
put_new entities lists after spent n raw element list is same put =
    let placed : after ≡ with_list lists raw.element list = put ∙ inserted_list lists element list ∙ ap (λ e. with_list lists e list) same in
    listed entities lists spent n raw [] list is ∙ ap (λ (ls : List AttributesOf). Ok (ls, n)) (sym placed)

list_as : (o : Option Definitions) (list : Definitions) → o ≡ Some list → unwrap_or o [] ≡ list
list_as o list is = ap (λ (p : Option Definitions). unwrap_or p []) is

pub put_there : {X : Type 0} (entities : List Entity) (lists after : List AttributesOf) (was list : Definitions) (spent n : ℕ) (raw : RawAttList) (r : Result X DeclFault)
    → lookup (bytes_eq raw.element) lists ≡ Some was → after ≡ set_value (bytes_eq raw.element) lists list
    → Changes (with_all entities raw.element was spent raw.atts) (was, spent) (list, n) r
    → Changes (lists_with entities lists spent raw (unwrap_or (lookup (bytes_eq raw.element) lists) [])) (lists, spent) (after, n) r
put_there entities lists after was list spent n raw (Ok x) there put is =
    let placed : after ≡ with_list lists raw.element list = put ∙ written_list lists raw.element was list there in
    ap (λ l. lists_with entities lists spent raw l) (list_as (lookup (bytes_eq raw.element) lists) was there)
    ∙ listed entities lists spent n raw was list is
    ∙ ap (λ (ls : List AttributesOf). Ok (ls, n)) (sym placed)
put_there entities lists after was list spent n raw (Err f) there put is =
    let stays : list ≡ was = ap (λ (p : Definitions × ℕ). p.0) is.1 in
    let count : n ≡ spent = ap (λ (p : Definitions × ℕ). p.1) is.1 in
    let as_was : after ≡ lists = put ∙ ap (set_value (bytes_eq raw.element) lists) stays ∙ set_value_same (bytes_eq raw.element) lists was there in
    let begun = ap (λ l. lists_with entities lists spent raw l) (list_as (lookup (bytes_eq raw.element) lists) was there) in (
      fails_through f (with_all entities raw.element was spent raw.atts) (lists_with entities lists spent raw (unwrap_or (lookup (bytes_eq raw.element) lists) []))
          (λ g e. begun ∙ ap (λ (s : Result (Definitions × ℕ) DeclFault). s >>= λ x. Ok (with_list lists raw.element x.0, x.1)) e) is.0,
      ap (λ (ls : List AttributesOf). (ls, n)) as_was ∙ ap (λ k. (lists, k)) count,
    )
