-- A joined name stays in the folder.
use Rattle.std.proofs.Common.{◌≡◌, ◌∙◌, ℕ, Bool, true, false, cond, ◌&&◌, List, [], ◌∷◌, ◌++◌, length, take, codes, bytes_eq, fold, Some, None, refl, ap, sym}
use Rattle.std.specs.Prelude.{Option}
use Rattle.std.specs.Option.{option_and_then}
use Rattle.std.specs.List.{list_all, slice_split, join_with_byte}
use Rattle.std.proofs.lemmas.List.Folds.{list_all-append}
use Rattle.entity_catalog.specs.Collapse.{is_empty}
use Rattle.entity_catalog.specs.Join.{Parts, is_slash, is_relative, folder, parts_of, with_part, without_last, kept_of, name_of, join, is_step}
use Rattle.entity_catalog.proofs.Cuts.{both}
use Rattle.entity_catalog.proofs.Kept.{keeping, fold-none}
use Rattle.entity_catalog.proofs.Separated.{unseparated, parts_unseparated, slice_split-join, list_all-take}

abbrev is_kept : List ℕ → Bool
is_kept part = unseparated is_slash part && is_step part

abbrev all_kept : Parts → Bool
all_kept parts = list_all is_kept parts

with_part-kept : (kept next : Parts) (part : List ℕ) → all_kept kept ≡ true → unseparated is_slash part ≡ true → with_part kept part ≡ Some next → all_kept next ≡ true
with_part-kept kept next part h plain e = by (is_empty part) (bytes_eq part (codes ".")) (bytes_eq part (codes "..")) refl refl refl e
  where
    same : (one : Parts) → Some one ≡ Some next → all_kept one ≡ true → all_kept next ≡ true
    same one e h = let is : one ≡ next = cc in ap all_kept (sym is) ∙ h

    shorter : (parts : Parts) → all_kept parts ≡ true → without_last parts ≡ Some next → all_kept next ≡ true
    shorter [] h e = cc
    shorter (x ∷ xs) h e = same (take (length xs) (x ∷ xs)) e (list_all-take is_kept (length xs) (x ∷ xs) h)

    by : (a b d : Bool) → is_empty part ≡ a → bytes_eq part (codes ".") ≡ b → bytes_eq part (codes "..") ≡ d → cond a (Some kept) (cond b (Some kept) (cond d (without_last kept) (Some (kept ++ part ∷ [])))) ≡ Some next → all_kept next ≡ true
    by true b d ea eb ed e = same kept e h
    by false true d ea eb ed e = same kept e h
    by false false true ea eb ed e = shorter kept h e
    by false false false ea eb ed e = same (kept ++ part ∷ []) e (list_all-append is_kept kept (part ∷ []) ∙ rw (h, plain, ea, eb, ed) refl)

fold-kept : (parts kept next : Parts) → all_kept kept ≡ true → list_all (unseparated is_slash) parts ≡ true → fold keeping (Some kept) parts ≡ Some next → all_kept next ≡ true
fold-kept [] kept next h plain e = let is : kept ≡ next = cc in ap all_kept (sym is) ∙ h
fold-kept (part ∷ parts) kept next h plain e =
    let p = both (unseparated is_slash part) (list_all (unseparated is_slash) parts) plain in
    by (with_part kept part) refl e p.0 (λ k ok f. fold-kept parts k next ok p.1 f)
  where
    by : (o : Option Parts) → with_part kept part ≡ o → fold keeping o parts ≡ Some next → unseparated is_slash part ≡ true → ((k : Parts) → all_kept k ≡ true → fold keeping (Some k) parts ≡ Some next → all_kept next ≡ true) → all_kept next ≡ true
    by None is f p later = let none = fold-none parts in cc
    by (Some k) is f p later = later k (with_part-kept kept k part h p is) f

kept_plain : (parts : Parts) → all_kept parts ≡ true → list_all (unseparated is_slash) parts ≡ true
kept_plain [] h = refl
kept_plain (x ∷ xs) h = let p = both (is_kept x) (all_kept xs) h in let q = both (unseparated is_slash x) (is_step x) p.0 in rw q.0 (kept_plain xs p.1)

kept_steps : (parts : Parts) → all_kept parts ≡ true → list_all is_step parts ≡ true
kept_steps [] h = refl
kept_steps (x ∷ xs) h = let p = both (is_kept x) (all_kept xs) h in let q = both (unseparated is_slash x) (is_step x) p.0 in rw q.1 (kept_steps xs p.1)

-- no part of a joined name is empty, `.` or `..`
pub join_inside : (base identifier name : List ℕ) → join base identifier ≡ Some name → list_all is_step (slice_split is_slash name) ≡ true
unfolding join
join_inside base identifier name e = by (is_relative identifier) (kept_of (parts_of base identifier)) refl e
  where
    by : (b : Bool) (o : Option Parts) → kept_of (parts_of base identifier) ≡ o → cond b (option_and_then name_of o) None ≡ Some name → list_all is_step (slice_split is_slash name) ≡ true
    by false o is f = cc
    by true None is f = cc
    by true (Some []) is f = cc
    by true (Some (x ∷ xs)) is f =
        let ok : all_kept (x ∷ xs) ≡ true = fold-kept (parts_of base identifier) [] (x ∷ xs) refl (parts_unseparated is_slash (folder base ++ identifier)) is in
        let named : join_with_byte 0x2F (x ∷ xs) ≡ name = cc in
        ap (λ n. list_all is_step (slice_split is_slash n)) (sym named) ∙ ap (list_all is_step) (slice_split-join is_slash 0x2F refl x xs (kept_plain (x ∷ xs) ok)) ∙ kept_steps (x ∷ xs) ok
