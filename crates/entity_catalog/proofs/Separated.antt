-- Parts without separators.
use Rattle.std.proofs.Common.{◌≡◌, ◌∙◌, ℕ, zero, suc, Bool, true, false, not, cond, List, [], ◌∷◌, take, filter, refl, ap}
use Rattle.std.specs.List.{list_all, slice_split, onto_first, join_with_byte, All}
use Rattle.std.proofs.lemmas.Bool.{not-true}
use Rattle.std.proofs.lemmas.List.Splits.{slice_split_at, slice_split_none}
use Rattle.std.proofs.lemmas.List.Sums.{AllPass-from_list_all}
use Rattle.entity_catalog.proofs.Cuts.{both}

module _ (p : ℕ → Bool) where
  -- no character of the part is a separator
  abbrev pub unseparated : List ℕ → Bool
  unseparated part = list_all (λ c. not (p c)) part

  pub all_unseparated : (part : List ℕ) → unseparated part ≡ true → All (λ c. p c ≡ false) part
  all_unseparated part h = λ k d lt. not-true _ (AllPass-from_list_all (λ c. not (p c)) part h k d lt)

  unseparated_onto : (c : ℕ) (parts : List (List ℕ)) (b : Bool) → p c ≡ b → list_all unseparated parts ≡ true → list_all unseparated (cond b ([] ∷ parts) (onto_first c parts)) ≡ true
  unseparated_onto c parts true e h = h
  unseparated_onto c [] false e h = rw e refl
  unseparated_onto c (part ∷ parts) false e h = rw e h

  -- the parts of a cut list hold no separator
  pub parts_unseparated : (text : List ℕ) → list_all unseparated (slice_split p text) ≡ true
  parts_unseparated [] = refl
  parts_unseparated (c ∷ cs) = unseparated_onto c (slice_split p cs) (p c) refl (parts_unseparated cs)

  -- such parts, joined by a separator and cut again
  pub slice_split-join : (c : ℕ) → p c ≡ true → (part : List ℕ) (parts : List (List ℕ)) → list_all unseparated (part ∷ parts) ≡ true → slice_split p (join_with_byte c (part ∷ parts)) ≡ part ∷ parts
  slice_split-join c is part [] h = slice_split_none p part (all_unseparated part (both (unseparated part) true h).0)
  slice_split-join c is part (next ∷ parts) h =
      let h2 = both (unseparated part) (list_all unseparated (next ∷ parts)) h in
      slice_split_at p part c (join_with_byte c (next ∷ parts)) (all_unseparated part h2.0) is ∙ ap (λ more. part ∷ more) (slice_split-join c is next parts h2.1)

module _ {A : Type 0} (q r : A → Bool) where
  pub list_all-filter : (xs : List A) → list_all r xs ≡ true → list_all r (filter q xs) ≡ true
  list_all-filter [] h = refl
  list_all-filter (x ∷ xs) h = let h2 = both (r x) (list_all r xs) h in by (q x) h2.0 (list_all-filter xs h2.1)
    where
      by : (b : Bool) → r x ≡ true → list_all r (filter q xs) ≡ true → list_all r (cond b (x ∷ filter q xs) (filter q xs)) ≡ true
      by true e rest = rw e rest
      by false e rest = rest

module _ {A : Type 0} (q : A → Bool) where
  pub filter_all : (xs : List A) → list_all q xs ≡ true → filter q xs ≡ xs
  filter_all [] h = refl
  filter_all (x ∷ xs) h = let h2 = both (q x) (list_all q xs) h in rw h2.0 (ap (λ more. x ∷ more) (filter_all xs h2.1))

  pub filter_kept : (xs : List A) → list_all q (filter q xs) ≡ true
  filter_kept [] = refl
  filter_kept (x ∷ xs) = by (q x) refl (filter_kept xs)
    where
      by : (b : Bool) → q x ≡ b → list_all q (filter q xs) ≡ true → list_all q (cond b (x ∷ filter q xs) (filter q xs)) ≡ true
      by true e rest = rw e rest
      by false e rest = rest

  pub list_all-take : (n : ℕ) (xs : List A) → list_all q xs ≡ true → list_all q (take n xs) ≡ true
  list_all-take zero xs h = refl
  list_all-take (suc n) [] h = refl
  list_all-take (suc n) (x ∷ xs) h = let h2 = both (q x) (list_all q xs) h in rw h2.0 (list_all-take n xs h2.1)
