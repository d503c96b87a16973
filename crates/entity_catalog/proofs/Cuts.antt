-- Lines that are cut at their quotes.
use Rattle.std.proofs.Common.{◌≡◌, ◌∙◌, ℕ, ◌+◌, ◌<◌, ◌≤◌, Bool, true, false, cond, ◌&&◌, List, [], ◌∷◌, length, take, drop, position, nat_lt, Some, None, refl, ap, sym, arith, true≢false}
use Rattle.std.specs.List.{slice_split, onto_first, position_or_len, join_with_byte}
use Rattle.std.proofs.lemmas.List.Splits.{slice_split_first, slice_split_none, slice_split-cons_no, join_with_byte-slice_split}
use Rattle.std.proofs.lemmas.List.Sums.{fails_before_first}
use Rattle.std.proofs.lemmas.Bool.Decides.{nat_tests}
use Rattle.entity_catalog.specs.Lines.{malformed, is_quote, is_blank, are_blanks, is_gap, unindented, entry_of, line_of_parts}

found : (n m k : ℕ) → cond (nat_lt n m) (Some n) None ≡ Some k → (n < m) × (n ≡ k)
found n m k e = grind (arith, nat_tests)

missing : (n m : ℕ) → cond (nat_lt n m) (Some n) None ≡ None → m ≤ n
missing n m e = grind (arith, nat_tests)

module _ {X : Type 0} (p : X → Bool) where
  -- where no element passes, the list is one part
  pub slice_split-uncut : (xs : List X) → position p xs ≡ None → slice_split p xs ≡ xs ∷ []
  slice_split-uncut xs none = slice_split_none p xs (λ k d lt. let past : length xs ≤ position_or_len p xs = missing _ _ none in fails_before_first p xs k d (omega arith))

  -- else the first part ends at the first that passes
  pub slice_split-cut : (xs : List X) (k : ℕ) → position p xs ≡ Some k → slice_split p xs ≡ take k xs ∷ slice_split p (drop (k + 1) xs)
  slice_split-cut [] k at = absurd (cc)
  slice_split-cut (x ∷ xs) k at =
      let here = found (position_or_len p (x ∷ xs)) (length (x ∷ xs)) k at in
      slice_split_first p (x ∷ xs) x here.0 ∙ ap (λ n. take n (x ∷ xs) ∷ slice_split p (drop (n + 1) (x ∷ xs))) here.1

and_false : (a : Bool) → a && false ≡ false
and_false true = refl
and_false false = refl

pub both : (a b : Bool) → a && b ≡ true → (a ≡ true) × (b ≡ true)
both true b e = (refl, e)
both false b e = absurd (true≢false (sym e))

pub blank_unquoted : (c : ℕ) → is_blank c ≡ true → is_quote c ≡ false
blank_unquoted c blank = grind (arith, nat_tests)

-- blanks hold no quote
pub blank_uncut : (text : List ℕ) → are_blanks text ≡ true → slice_split is_quote text ≡ text ∷ []
blank_uncut [] blank = refl
blank_uncut (c ∷ cs) blank =
    let parts = both (is_blank c) (are_blanks cs) blank in
    slice_split-cons_no is_quote c cs (blank_unquoted c parts.0) ∙ ap (onto_first c) (blank_uncut cs parts.1)

-- the four cuts of a line
pub record CutAt (line keyword identifier between name end : List ℕ) : Type 0 where
  pub parts : slice_split is_quote line ≡ keyword ∷ identifier ∷ between ∷ name ∷ slice_split is_quote end

unblank_end : (keyword identifier between name end : List ℕ) (parts : List (List ℕ)) → join_with_byte 0x22 parts ≡ end → are_blanks end ≡ false → line_of_parts (keyword ∷ identifier ∷ between ∷ name ∷ parts) ≡ malformed
unblank_end keyword identifier between name end [] whole unblank = refl
unblank_end keyword identifier between name end (part ∷ []) whole unblank =
    let fails : is_gap between && are_blanks part ≡ false = ap (λ t. is_gap between && are_blanks t) whole ∙ (ap (λ b. is_gap between && b) unblank ∙ and_false (is_gap between)) in
    rw fails refl
unblank_end keyword identifier between name end (part ∷ next ∷ more) whole unblank = refl

module _ {line keyword identifier between name end : List ℕ} (at : CutAt line keyword identifier between name end) where
  -- with a gap and blanks, an entry
  pub formed : is_gap between ≡ true → are_blanks end ≡ true → line_of_parts (slice_split is_quote line) ≡ entry_of (unindented keyword) identifier name
  formed gap blank = ap line_of_parts (at.parts ∙ ap (λ parts. keyword ∷ identifier ∷ between ∷ name ∷ parts) (blank_uncut end blank)) ∙ rw (gap, blank) refl

  pub unformed_end : are_blanks end ≡ false → line_of_parts (slice_split is_quote line) ≡ malformed
  unformed_end unblank = ap line_of_parts at.parts ∙ unblank_end keyword identifier between name end (slice_split is_quote end) (join_with_byte-slice_split 0x22 end) unblank

  pub unformed_gap : is_gap between ≡ false → line_of_parts (slice_split is_quote line) ≡ malformed
  unformed_gap no_gap = ap line_of_parts at.parts ∙ no_entry (slice_split is_quote end)
    where
      no_entry : (parts : List (List ℕ)) → line_of_parts (keyword ∷ identifier ∷ between ∷ name ∷ parts) ≡ malformed
      no_entry [] = refl
      no_entry (part ∷ []) = rw no_gap refl
      no_entry (part ∷ next ∷ more) = refl
