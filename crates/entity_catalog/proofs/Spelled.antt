-- A line says an entry exactly where it is spelled as one.
use Rattle.std.proofs.Common.{◌≡◌, ◌∙◌, ℕ, suc, ◌+◌, Bool, true, false, cond, ◌&&◌, List, [], ◌∷◌, ◌++◌, length, take, drop, codes, nat_eq, ◌↔◌, refl, ap, sym, append_assoc, arith}
use Rattle.std.specs.List.{list_all, slice_split, join_with_byte, prefix_len, starts_with, All}
use Rattle.std.specs.Cmp.Lexicographic.{same_text}
use Rattle.std.proofs.lemmas.List.{take-append-drop}
use Rattle.std.proofs.lemmas.List.Elements.{All-append}
use Rattle.std.proofs.lemmas.List.Splits.{slice_split_at, slice_split_none, join_with_byte-slice_split}
use Rattle.std.proofs.lemmas.List.Sums.{AllPass-from_list_all}
use Rattle.entity_catalog.specs.Lines.{Line, nothing, system, public, malformed, is_blank, is_quote, are_blanks, is_gap, unindented, is_comment, is_keyword, entry_of, line_of_parts, line_of}
use Rattle.entity_catalog.specs.Spelling.{IsEntry, is_unquoted, quoted}
use Rattle.entity_catalog.proofs.Cuts.{both, blank_unquoted}
use Rattle.entity_catalog.proofs.Separated.{all_unseparated, parts_unseparated}

-- ---- from the spelling
all_unquoted : (text : List ℕ) → is_unquoted text ≡ true → All (λ c. is_quote c ≡ false) text
all_unquoted text h = all_unseparated is_quote text h

blanks_unquoted : (text : List ℕ) → are_blanks text ≡ true → All (λ c. is_quote c ≡ false) text
blanks_unquoted text h = λ k d lt. blank_unquoted _ (AllPass-from_list_all is_blank text h k d lt)

after_blanks : (indent rest : List ℕ) → are_blanks indent ≡ true → unindented (indent ++ rest) ≡ unindented rest
after_blanks [] rest h = refl
after_blanks (c ∷ cs) rest h =
    let parts = both (is_blank c) (are_blanks cs) h in
    let more : 1 + prefix_len is_blank (cs ++ rest) ≡ suc (prefix_len is_blank (cs ++ rest)) = omega arith in
    rw (parts.0, more) (after_blanks cs rest parts.1)

five : (line front identifier between name after : List ℕ) → line ≡ front ++ quoted identifier (between ++ quoted name after)
    → All (λ c. is_quote c ≡ false) front → All (λ c. is_quote c ≡ false) identifier → All (λ c. is_quote c ≡ false) between → All (λ c. is_quote c ≡ false) name → All (λ c. is_quote c ≡ false) after
    → slice_split is_quote line ≡ front ∷ identifier ∷ between ∷ name ∷ after ∷ []
five line front identifier between name after spelled f i b n a =
    ap (slice_split is_quote) spelled
    ∙ slice_split_at is_quote front 0x22 _ f refl
    ∙ ap (λ parts. front ∷ parts)
    (slice_split_at is_quote identifier 0x22 _ i refl
    ∙ ap (λ parts. identifier ∷ parts)
    (slice_split_at is_quote between 0x22 _ b refl ∙ ap (λ parts. between ∷ parts) (slice_split_at is_quote name 0x22 _ n refl ∙ ap (λ parts. name ∷ parts) (slice_split_none is_quote after a))))

-- a keyword begins with no blank and no `#`, holds no quote, and with a gap it opens the entry
record Opens (keyword : List ℕ) (entry : List ℕ → List ℕ → Line) : Type 0 where
  unblank : (rest : List ℕ) → unindented (keyword ++ rest) ≡ keyword ++ rest
  no_comment : (rest : List ℕ) → is_comment (keyword ++ rest) ≡ false
  unquoted : is_unquoted keyword ≡ true
  opens : (gap identifier name : List ℕ) → is_gap gap ≡ true → entry_of (keyword ++ gap) identifier name ≡ entry identifier name
  only : (start identifier name i n : List ℕ) → entry_of start i n ≡ entry identifier name → (starts_with nat_eq start keyword ≡ true) × (is_gap (drop (length keyword) start) ≡ true) × (i ≡ identifier) × (n ≡ name)
  some : (identifier name : List ℕ) → ((entry identifier name ≡ nothing) → ⊥) × ((entry identifier name ≡ malformed) → ⊥)

gap_blanks : (text : List ℕ) → is_gap text ≡ true → are_blanks text ≡ true
gap_blanks text h = (both _ (are_blanks text) h).1

module _ {keyword : List ℕ} {entry : List ℕ → List ℕ → Line} (word : Opens keyword entry) where
  from_spelling : (line identifier name : List ℕ) → IsEntry keyword identifier name line → line_of line ≡ entry identifier name
  unfolding line_of
  from_spelling line identifier name e =
      let formed : is_gap e.between && are_blanks e.after ≡ true = rw (e.between_gap, e.after_blank) refl in
      let rest = e.before ++ quoted identifier (e.between ++ quoted name e.after) in
      let start : unindented line ≡ keyword ++ rest = ap unindented e.spelled ∙ after_blanks e.indent (keyword ++ rest) e.indent_blank ∙ word.unblank rest in
      let front = e.indent ++ (keyword ++ e.before) in
      let regrouped : line ≡ front ++ quoted identifier (e.between ++ quoted name e.after) = e.spelled ∙ simp append_assoc in
      let front_unquoted : All (λ c. is_quote c ≡ false) front = All-append (λ c. is_quote c ≡ false) e.indent (keyword ++ e.before) (blanks_unquoted e.indent e.indent_blank) (All-append (λ c. is_quote c ≡ false) keyword e.before (all_unquoted keyword word.unquoted) (blanks_unquoted e.before (gap_blanks e.before e.before_gap))) in
      let parts = five line front identifier e.between name e.after regrouped front_unquoted (all_unquoted identifier e.identifier_unquoted) (blanks_unquoted e.between (gap_blanks e.between e.between_gap)) (all_unquoted name e.name_unquoted) (blanks_unquoted e.after e.after_blank) in
      let keyword_part : unindented front ≡ keyword ++ e.before = after_blanks e.indent (keyword ++ e.before) e.indent_blank ∙ word.unblank e.before in
      let no_comment : is_comment (unindented line) ≡ false = ap is_comment start ∙ word.no_comment rest in
      ap (λ b. cond b nothing (line_of_parts (slice_split is_quote line))) no_comment
      ∙ ap line_of_parts parts
      ∙ ap (λ b. cond b (entry_of (unindented front) identifier name) malformed) formed
      ∙ ap (λ k. entry_of k identifier name) keyword_part
      ∙ word.opens e.before identifier name e.before_gap

-- ---- to the spelling
leading_blanks : (text : List ℕ) → are_blanks (take (prefix_len is_blank text) text) ≡ true
leading_blanks [] = refl
leading_blanks (c ∷ cs) = by (is_blank c) refl (leading_blanks cs)
  where
    by : (b : Bool) → is_blank c ≡ b → are_blanks (take (prefix_len is_blank cs) cs) ≡ true → are_blanks (take (cond b (1 + prefix_len is_blank cs) 0) (c ∷ cs)) ≡ true
    by true e rest = let more : 1 + prefix_len is_blank cs ≡ suc (prefix_len is_blank cs) = omega arith in rw (more, e) rest
    by false e rest = refl

module _ {keyword : List ℕ} {entry : List ℕ → List ℕ → Line} (word : Opens keyword entry) where
  spelled_as : (line k i b n e identifier name : List ℕ) → slice_split is_quote line ≡ k ∷ i ∷ b ∷ n ∷ e ∷ [] → is_gap b && are_blanks e ≡ true → entry_of (unindented k) i n ≡ entry identifier name → IsEntry keyword identifier name line
  spelled_as line k i b n e identifier name parts formed says =
      let opened = word.only (unindented k) identifier name i n says in
      let whole : line ≡ k ++ quoted i (b ++ quoted n e) = sym (join_with_byte-slice_split 0x22 line) ∙ ap (join_with_byte 0x22) parts in
      let unquoted : list_all is_unquoted (k ∷ i ∷ b ∷ n ∷ e ∷ []) ≡ true = ap (list_all is_unquoted) (sym parts) ∙ parts_unseparated is_quote line in
      let after_k = (both (is_unquoted k) (list_all is_unquoted (i ∷ b ∷ n ∷ e ∷ [])) unquoted).1 in
      let at_i = both (is_unquoted i) (list_all is_unquoted (b ∷ n ∷ e ∷ [])) after_k in
      let after_b = (both (is_unquoted b) (list_all is_unquoted (n ∷ e ∷ [])) at_i.1).1 in
      let at_n = both (is_unquoted n) (list_all is_unquoted (e ∷ [])) after_b in
      let ends = both (is_gap b) (are_blanks e) formed in
      let head : take (length keyword) (unindented k) ≡ keyword = sym (same_text keyword (take (length keyword) (unindented k)) (sym opened.0)) in
      let front : k ≡ take (prefix_len is_blank k) k ++ (keyword ++ drop (length keyword) (unindented k)) =
      sym (take-append-drop (prefix_len is_blank k) k)
      ∙ ap (λ rest. take (prefix_len is_blank k) k ++ rest) (sym (take-append-drop (length keyword) (unindented k)) ∙ ap (λ h. h ++ drop (length keyword) (unindented k)) head) in
      record {
        indent = take (prefix_len is_blank k) k;
        before = drop (length keyword) (unindented k);
        between = b;
        after = e;
        spelled =
            whole
            ∙ (λ j. front j ++ quoted (opened.2 j) (b ++ quoted (opened.3 j) e))
            ∙ simp append_assoc;
        indent_blank = leading_blanks k;
        before_gap = opened.1;
        identifier_unquoted = ap is_unquoted (sym opened.2) ∙ at_i.0;
        between_gap = ends.0;
        name_unquoted = ap is_unquoted (sym opened.3) ∙ at_n.0;
        after_blank = ends.1;
      }

  to_spelling : (line identifier name : List ℕ) → line_of line ≡ entry identifier name → IsEntry keyword identifier name line
  unfolding line_of
  to_spelling line identifier name says = by (is_comment (unindented line)) (slice_split is_quote line) refl says
    where
      no_form : malformed ≡ entry identifier name → IsEntry keyword identifier name line
      no_form h = absurd ((word.some identifier name).1 (sym h))

      by : (comment : Bool) (parts : List (List ℕ)) → slice_split is_quote line ≡ parts → cond comment nothing (line_of_parts parts) ≡ entry identifier name → IsEntry keyword identifier name line
      by true parts are h = absurd ((word.some identifier name).0 (sym h))
      by false [] are h = no_form h
      by false (k ∷ []) are h = no_form h
      by false (k ∷ i ∷ []) are h = no_form h
      by false (k ∷ i ∷ b ∷ []) are h = no_form h
      by false (k ∷ i ∷ b ∷ n ∷ []) are h = no_form h
      by false (k ∷ i ∷ b ∷ n ∷ e ∷ []) are h = at (is_gap b && are_blanks e) refl h
        where
          at : (t : Bool) → is_gap b && are_blanks e ≡ t → cond t (entry_of (unindented k) i n) malformed ≡ entry identifier name → IsEntry keyword identifier name line
          at true formed says = spelled_as line k i b n e identifier name are formed says
          at false formed says = no_form says
      by false (k ∷ i ∷ b ∷ n ∷ e ∷ f ∷ more) are h = no_form h

-- ---- the two keywords
abbrev Only : List ℕ → List ℕ → List ℕ → List ℕ → List ℕ → List ℕ → Type 0
Only keyword start identifier name i n = (starts_with nat_eq start keyword ≡ true) × (is_gap (drop (length keyword) start) ≡ true) × (i ≡ identifier) × (n ≡ name)

only_system : (start identifier name i n : List ℕ) (s p : Bool) → is_keyword (codes "SYSTEM") start ≡ s → cond s (system i n) (cond p (public i n) malformed) ≡ system identifier name → Only (codes "SYSTEM") start identifier name i n
only_system start identifier name i n true p e h = let w = both _ (is_gap (drop 6 start)) e in (w.0, w.1, cc, cc)
only_system start identifier name i n false true e h = cc
only_system start identifier name i n false false e h = cc

only_public : (start identifier name i n : List ℕ) (s p : Bool) → is_keyword (codes "PUBLIC") start ≡ p → cond s (system i n) (cond p (public i n) malformed) ≡ public identifier name → Only (codes "PUBLIC") start identifier name i n
only_public start identifier name i n true p e h = cc
only_public start identifier name i n false true e h = let w = both _ (is_gap (drop 6 start)) e in (w.0, w.1, cc, cc)
only_public start identifier name i n false false e h = cc

opens_system : Opens (codes "SYSTEM") system
opens_system = record {
  unblank = λ rest. refl;
  no_comment = λ rest. refl;
  unquoted = refl;
  opens = λ gap identifier name h. ap (λ b. cond b (system identifier name) (cond false (public identifier name) malformed)) h;
  only = λ start identifier name i n h. only_system start identifier name i n (is_keyword (codes "SYSTEM") start) (is_keyword (codes "PUBLIC") start) refl h;
  some = λ identifier name. (λ h. cc, λ h. cc);
}

opens_public : Opens (codes "PUBLIC") public
opens_public = record {
  unblank = λ rest. refl;
  no_comment = λ rest. refl;
  unquoted = refl;
  opens = λ gap identifier name h. ap (λ b. cond b (public identifier name) malformed) h;
  only = λ start identifier name i n h. only_public start identifier name i n (is_keyword (codes "SYSTEM") start) (is_keyword (codes "PUBLIC") start) refl h;
  some = λ identifier name. (λ h. cc, λ h. cc);
}

pub says_system : (line identifier name : List ℕ) → (line_of line ≡ system identifier name) ↔ IsEntry (codes "SYSTEM") identifier name line
says_system line identifier name = (to_spelling opens_system line identifier name, from_spelling opens_system line identifier name)

pub says_public : (line identifier name : List ℕ) → (line_of line ≡ public identifier name) ↔ IsEntry (codes "PUBLIC") identifier name line
says_public line identifier name = (to_spelling opens_public line identifier name, from_spelling opens_public line identifier name)
