-- What the scanner finds is an item that the text begins with.
use Rattle.std.proofs.Common.{◌≡◌, ◌∙◌, ℕ, zero, suc, ◌+◌, ◌<◌, ◌≤◌, List, [], ◌∷◌, ◌++◌, length, take, drop, get_or, Bool, true, false, not, cond, eqb, ◌&&◌, ◌||◌, Option, Some, None, Ok, Err, refl, ap, sym, ⊎_elim, inl, inr, arith, length-append, append_assoc, length-drop, lit<}
use Rattle.std.specs.Prelude.{codes, nat_eq, nat_lt, position, Result}
use Rattle.std.specs.List.{list_any, starts_with, prefix_len}
use Rattle.std.specs.Option.{option_map}
use Rattle.std.proofs.Math.Seq.{drop-append_seam}
use Rattle.std.proofs.lemmas.List.{take-append-drop, length-take-le}
use Rattle.std.proofs.lemmas.List.Sums.{prefix_len-le-length}
use Rattle.std.proofs.lemmas.Bool.{cond_both, and_parts, or_cases, or_left, or_right, or_from, ltb-true, eqb-true, not-true, not-false, false≢true}
use Rattle.jats_chars.specs.Classes.{is_space, is_name_start, is_name_char}
use Rattle.dtd_scanner.specs.Items.{first_is, Holds, is_xml, EndsPi, leaves_word, IsDeclaration, IsItem, EndsBefore, begins_item, openings}
use Rattle.dtd_scanner.specs.Scanning.{first_pair, body_len, name_len, comment_end, comment_len, leaves_target, pi_len, reference_len, section_start_len, declaration_len, ends_word, item_of_length, first_declaration, first_item}
use Rattle.dtd_scanner.specs.declared.item.Item.{Item}
use Rattle.dtd_scanner.specs.declared.item.ItemKind.{ItemKind}
use Rattle.dtd_scanner.specs.declared.item.ItemKind.TheVariants.{Blank, Comment, Pi, Reference, SectionStart, ElementDecl, AttlistDecl, EntityDecl, NotationDecl}
use Rattle.dtd_scanner.specs.declared.item.ScanFault.{ScanFault}
use Rattle.dtd_scanner.specs.declared.item.ScanFault.TheVariants.{Malformed, Unclosed}
use Rattle.dtd_scanner.proofs.Runs.{starts_found, run_passes, run_ends, none_holds}
use Rattle.dtd_scanner.proofs.Pairs.{pair_found}
use Rattle.dtd_scanner.proofs.Bodies.{body_found, body_leaves}
use Rattle.dtd_scanner.proofs.Targets.{name_found}

-- the text begins with an item of this kind and length
pub record BeginsWith (text : List ℕ) (kind : ItemKind) (len : ℕ) : Type 0 where
  pub item : List ℕ
  pub rest : List ℕ
  pub split : text ≡ item ++ rest
  pub size : len ≡ length item
  pub is : IsItem kind item
  pub ends : EndsBefore kind rest

guard_some : (b : Bool) (o : Option ℕ) (n : ℕ) → cond b o None ≡ Some n → (b ≡ true) × (o ≡ Some n)
guard_some true o n e = (refl, e)
guard_some false o n e = absurd cc

map_some : (f : ℕ → ℕ) (o : Option ℕ) (n : ℕ) → option_map f o ≡ Some n → (k : ℕ) × (o ≡ Some k) × (f k ≡ n)
map_some f None n e = absurd cc
map_some f (Some k) n e = (k, refl, cc)

comment_end_some : (text : List ℕ) (o : Option ℕ) (n : ℕ) → comment_end text o ≡ Some n → (k : ℕ) × (o ≡ Some k) × (starts_with nat_eq (drop k text) (codes "-->") ≡ true) × (k + 7 ≡ n)
comment_end_some text None n e = absurd cc
comment_end_some text (Some k) n e =
    let parts = guard_some (starts_with nat_eq (drop k text) (codes "-->")) (Some (k + 7)) n e in
    (k, refl, parts.0, let some = parts.1 in cc)

-- what stands behind a front of known length
back_of : (text front back : List ℕ) (n : ℕ) → text ≡ front ++ back → n ≡ length front → drop n text ≡ back
back_of text front back n split size = rw (split, size) (drop-append_seam front back)

-- an opening, what stands behind it up to an ending, and the rest
spelled : (text opening inner body ending rest : List ℕ) → text ≡ opening ++ inner → inner ≡ body ++ (ending ++ rest) → text ≡ (opening ++ (body ++ ending)) ++ rest
spelled text opening inner body ending rest begins is = begins ∙ ap (λ t. opening ++ t) (is ∙ sym (append_assoc body ending rest)) ∙ sym (append_assoc opening (body ++ ending) rest)

regrouped : (text front ending rest : List ℕ) → text ≡ front ++ (ending ++ rest) → text ≡ (front ++ ending) ++ rest
regrouped text front ending rest is = is ∙ sym (append_assoc front ending rest)

-- a front, and what stands behind it
taken : (n : ℕ) (text back : List ℕ) → drop n text ≡ back → text ≡ take n text ++ back
taken n text back is = sym (take-append-drop n text) ∙ ap (λ t. take n text ++ t) is

found_blank : (text : List ℕ) → first_is is_space text ≡ true → BeginsWith text Blank (prefix_len is_space text)
found_blank [] space = absurd (false≢true space)
found_blank (c ∷ cs) space =
    let n = prefix_len is_space (c ∷ cs) in
    let some : n ≡ suc (prefix_len is_space cs) = ap (λ b. cond b (1 + prefix_len is_space cs) 0) space ∙ omega arith in
    record {
      item = take n (c ∷ cs);
      rest = drop n (c ∷ cs);
      split = sym (take-append-drop n (c ∷ cs));
      size = sym (length-take-le n (c ∷ cs) (prefix_len-le-length is_space (c ∷ cs)));
      is = (λ none. let same : take (suc (prefix_len is_space cs)) (c ∷ cs) ≡ [] = ap (λ k. take k (c ∷ cs)) (sym some) ∙ none in cc, run_passes is_space (c ∷ cs));
      ends = run_ends is_space (c ∷ cs);
    }

found_comment : (text : List ℕ) (n : ℕ) → starts_with nat_eq text (codes "<!--") ≡ true → comment_len text ≡ Some n → BeginsWith text Comment n
found_comment text n begins e =
    let inner = drop 4 text in
    let some = comment_end_some inner (first_pair 45 45 inner) n e in
    let pair = pair_found 45 45 inner some.0 some.1 in
    let marks : drop some.0 inner ≡ 45 ∷ 45 ∷ pair.rest = back_of inner pair.inside (45 ∷ 45 ∷ pair.rest) some.0 pair.split pair.place in
    let close : drop some.0 inner ≡ codes "-->" ++ drop 3 (drop some.0 inner) = starts_found (codes "-->") (drop some.0 inner) some.2 in
    let rest : pair.rest ≡ 62 ∷ drop 3 (drop some.0 inner) = cc in
    record {
      item = codes "<!--" ++ (pair.inside ++ codes "-->");
      rest = drop 3 (drop some.0 inner);
      split = spelled text (codes "<!--") inner pair.inside (codes "-->") (drop 3 (drop some.0 inner)) (starts_found (codes "<!--") text begins)
          (pair.split ∙ ap (λ (t : List ℕ). pair.inside ++ (45 ∷ 45 ∷ t)) rest);
      size = simp length-append (omega (arith, some.3, pair.place));
      is = (pair.inside, pair.none, pair.apart refl, refl);
      ends = tt;
    }

-- the end of a processing instruction that the scanner found
found_tail : (after inside rest : List ℕ) → after ≡ inside ++ (63 ∷ 62 ∷ rest) → first_pair 63 62 after ≡ Some (length inside) → (¬ Holds inside (codes "?>"))
    → (first_is is_space after || starts_with nat_eq after (codes "?>")) ≡ true → EndsPi (inside ++ codes "?>")
found_tail after [] rest split pair none leaves = inl refl
found_tail after (c ∷ inside) rest split pair none leaves =
    ⊎_elim
    (λ space. inr (c, inside, sym (ap (first_is is_space) split) ∙ space, (λ holds. none (c ∷ holds.0, holds.1, ap (λ t. c ∷ t) holds.2)), refl))
    (λ close. let first : Some 0 ≡ Some (length (c ∷ inside)) = sym (ap (first_pair 63 62) (starts_found (codes "?>") after close)) ∙ pair in absurd cc)
    (or_cases (first_is is_space after) (starts_with nat_eq after (codes "?>")) leaves)

name_within : (text : List ℕ) → name_len text ≤ length text
name_within text = cond_both (first_is is_name_start text) (prefix_len is_name_char text) 0 (λ n. n ≤ length text) (λ _. prefix_len-le-length is_name_char text) (λ _. omega arith)

found_pi : (text : List ℕ) (n : ℕ) → starts_with nat_eq text (codes "<?") ≡ true → pi_len text ≡ Some n → BeginsWith text Pi n
found_pi text n begins e =
    let inner = drop 2 text in
    let m = name_len inner in
    let after = drop m inner in
    let guarded = guard_some (leaves_target m inner) (option_map (λ k. m + k + 4) (first_pair 63 62 after)) n e in
    let some = map_some (λ k. m + k + 4) (first_pair 63 62 after) n guarded.1 in
    let pair = pair_found 63 62 after some.0 some.1 in
    let target = and_parts (nat_lt 0 m) (not (is_xml (take m inner)) && (first_is is_space after || starts_with nat_eq after (codes "?>"))) guarded.0 in
    let form = and_parts (not (is_xml (take m inner))) (first_is is_space after || starts_with nat_eq after (codes "?>")) target.1 in
    let front : length (take m inner) ≡ m = length-take-le m inner (name_within inner) in
    record {
      item = codes "<?" ++ (take m inner ++ (pair.inside ++ codes "?>"));
      rest = pair.rest;
      split = spelled text (codes "<?") inner (take m inner) (pair.inside ++ codes "?>") pair.rest (starts_found (codes "<?") text begins)
          (taken m inner ((pair.inside ++ codes "?>") ++ pair.rest) (regrouped after pair.inside (codes "?>") pair.rest pair.split));
      size = simp length-append (omega (arith, some.2, pair.place, front));
      is = (
        take m inner,
        pair.inside ++ codes "?>",
        name_found inner (ltb-true 0 m target.0),
        not-true (is_xml (take m inner)) form.0,
        found_tail after pair.inside pair.rest pair.split (some.1 ∙ ap Some pair.place) pair.none form.1,
        refl,
      );
      ends = tt;
    }

found_reference : (text : List ℕ) (n : ℕ) → starts_with nat_eq text (codes "%") ≡ true → reference_len text ≡ Some n → BeginsWith text Reference n
found_reference text n begins e =
    let inner = drop 1 text in
    let m = name_len inner in
    let guarded = guard_some (nat_lt 0 m && starts_with nat_eq (drop m inner) (codes ";")) (Some (m + 2)) n e in
    let form = and_parts (nat_lt 0 m) (starts_with nat_eq (drop m inner) (codes ";")) guarded.0 in
    let front : length (take m inner) ≡ m = length-take-le m inner (name_within inner) in
    let size : m + 2 ≡ n = let some = guarded.1 in cc in
    record {
      item = codes "%" ++ (take m inner ++ codes ";");
      rest = drop 1 (drop m inner);
      split = spelled text (codes "%") inner (take m inner) (codes ";") (drop 1 (drop m inner)) (starts_found (codes "%") text begins)
          (taken m inner (codes ";" ++ drop 1 (drop m inner)) (starts_found (codes ";") (drop m inner) form.1));
      size = simp length-append (omega arith);
      is = (take m inner, name_found inner (ltb-true 0 m form.0), refl);
      ends = tt;
    }

-- the character that ends a run of others
next_is : (q : ℕ) (text : List ℕ) → 0 < length text → first_is (λ c. not (eqb c q)) text ≡ false → text ≡ q ∷ drop 1 text
next_is q [] some ends = absurd (omega arith)
next_is q (c ∷ cs) some ends = ap (λ d. d ∷ cs) (eqb-true c q (not-false (eqb c q) ends))

found_section : (text : List ℕ) (n : ℕ) → starts_with nat_eq text (codes "<![") ≡ true → section_start_len text ≡ Some n → BeginsWith text SectionStart n
found_section text n begins e =
    let inner = drop 3 text in
    let m = prefix_len (λ c. not (eqb c 91)) inner in
    let some = map_some (λ k. k + 4) (position (λ c. eqb c 91) inner) n e in
    let guarded = guard_some (nat_lt m (length inner)) (Some m) some.0 some.1 in
    let within : m < length inner = ltb-true m (length inner) guarded.0 in
    let same : m ≡ some.0 = let is = guarded.1 in cc in
    let front : length (take m inner) ≡ m = length-take-le m inner (omega arith) in
    let close : drop m inner ≡ 91 ∷ drop 1 (drop m inner) = next_is 91 (drop m inner) (omega (arith, length-drop m inner)) (run_ends (λ c. not (eqb c 91)) inner) in
    record {
      item = codes "<![" ++ (take m inner ++ codes "[");
      rest = drop 1 (drop m inner);
      split = spelled text (codes "<![") inner (take m inner) (codes "[") (drop 1 (drop m inner)) (starts_found (codes "<![") text begins)
          (taken m inner (codes "[" ++ drop 1 (drop m inner)) close);
      size = simp length-append (omega (arith, some.2));
      is = (take m inner, none_holds 91 (take m inner) (run_passes (λ c. not (eqb c 91)) inner), refl);
      ends = tt;
    }

-- a declaration that the text begins with
record BeginsDeclaration (word text : List ℕ) (len : ℕ) : Type 0 where
  item : List ℕ
  rest : List ℕ
  split : text ≡ item ++ rest
  size : len ≡ length item
  is : IsDeclaration word item

found_declaration : (word text : List ℕ) (n : ℕ) → starts_with nat_eq text word ≡ true → declaration_len (length word) text ≡ Some n → BeginsDeclaration word text n
found_declaration word text n begins e =
    let inner = drop (length word) text in
    let guarded = guard_some (ends_word inner) (option_map (λ k. length word + k + 1) (body_len None inner)) n e in
    let some = map_some (λ k. length word + k + 1) (body_len None inner) n guarded.1 in
    let found = body_found None inner some.0 some.1 in
    let leaves : leaves_word found.body ≡ true = body_leaves found.body found.rest (sym (ap ends_word found.split) ∙ guarded.0) (sym (ap (body_len None) found.split) ∙ some.1 ∙ ap Some found.place) in
    record {
      item = word ++ (found.body ++ codes ">");
      rest = found.rest;
      split = spelled text word inner found.body (codes ">") found.rest (starts_found word text begins) found.split;
      size = simp length-append (omega (arith, some.2, found.place));
      is = (found.body, leaves, found.is, refl);
    }

-- the same as an item of a kind of declarations
of_declaration : (kind : ItemKind) (word text : List ℕ) (n : ℕ) → ((item : List ℕ) → IsDeclaration word item → IsItem kind item) → ((rest : List ℕ) → EndsBefore kind rest)
    → BeginsDeclaration word text n → BeginsWith text kind n
of_declaration kind word text n same free found = record { item = found.item; rest = found.rest; split = found.split; size = found.size; is = same found.item found.is; ends = free found.rest }

-- the answer is right for this text
abbrev pub IsRight : List ℕ → Result Item ScanFault → Type 0
IsRight text (Ok item) = (begins_item text ≡ true) × BeginsWith text item.kind item.end
IsRight text (Err Malformed) = begins_item text ≡ false
IsRight text (Err Unclosed) = begins_item text ≡ true

-- one of the openings stands at the front
any_opening : (words : List (List ℕ)) (k : ℕ) (text : List ℕ) → k < length words → starts_with nat_eq text (get_or words k []) ≡ true → list_any (λ word. starts_with nat_eq text word) words ≡ true
any_opening [] k text within begins = absurd (omega arith)
any_opening (word ∷ words) zero text within begins = or_left (starts_with nat_eq text word) (list_any (λ w. starts_with nat_eq text w) words) begins
any_opening (word ∷ words) (suc k) text within begins =
    or_right (starts_with nat_eq text word) (list_any (λ w. starts_with nat_eq text w) words) (any_opening words k text (omega arith) begins)

module _ (text : List ℕ) where
  opens : (k : ℕ) → k < 8 → starts_with nat_eq text (get_or openings k []) ≡ true → begins_item text ≡ true
  unfolding begins_item
  opens k within begins = or_right (first_is is_space text) (list_any (λ word. starts_with nat_eq text word) openings) (any_opening openings k text within begins)

  right_closed : (kind : ItemKind) (o : Option ℕ) → begins_item text ≡ true → ((n : ℕ) → o ≡ Some n → BeginsWith text kind n) → IsRight text (item_of_length kind o)
  right_closed kind None begins found = begins
  right_closed kind (Some n) begins found = (begins, found n refl)

  -- the answer on the four declarations, where nothing else begins
  right_declaration : first_is is_space text ≡ false → starts_with nat_eq text (codes "%") ≡ false → starts_with nat_eq text (codes "<!--") ≡ false → starts_with nat_eq text (codes "<?") ≡ false
      → starts_with nat_eq text (codes "<![") ≡ false → IsRight text (first_declaration text)
  unfolding begins_item
  right_declaration blank reference comment pi section =
      cond_both (starts_with nat_eq text (codes "<!ELEMENT")) _ _ (IsRight text)
      (λ begins. right_closed ElementDecl (declaration_len 9 text) (opens 4 (lit< tt) begins) (λ n e. of_declaration ElementDecl (codes "<!ELEMENT") text n (λ _ d. d) (λ _. tt) (found_declaration (codes "<!ELEMENT") text n begins e)))
      (λ element. cond_both (starts_with nat_eq text (codes "<!ATTLIST")) _ _ (IsRight text)
      (λ begins. right_closed AttlistDecl (declaration_len 9 text) (opens 5 (lit< tt) begins) (λ n e. of_declaration AttlistDecl (codes "<!ATTLIST") text n (λ _ d. d) (λ _. tt) (found_declaration (codes "<!ATTLIST") text n begins e)))
      (λ attlist. cond_both (starts_with nat_eq text (codes "<!ENTITY")) _ _ (IsRight text)
      (λ begins. right_closed EntityDecl (declaration_len 8 text) (opens 6 (lit< tt) begins) (λ n e. of_declaration EntityDecl (codes "<!ENTITY") text n (λ _ d. d) (λ _. tt) (found_declaration (codes "<!ENTITY") text n begins e)))
      (λ entity. cond_both (starts_with nat_eq text (codes "<!NOTATION")) _ _ (IsRight text)
      (λ begins. right_closed NotationDecl (declaration_len 10 text) (opens 7 (lit< tt) begins) (λ n e. of_declaration NotationDecl (codes "<!NOTATION") text n (λ _ d. d) (λ _. tt) (found_declaration (codes "<!NOTATION") text n begins e)))
      (λ notation. or_from _ _ blank (or_from _ _ comment (or_from _ _ pi (or_from _ _ reference (or_from _ _ section (or_from _ _ element (or_from _ _ attlist (or_from _ _ entity (or_from _ _ notation refl))))))))))))

  -- What the scanner answers is right.
  pub right : IsRight text (first_item text)
  unfolding first_item begins_item
  right =
      cond_both (first_is is_space text) _ _ (IsRight text)
      (λ space. (or_left (first_is is_space text) (list_any (λ word. starts_with nat_eq text word) openings) space, found_blank text space))
      (λ blank. cond_both (starts_with nat_eq text (codes "%")) _ _ (IsRight text)
      (λ begins. right_closed Reference (reference_len text) (opens 2 (lit< tt) begins) (λ n e. found_reference text n begins e))
      (λ reference. cond_both (starts_with nat_eq text (codes "<!--")) _ _ (IsRight text)
      (λ begins. right_closed Comment (comment_len text) (opens 0 (lit< tt) begins) (λ n e. found_comment text n begins e))
      (λ comment. cond_both (starts_with nat_eq text (codes "<?")) _ _ (IsRight text)
      (λ begins. right_closed Pi (pi_len text) (opens 1 (lit< tt) begins) (λ n e. found_pi text n begins e))
      (λ pi. cond_both (starts_with nat_eq text (codes "<![")) _ _ (IsRight text)
      (λ begins. right_closed SectionStart (section_start_len text) (opens 3 (lit< tt) begins) (λ n e. found_section text n begins e))
      (λ section. right_declaration blank reference comment pi section)))))
