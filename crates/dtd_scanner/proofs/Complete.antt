-- The scanner finds each item that a text begins with.
use Rattle.std.proofs.Common.{◌≡◌, ◌∙◌, ℕ, suc, ◌+◌, ◌<◌, List, [], ◌∷◌, ◌++◌, length, take, drop, true, false, not, cond, eqb, ◌&&◌, ◌||◌, Option, Some, None, Ok, refl, ap, sym, subst, ⊎_elim, arith, length-append, append_assoc}
use Rattle.std.specs.Prelude.{codes, nat_eq, nat_lt}
use Rattle.std.specs.List.{list_all, starts_with, prefix_len}
use Rattle.std.specs.Option.{option_map}
use Rattle.std.proofs.Math.Seq.{drop-append_seam, take-append_seam}
use Rattle.std.proofs.lemmas.Bool.{cond-true, and_parts, and_from, or_left, or_right, lt-ltb, not_from_false, false≢true}
use Rattle.jats_chars.specs.Classes.{is_space, is_name_char}
use Rattle.jats_chars.specs.Names.{is_name}
use Rattle.dtd_scanner.specs.Items.{first_is, Holds, EndsIn, is_xml, EndsPi, IsBody, leaves_word, IsItem, EndsBefore, IsBlank}
use Rattle.dtd_scanner.specs.Scanning.{first_pair, body_len, comment_end, comment_len, leaves_target, pi_end, pi_len, reference_end, reference_len, section_start_len, declaration_len, ends_word, item_of_length, first_item}
use Rattle.dtd_scanner.specs.declared.item.ItemKind.{ItemKind}
use Rattle.dtd_scanner.specs.declared.item.ItemKind.TheVariants.{Blank, Comment, Pi, Reference, SectionStart, ElementDecl, AttlistDecl, EntityDecl, NotationDecl}
use Rattle.dtd_scanner.proofs.Runs.{starts_here, run_len, none_passes}
use Rattle.dtd_scanner.proofs.Pairs.{pair_first}
use Rattle.dtd_scanner.proofs.Bodies.{body_ends, word_ends}
use Rattle.dtd_scanner.proofs.Targets.{name_runs, space_no_name}

-- the item of a kind and a length
sized : (kind : ItemKind) (o : Option ℕ) (m n : ℕ) → o ≡ Some m → m ≡ n → item_of_length kind o ≡ Ok (record { kind = kind; end = n })
sized kind o m n is same = ap (item_of_length kind) (is ∙ ap Some same)

name_some : (name : List ℕ) → is_name name ≡ true → 0 < length name
name_some [] is = absurd (false≢true is)
name_some (c ∷ cs) is = omega arith

comment_complete : (inside rest : List ℕ) → (¬ Holds inside (codes "--")) → (¬ EndsIn inside (codes "-")) → comment_len (codes "<!--" ++ (inside ++ (codes "-->" ++ rest))) ≡ Some (length inside + 7)
comment_complete inside rest none apart =
    let text = inside ++ (codes "-->" ++ rest) in
    ap (comment_end text) (pair_first 45 45 inside (62 ∷ rest) none (λ _ ends. apart ends))
    ∙ cond-true (starts_with nat_eq (drop (length inside) text) (codes "-->")) (Some (length inside + 7)) None (ap (λ (t : List ℕ). starts_with nat_eq t (codes "-->")) (drop-append_seam inside (codes "-->" ++ rest)) ∙ starts_here (codes "-->") rest)

-- what follows the name of a processing instruction, for the scanner
record PiTail (after : List ℕ) : Type 0 where
  at : ℕ
  size : length after ≡ at + 2
  pair : (rest : List ℕ) → first_pair 63 62 (after ++ rest) ≡ Some at
  outside : (rest : List ℕ) → first_is is_name_char (after ++ rest) ≡ false
  leaves : (rest : List ℕ) → (first_is is_space (after ++ rest) || starts_with nat_eq (after ++ rest) (codes "?>")) ≡ true

closed_tail : PiTail (codes "?>")
unfolding is_name_char
closed_tail = record { at = 0; size = refl; pair = λ rest. refl; outside = λ rest. refl; leaves = λ rest. or_right (is_space 63) true refl }

spaced_none : (space : ℕ) (inside before after : List ℕ) → is_space space ≡ true → (¬ Holds inside (codes "?>")) → space ∷ inside ≡ before ++ (63 ∷ 62 ∷ after) → ⊥
unfolding is_space
spaced_none space inside [] after is none e = let same : space ≡ 63 = cc in absurd (false≢true (sym (ap is_space same) ∙ is))
spaced_none space inside (c ∷ before) after is none e = none (before, after, cc)

spaced_tail : (space : ℕ) (inside : List ℕ) → is_space space ≡ true → (¬ Holds inside (codes "?>")) → PiTail (space ∷ inside ++ codes "?>")
spaced_tail space inside is none = record {
  at = suc (length inside);
  size = simp length-append (omega arith);
  pair = λ rest. ap (first_pair 63 62) (append_assoc (space ∷ inside) (codes "?>") rest)
      ∙ pair_first 63 62 (space ∷ inside) rest (λ holds. spaced_none space inside holds.0 holds.1 is none holds.2) (λ same. absurd (omega arith));
  outside = λ rest. space_no_name space is;
  leaves = λ rest. or_left (is_space space) (starts_with nat_eq ((space ∷ inside ++ codes "?>") ++ rest) (codes "?>")) is;
}

pi_tail : (after : List ℕ) → EndsPi after → PiTail after
pi_tail after is = ⊎_elim (λ ends. subst PiTail (sym ends) closed_tail) (λ spaced. subst PiTail (sym spaced.4) (spaced_tail spaced.0 spaced.1 spaced.2 spaced.3)) is

pi_complete : (name after rest : List ℕ) → is_name name ≡ true → is_xml name ≡ false → (tail : PiTail after) → pi_len (codes "<?" ++ (name ++ (after ++ rest))) ≡ Some (length name + tail.at + 4)
pi_complete name after rest is other tail =
    let text = name ++ (after ++ rest) in
    let n = length name in
    let front : take n text ≡ name = take-append_seam name (after ++ rest) in
    let back : drop n text ≡ after ++ rest = drop-append_seam name (after ++ rest) in
    let leaves : leaves_target n text ≡ true = and_from (nat_lt 0 n) (not (is_xml (take n text)) && (first_is is_space (drop n text) || starts_with nat_eq (drop n text) (codes "?>")))
    (lt-ltb 0 n (name_some name is))
    (and_from (not (is_xml (take n text))) (first_is is_space (drop n text) || starts_with nat_eq (drop n text) (codes "?>")) (not_from_false (is_xml (take n text)) (ap is_xml front ∙ other))
    (ap (λ (t : List ℕ). first_is is_space t || starts_with nat_eq t (codes "?>")) back ∙ tail.leaves rest)) in
    ap (λ k. pi_end k text) (name_runs name (after ++ rest) is (tail.outside rest))
    ∙ cond-true (leaves_target n text) (option_map (λ k. n + k + 4) (first_pair 63 62 (drop n text))) None leaves
    ∙ ap (option_map (λ k. n + k + 4)) (ap (first_pair 63 62) back ∙ tail.pair rest)

reference_complete : (name rest : List ℕ) → is_name name ≡ true → reference_len (codes "%" ++ (name ++ (codes ";" ++ rest))) ≡ Some (length name + 2)
unfolding is_name_char
reference_complete name rest is =
    let text = name ++ (codes ";" ++ rest) in
    let n = length name in
    ap (λ k. reference_end k text) (name_runs name (codes ";" ++ rest) is refl)
    ∙ cond-true (nat_lt 0 n && starts_with nat_eq (drop n text) (codes ";")) (Some (n + 2)) None
    (and_from (nat_lt 0 n) (starts_with nat_eq (drop n text) (codes ";")) (lt-ltb 0 n (name_some name is))
    (ap (λ (t : List ℕ). starts_with nat_eq t (codes ";")) (drop-append_seam name (codes ";" ++ rest)) ∙ starts_here (codes ";") rest))

section_complete : (keyword rest : List ℕ) → (¬ Holds keyword (codes "[")) → section_start_len (codes "<![" ++ (keyword ++ (codes "[" ++ rest))) ≡ Some (length keyword + 4)
section_complete keyword rest none =
    let text = keyword ++ (codes "[" ++ rest) in
    let run : prefix_len (λ c. not (eqb c 91)) text ≡ length keyword = run_len (λ c. not (eqb c 91)) keyword (codes "[" ++ rest) (none_passes 91 keyword none) refl in
    let within : length keyword < length text = simp length-append (omega arith) in
    ap (option_map (λ k. k + 4))
    (ap (λ n. cond (nat_lt n (length text)) (Some n) None) run ∙ cond-true (nat_lt (length keyword) (length text)) (Some (length keyword)) None (lt-ltb (length keyword) (length text) within))

declaration_complete : (w : ℕ) (text body rest : List ℕ) → drop w text ≡ body ++ (62 ∷ rest) → leaves_word body ≡ true → IsBody body → declaration_len w text ≡ Some (w + length body + 1)
declaration_complete w text body rest is leaves whole =
    ap (λ (t : List ℕ). cond (ends_word t) (option_map (λ k. w + k + 1) (body_len None t)) None) is
    ∙ cond-true (ends_word (body ++ (62 ∷ rest))) (option_map (λ k. w + k + 1) (body_len None (body ++ (62 ∷ rest)))) None (word_ends body rest leaves)
    ∙ ap (option_map (λ k. w + k + 1)) (body_ends body rest whole)

-- the text begins with this item of this kind, for the scanner
abbrev pub Finds : ItemKind → List ℕ → List ℕ → Type 0
Finds kind rest item = first_item (item ++ rest) ≡ Ok (record { kind = kind; end = length item })

find_blank : (item rest : List ℕ) → IsBlank item → first_is is_space rest ≡ false → Finds Blank rest item
unfolding first_item
find_blank [] rest is ends = absurd (is.0 refl)
find_blank (c ∷ item) rest is ends =
    let parts = and_parts (is_space c) (list_all is_space item) is.1 in
    cond-true (is_space c) (Ok (record { kind = Blank; end = prefix_len is_space (c ∷ item ++ rest) })) _ parts.0
    ∙ ap (λ n. Ok (record { kind = Blank; end = n })) (run_len is_space (c ∷ item) rest is.1 ends)

find_comment : (inside rest : List ℕ) → (¬ Holds inside (codes "--")) → (¬ EndsIn inside (codes "-")) → Finds Comment rest (codes "<!--" ++ (inside ++ codes "-->"))
unfolding first_item is_space
find_comment inside rest none apart =
    ap (λ t. item_of_length Comment (comment_len (codes "<!--" ++ t))) (append_assoc inside (codes "-->") rest)
    ∙ sized Comment (comment_len (codes "<!--" ++ (inside ++ (codes "-->" ++ rest)))) (length inside + 7) (length (codes "<!--" ++ (inside ++ codes "-->"))) (comment_complete inside rest none apart) (simp length-append (omega arith))

find_pi : (name after rest : List ℕ) → is_name name ≡ true → is_xml name ≡ false → EndsPi after → Finds Pi rest (codes "<?" ++ (name ++ after))
unfolding first_item is_space
find_pi name after rest is other ends =
    let tail = pi_tail after ends in
    let size : length name + tail.at + 4 ≡ length (codes "<?" ++ (name ++ after)) = simp length-append (omega (arith, tail.size)) in
    ap (λ t. item_of_length Pi (pi_len (codes "<?" ++ t))) (append_assoc name after rest)
    ∙ sized Pi (pi_len (codes "<?" ++ (name ++ (after ++ rest)))) (length name + tail.at + 4) (length (codes "<?" ++ (name ++ after))) (pi_complete name after rest is other tail) size

find_reference : (name rest : List ℕ) → is_name name ≡ true → Finds Reference rest (codes "%" ++ (name ++ codes ";"))
unfolding first_item is_space
find_reference name rest is =
    ap (λ t. item_of_length Reference (reference_len (codes "%" ++ t))) (append_assoc name (codes ";") rest)
    ∙ sized Reference (reference_len (codes "%" ++ (name ++ (codes ";" ++ rest)))) (length name + 2) (length (codes "%" ++ (name ++ codes ";"))) (reference_complete name rest is) (simp length-append (omega arith))

find_section : (keyword rest : List ℕ) → (¬ Holds keyword (codes "[")) → Finds SectionStart rest (codes "<![" ++ (keyword ++ codes "["))
unfolding first_item is_space
find_section keyword rest none =
    ap (λ t. item_of_length SectionStart (section_start_len (codes "<![" ++ t))) (append_assoc keyword (codes "[") rest)
    ∙ sized SectionStart (section_start_len (codes "<![" ++ (keyword ++ (codes "[" ++ rest)))) (length keyword + 4) (length (codes "<![" ++ (keyword ++ codes "["))) (section_complete keyword rest none) (simp length-append (omega arith))

-- a declaration after an opening word of this length
find_declaration : (kind : ItemKind) (w : ℕ) (text body rest : List ℕ) → drop w text ≡ (body ++ codes ">") ++ rest → leaves_word body ≡ true → IsBody body
    → item_of_length kind (declaration_len w text) ≡ Ok (record { kind = kind; end = w + length (body ++ codes ">") })
find_declaration kind w text body rest is leaves whole =
    let size : w + length body + 1 ≡ w + length (body ++ codes ">") = simp length-append (omega arith) in
    sized kind (declaration_len w text) (w + length body + 1) (w + length (body ++ codes ">")) (declaration_complete w text body rest (is ∙ append_assoc body (codes ">") rest) leaves whole) size

module _ (body rest : List ℕ) (leaves : leaves_word body ≡ true) (whole : IsBody body) where
  find_element : Finds ElementDecl rest (codes "<!ELEMENT" ++ (body ++ codes ">"))
  unfolding first_item is_space
  find_element = find_declaration ElementDecl 9 (codes "<!ELEMENT" ++ ((body ++ codes ">") ++ rest)) body rest refl leaves whole ∙ ap (λ n. Ok (record { kind = ElementDecl; end = n })) (omega arith)

  find_attlist : Finds AttlistDecl rest (codes "<!ATTLIST" ++ (body ++ codes ">"))
  unfolding first_item is_space
  find_attlist = find_declaration AttlistDecl 9 (codes "<!ATTLIST" ++ ((body ++ codes ">") ++ rest)) body rest refl leaves whole ∙ ap (λ n. Ok (record { kind = AttlistDecl; end = n })) (omega arith)

  find_entity : Finds EntityDecl rest (codes "<!ENTITY" ++ (body ++ codes ">"))
  unfolding first_item is_space
  find_entity = find_declaration EntityDecl 8 (codes "<!ENTITY" ++ ((body ++ codes ">") ++ rest)) body rest refl leaves whole ∙ ap (λ n. Ok (record { kind = EntityDecl; end = n })) (omega arith)

  find_notation : Finds NotationDecl rest (codes "<!NOTATION" ++ (body ++ codes ">"))
  unfolding first_item is_space
  find_notation = find_declaration NotationDecl 10 (codes "<!NOTATION" ++ ((body ++ codes ">") ++ rest)) body rest refl leaves whole ∙ ap (λ n. Ok (record { kind = NotationDecl; end = n })) (omega arith)

-- An item that a text begins with is the first item.
pub complete : (kind : ItemKind) (item rest : List ℕ) → IsItem kind item → EndsBefore kind rest → Finds kind rest item
complete Blank item rest is ends = find_blank item rest is ends
complete Comment item rest is ends = subst (Finds Comment rest) (sym is.3) (find_comment is.0 rest is.1 is.2)
complete Pi item rest is ends = subst (Finds Pi rest) (sym is.5) (find_pi is.0 is.1 rest is.2 is.3 is.4)
complete Reference item rest is ends = subst (Finds Reference rest) (sym is.2) (find_reference is.0 rest is.1)
complete SectionStart item rest is ends = subst (Finds SectionStart rest) (sym is.2) (find_section is.0 rest is.1)
complete ElementDecl item rest is ends = subst (Finds ElementDecl rest) (sym is.3) (find_element is.0 rest is.1 is.2)
complete AttlistDecl item rest is ends = subst (Finds AttlistDecl rest) (sym is.3) (find_attlist is.0 rest is.1 is.2)
complete EntityDecl item rest is ends = subst (Finds EntityDecl rest) (sym is.3) (find_entity is.0 rest is.1 is.2)
complete NotationDecl item rest is ends = subst (Finds NotationDecl rest) (sym is.3) (find_notation is.0 rest is.1 is.2)
