-- Characters as they are written in values and runs.
use Rattle.std.proofs.Common.{◌≡◌, ◌∙◌, ◌≢◌, ℕ, ◌<◌, ◌≤◌, List, [], ◌∷◌, ◌++◌, length, Bool, true, false, not, eqb, ◌&&◌, ◌||◌, Some, Ok, refl, ap, sym, subst, arith, append_assoc, codes, inl, ⊎_elim}
use Rattle.std.specs.Prelude.{IsTrue, nat_eq, nat_le, map, if◌then◌else◌}
use Rattle.std.specs.List.{list_all, flat_map, starts_with, AllByRecursion}
use Rattle.std.specs.Fmt.{decimal}
use Rattle.std.proofs.lemmas.Bool.{and_parts, and_from, eqb-true, eqb-false, eq-eqb, ne_eqb, leb-true, or_cases, not_from_false, false≢true}
use Rattle.std.proofs.lemmas.List.Folds.{list_all-append}
use Rattle.jats_chars.specs.Classes.{is_char, is_space, is_name_start, is_name_char}
use Rattle.jats_chars.specs.Names.{is_name}
use Rattle.dtd_scanner.proofs.Targets.{space_small}
use Rattle.attlist_merge.specs.Grammar.{is_value}
use Rattle.decl_set.specs.Declarations.{Entity}
use Rattle.decl_set.specs.Values.{value_of, value_piece, predefined}
use Rattle.decl_set.specs.ValueEscaped.{decimal_reference}
use Rattle.decl_set.specs.ValueFrames.{StandsFor}
use Rattle.decl_set.proofs.ValueDecimals.{decimal_written}
use Rattle.decl_set.proofs.ValueEscapes.{Writes, itself_writes}
use Rattle.decl_set.proofs.ValueFacts.{value_written}
use Rattle.article_tree.specs.Tokens.{Token, letter, coded, named, Begins}
use Rattle.article_tree.specs.Grammar.{characters}
use Rattle.article_tree.specs.Writing.{value_char, run_char, line_end}
use Rattle.article_tree.proofs.Seams.{Seam}

-- ---- characters of values

-- what holds of each way to write a character
value_cases : (P : ℕ → List ℕ → Type 0) → P 38 (codes "&amp;") → P 60 (codes "&lt;") → P 34 (codes "&quot;") → P 9 (codes "&#9;") → P 10 (codes "&#10;") → P 13 (codes "&#13;")
    → ((c : ℕ) → eqb c 38 ≡ false → eqb c 60 ≡ false → eqb c 34 ≡ false → eqb c 9 ≡ false → eqb c 10 ≡ false → eqb c 13 ≡ false → P c (c ∷ [])) → (c : ℕ) → P c (value_char c)
value_cases P amp less quote tab line return other c = by (eqb c 38) refl (eqb c 60) refl (eqb c 34) refl (eqb c 9) refl (eqb c 10) refl (eqb c 13) refl
  where
    at : (d : ℕ) (t : List ℕ) → P d t → eqb c d ≡ true → P c t
    at d t p is = subst (λ x. P x t) (sym (eqb-true c d is)) p

    by : (a : Bool) → eqb c 38 ≡ a → (l : Bool) → eqb c 60 ≡ l → (q : Bool) → eqb c 34 ≡ q → (t : Bool) → eqb c 9 ≡ t → (n : Bool) → eqb c 10 ≡ n → (r : Bool) → eqb c 13 ≡ r
        → P c (if a then codes "&amp;" else if l then codes "&lt;" else if q then codes "&quot;" else if t then codes "&#9;" else if n then codes "&#10;" else if r then codes "&#13;" else c ∷ [])
    by true a l la q qa t ta n na r ra = at 38 (codes "&amp;") amp a
    by false a true l q qa t ta n na r ra = at 60 (codes "&lt;") less l
    by false a false l true q t ta n na r ra = at 34 (codes "&quot;") quote q
    by false a false l false q true t n na r ra = at 9 (codes "&#9;") tab t
    by false a false l false q false t true n r ra = at 10 (codes "&#10;") line n
    by false a false l false q false t false n true r = at 13 (codes "&#13;") return r
    by false a false l false q false t false n false r = other c a l q t n r

value_writes : (c : ℕ) → Writes (value_char c) c
unfolding value_piece predefined is_space is_char is_name_start is_name_char
value_writes = value_cases (λ c t. Writes t c) (given (codes "&amp;") 38 (omega arith) (λ rest deeper entities names at w. refl)) (given (codes "&lt;") 60 (omega arith) (λ rest deeper entities names at w. refl))
    (given (codes "&quot;") 34 (omega arith) (λ rest deeper entities names at w. refl)) (given (codes "&#9;") 9 (omega arith) (λ rest deeper entities names at w. refl))
    (given (codes "&#10;") 10 (omega arith) (λ rest deeper entities names at w. refl)) (given (codes "&#13;") 13 (omega arith) (λ rest deeper entities names at w. refl))
    (λ c and less quote tab line return. itself_writes c (and_from (not (eqb c 38)) _ (not_from_false (eqb c 38) and) (and_from (not (eqb c 60)) _ (not_from_false (eqb c 60) less) (spaces c tab line return))))
  where
    given : (t : List ℕ) (c : ℕ) → 0 < length t → ((rest : List ℕ) → StandsFor (t ++ rest) c (length t)) → Writes t c
    given t c some stands = record { filled = some; stands = stands }

    spaces : (c : ℕ) → eqb c 9 ≡ false → eqb c 10 ≡ false → eqb c 13 ≡ false → (not (is_space c) || eqb c 32) ≡ true
    spaces c tab line return = by (is_space c) refl
      where
        within : (low high : ℕ) → (nat_le low c && nat_le c high) ≡ true → (low ≤ c) × (c ≤ high)
        within low high is = let p = and_parts (nat_le low c) (nat_le c high) is in (leb-true low c p.0, leb-true c high p.1)

        by : (b : Bool) → is_space c ≡ b → (not b || eqb c 32) ≡ true
        by false is = refl
        by true is =
            ⊎_elim (λ first. let p = within 9 10 first in absurd (not_two c tab line p))
            (λ more. ⊎_elim (λ second. let p = within 13 13 second in absurd (eqb-false c 13 return (omega (arith, p.0, p.1))))
            (λ last. ⊎_elim (λ third. let p = within 32 32 third in eq-eqb c 32 (omega (arith, p.0, p.1))) (λ none. absurd (false≢true none)) (or_cases (nat_le 32 c && nat_le c 32) false last))
            (or_cases (nat_le 13 c && nat_le c 13) _ more))
            (or_cases (nat_le 9 c && nat_le c 10) _ is)
          where
            not_two : (c : ℕ) → eqb c 9 ≡ false → eqb c 10 ≡ false → (9 ≤ c) × (c ≤ 10) → ⊥
            not_two c a b p = let n : c ≢ 9 = eqb-false c 9 a in let e : c ≡ 10 = omega (arith, p.0, p.1, n) in eqb-false c 10 b e

all_writes : (text : List ℕ) → AllByRecursion (λ c. Writes (value_char c) c) text
all_writes [] = tt
all_writes (c ∷ text) = (value_writes c, all_writes text)

-- the text of a value stands for it
pub value_back : (entities : List Entity) (names : List (List ℕ)) (spent : ℕ) (text : List ℕ) → value_of entities names spent (flat_map value_char text) ≡ Ok (record { text = text; spent = spent })
value_back entities names spent text = value_written value_char entities names spent text (all_writes text)

-- all characters of it pass a test
value_passes : (p : ℕ → Bool) → ((c : ℕ) → list_all p (value_char c) ≡ true) → (text : List ℕ) → list_all p (flat_map value_char text) ≡ true
value_passes p each [] = refl
value_passes p each (c ∷ text) = list_all-append p (value_char c) (flat_map value_char text) ∙ and_from (list_all p (value_char c)) (list_all p (flat_map value_char text)) (each c) (value_passes p each text)

pub value_unquoted : (text : List ℕ) → list_all (λ c. not (eqb c 34)) (flat_map value_char text) ≡ true
value_unquoted = value_passes (λ c. not (eqb c 34)) (value_cases (λ c t. list_all (λ c. not (eqb c 34)) t ≡ true) refl refl refl refl refl refl
    (λ c and less quote tab line return. and_from (not (eqb c 34)) true (not_from_false (eqb c 34) quote) refl))

pub value_direct : (text : List ℕ) → list_all (λ c. not (eqb c 60)) (flat_map value_char text) ≡ true
value_direct = value_passes (λ c. not (eqb c 60)) (value_cases (λ c t. list_all (λ c. not (eqb c 60)) t ≡ true) refl refl refl refl refl refl
    (λ c and less quote tab line return. and_from (not (eqb c 60)) true (not_from_false (eqb c 60) less) refl))

pub value_right : (text : List ℕ) → is_value (flat_map value_char text) ≡ true
unfolding is_value is_char is_name_start is_name_char
value_right [] = refl
value_right (c ∷ text) =
    value_cases (λ c t. (rest : List ℕ) → is_value (t ++ rest) ≡ is_value rest) (λ rest. refl) (λ rest. refl) (λ rest. refl) (λ rest. refl) (λ rest. refl) (λ rest. refl)
    (λ c and less quote tab line return rest. rw and refl) c (flat_map value_char text) ∙ value_right text

-- ---- characters of runs

-- a character that stands as it is written, in front of a rest
abbrev pub plain_of : ℕ → Bool
plain_of c = is_space c && not (eqb c 13)

-- a token that stands for the character, whatever follows that no `]]>` begins with
abbrev Tells : ℕ → List ℕ → Type 0
Tells c t = (rest : List ℕ) → starts_with nat_eq rest (codes "]>") ≡ false → (token : Token) × Begins token (t ++ rest) rest × (characters token ≡ Some (c ∷ [], plain_of c))

by_named : (name : List ℕ) (c : ℕ) → IsTrue (is_name name) → characters (named name) ≡ Some (c ∷ [], plain_of c) → Tells c (38 ∷ (name ++ codes ";"))
by_named name c is stands rest clear = (named name, (38 ∷ (name ++ codes ";"), (is, refl), tt, refl), stands)

run_cases : (P : ℕ → List ℕ → Type 0) → P 38 (codes "&amp;") → P 60 (codes "&lt;") → P 62 (codes "&gt;") → P 13 (codes "&#13;")
    → ((c : ℕ) → eqb c 38 ≡ false → eqb c 60 ≡ false → eqb c 62 ≡ false → eqb c 13 ≡ false → P c (c ∷ [])) → (c : ℕ) → P c (run_char c)
run_cases P amp less greater return other c = by (eqb c 38) refl (eqb c 60) refl (eqb c 62) refl (eqb c 13) refl
  where
    at : (d : ℕ) (t : List ℕ) → P d t → eqb c d ≡ true → P c t
    at d t p is = subst (λ x. P x t) (sym (eqb-true c d is)) p

    by : (a : Bool) → eqb c 38 ≡ a → (l : Bool) → eqb c 60 ≡ l → (g : Bool) → eqb c 62 ≡ g → (r : Bool) → eqb c 13 ≡ r
        → P c (if a then codes "&amp;" else if l then codes "&lt;" else if g then codes "&gt;" else if r then codes "&#13;" else c ∷ [])
    by true a l la g ga r ra = at 38 (codes "&amp;") amp a
    by false a true l g ga r ra = at 60 (codes "&lt;") less l
    by false a false l true g r ra = at 62 (codes "&gt;") greater g
    by false a false l false g true r = at 13 (codes "&#13;") return r
    by false a false l false g false r = other c a l g r

pub run_tells : (c : ℕ) → Tells c (run_char c)
unfolding predefined is_char is_space is_name_start is_name_char
run_tells = run_cases Tells (by_named (codes "amp") 38 refl refl) (by_named (codes "lt") 60 refl refl) (by_named (codes "gt") 62 refl refl)
    (λ rest clear. (coded 13, (codes "&#13;", (codes "13", omega arith, refl, inl (refl, refl, refl)), tt, refl), refl))
    (λ c and less greater return rest clear. (
      letter c,
      (c ∷ [], (eqb-false c 60 less, eqb-false c 38 and, refl), ap (λ (b : Bool). eqb 93 c && b) clear ∙ never (eqb 93 c), refl),
      ap (λ (b : Bool). Some (c ∷ [], b)) (sym (ap (λ (b : Bool). is_space c && not b) return ∙ and_true (is_space c))),
    ))
  where
    never : (b : Bool) → (b && false) ≡ false
    never true = refl
    never false = refl

    and_true : (b : Bool) → (b && true) ≡ b
    and_true true = refl
    and_true false = refl

-- no `>` and no `]>` stands behind such characters, in front of markup
no_greater : (text rest : List ℕ) → Seam rest → starts_with nat_eq (flat_map run_char text ++ rest) (codes ">") ≡ false
no_greater [] [] seam = refl
no_greater [] (c ∷ rest) seam = ap (λ (d : ℕ). starts_with nat_eq (d ∷ rest) (codes ">")) seam
no_greater (c ∷ text) rest seam =
    ap (λ (t : List ℕ). starts_with nat_eq t (codes ">")) (append_assoc (run_char c) (flat_map run_char text) rest)
    ∙ run_cases (λ c t. (more : List ℕ) → starts_with nat_eq (t ++ more) (codes ">") ≡ false) (λ more. refl) (λ more. refl) (λ more. refl) (λ more. refl)
    (λ c and less greater return more. ap (λ (b : Bool). b && true) (swapped c 62 greater)) c (flat_map run_char text ++ rest)
  where
    swapped : (c d : ℕ) → eqb c d ≡ false → eqb d c ≡ false
    swapped c d is = ne_eqb d c (λ same. eqb-false c d is (sym same))

pub clear_behind : (text rest : List ℕ) → Seam rest → starts_with nat_eq (flat_map run_char text ++ rest) (codes "]>") ≡ false
clear_behind [] [] seam = refl
clear_behind [] (c ∷ rest) seam = ap (λ (d : ℕ). starts_with nat_eq (d ∷ rest) (codes "]>")) seam
clear_behind (c ∷ text) rest seam =
    ap (λ (t : List ℕ). starts_with nat_eq t (codes "]>")) (append_assoc (run_char c) (flat_map run_char text) rest)
    ∙ run_cases (λ c t. (more : List ℕ) → starts_with nat_eq more (codes ">") ≡ false → starts_with nat_eq (t ++ more) (codes "]>") ≡ false) (λ more none. refl) (λ more none. refl) (λ more none. refl) (λ more none. refl)
    (λ c and less greater return more none. ap (λ (b : Bool). eqb 93 c && b) none ∙ never (eqb 93 c)) c (flat_map run_char text ++ rest) (no_greater text rest seam)
  where
    never : (b : Bool) → (b && false) ≡ false
    never true = refl
    never false = refl

-- a decimal reference to white space
pub space_coded : (c : ℕ) (rest : List ℕ) → is_char c ≡ true → is_space c ≡ true → Begins (coded c) (decimal_reference c ++ rest) rest
space_coded c rest is space =
    let small = space_small c space in
    let w = decimal_written c (omega (arith, small)) in
    (decimal_reference c, (decimal c, w.filled, is, inl (w.digits, w.value, refl)), tt, refl)

-- white space without CR is written as it stands, in both manners
pub plain_written : (text : List ℕ) → list_all is_space text ≡ true → list_all (λ c. not (eqb c 13)) text ≡ true → map line_end text ≡ flat_map run_char text
unfolding is_space
plain_written [] all none = refl
plain_written (c ∷ text) all none =
    let a = and_parts (is_space c) (list_all is_space text) all in
    let n = and_parts (not (eqb c 13)) (list_all (λ c. not (eqb c 13)) text) none in
    run_cases (λ c t. is_space c ≡ true → not (eqb c 13) ≡ true → line_end c ∷ map line_end text ≡ t ++ flat_map run_char text)
    (λ s m. absurd (false≢true s)) (λ s m. absurd (false≢true s)) (λ s m. absurd (false≢true s)) (λ s m. absurd (false≢true m))
    (λ c and less greater return s m. ap (λ (b : Bool). (if b then 10 else c) ∷ map line_end text) return ∙ ap (λ t. c ∷ t) (plain_written text a.1 n.1)) c a.0 n.0
