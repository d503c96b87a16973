-- The token that is computed is the one with which the text begins.
use Rattle.std.proofs.Common.{◌≡◌, ◌∙◌, ℕ, List, [], ◌∷◌, ◌++◌, length, drop, true, false, Option, Some, None, refl, ap, sym, subst, arith, append_assoc, codes, inl, inr}
use Rattle.std.specs.Prelude.{nat_eq, option_map, ◌==◌}
use Rattle.std.specs.List.{starts_with}
use Rattle.std.proofs.lemmas.Bool.{eqb-true, eqb-false}
use Rattle.jats_chars.specs.Classes.{is_space}
use Rattle.jats_chars.specs.Names.{is_name}
use Rattle.dtd_scanner.specs.Items.{first_is, is_xml}
use Rattle.dtd_scanner.specs.References.{char_reference}
use Rattle.dtd_scanner.proofs.Runs.{starts_found, run_ends}
use Rattle.text_fronts.specs.Fronts.{skipped, read_space, read_name}
use Rattle.text_fronts.proofs.Fronts.{and_then_some, map_some, if_some, choose, skipped_split}
use Rattle.text_fronts.proofs.Sound.{space_sound}
use Rattle.article_tree.specs.Tokens.{Token, letter, section, coded, named, remark, instruction, start, stop, IsInstruction, IsToken, Allows, Begins}
use Rattle.article_tree.specs.Taking.{behind, up_to, take_named, take_reference, take_tag, take_stop, take_remark, closed_or, with_body, take_instruction, take_section, take_markup, first_token}
use Rattle.article_tree.proofs.Marks.{behind_found, up_to_found, remark_apart}
use Rattle.article_tree.proofs.Tags.{name_found, tag_found}
use Rattle.article_tree.proofs.Codes.{coded_found}

-- a token at the front, behind this text
abbrev Found : List ℕ → Token × List ℕ → Type 0
Found text x = (front : List ℕ) × IsToken x.0 front × Allows x.0 x.1 × (text ≡ front ++ x.1)

-- the mark, a body and an end, and what follows
regrouped : (mark body end rest : List ℕ) → mark ++ (body ++ (end ++ rest)) ≡ (mark ++ (body ++ end)) ++ rest
regrouped mark body end rest = sym (simp append_assoc)

stop_found : (text : List ℕ) (x : Token × List ℕ) → take_stop text ≡ Some x → Found (codes "</" ++ text) x
stop_found text x e =
    let h = and_then_some (λ (x : List ℕ × List ℕ). option_map (λ rest. (stop x.0, rest)) (behind (codes ">") (skipped x.1))) (read_name text) x e in
    let m = map_some (λ (rest : List ℕ). (stop h.0.0, rest)) (behind (codes ">") (skipped h.0.1)) x h.2 in
    let name = name_found text h.0 h.1 in
    let s = skipped_split h.0.1 in
    let whole : codes "</" ++ text ≡ codes "</" ++ (h.0.0 ++ (s.0 ++ (codes ">" ++ m.0))) = ap (λ t. codes "</" ++ t) (name.0 ∙ ap (λ t. h.0.0 ++ t) (s.2 ∙ ap (λ t. s.0 ++ t) (behind_found (codes ">") (skipped h.0.1) m.0 m.1))) in
    let front = codes "</" ++ (h.0.0 ++ (s.0 ++ codes ">")) in
    let same : codes "</" ++ (h.0.0 ++ (s.0 ++ (codes ">" ++ m.0))) ≡ front ++ m.0 = sym (simp append_assoc) in
    subst (Found (codes "</" ++ text)) m.2 (front, (s.0, name.1, s.1, refl), tt, whole ∙ same)

named_found : (text : List ℕ) (x : Token × List ℕ) → take_named text ≡ Some x → Found (38 ∷ text) x
named_found text x e =
    let h = and_then_some (λ (x : List ℕ × List ℕ). option_map (λ rest. (named x.0, rest)) (behind (codes ";") x.1)) (read_name text) x e in
    let m = map_some (λ (rest : List ℕ). (named h.0.0, rest)) (behind (codes ";") h.0.1) x h.2 in
    let name = name_found text h.0 h.1 in
    let whole : 38 ∷ text ≡ 38 ∷ (h.0.0 ++ (codes ";" ++ m.0)) = ap (λ (t : List ℕ). 38 ∷ t) (name.0 ∙ ap (λ t. h.0.0 ++ t) (behind_found (codes ";") h.0.1 m.0 m.1)) in
    subst (Found (38 ∷ text)) m.2 (38 ∷ (h.0.0 ++ codes ";"), (name.1, refl), tt, whole ∙ regrouped (codes "&") h.0.0 (codes ";") m.0)

reference_found : (text : List ℕ) (x : Token × List ℕ) → take_reference (38 ∷ text) ≡ Some x → Found (38 ∷ text) x
reference_found text x e =
    choose (Found (38 ∷ text) x) (starts_with nat_eq (38 ∷ text) (codes "&#")) (option_map (λ r. (coded r.0, drop r.1 (38 ∷ text))) (char_reference (38 ∷ text))) (take_named text) x e
    (λ begins f.
    let m = map_some (λ (r : ℕ × ℕ). (coded r.0, drop r.1 (38 ∷ text))) (char_reference (38 ∷ text)) x f in
    let h = coded_found (38 ∷ text) m.0 begins m.1 in
    subst (Found (38 ∷ text)) m.2 (h.0, h.1, tt, h.2))
    (λ none f. named_found text x f)

remark_found : (text : List ℕ) (x : Token × List ℕ) → take_remark text ≡ Some x → Found (codes "<!--" ++ text) x
remark_found text x e =
    let h = and_then_some (λ (x : List ℕ × List ℕ). option_map (λ rest. (remark x.0, rest)) (behind (codes ">") x.1)) (up_to (codes "--") text) x e in
    let m = map_some (λ (rest : List ℕ). (remark h.0.0, rest)) (behind (codes ">") h.0.1) x h.2 in
    let u = up_to_found (codes "--") text h.0 (omega arith) h.1 in
    let whole : codes "<!--" ++ text ≡ codes "<!--" ++ (h.0.0 ++ (codes "-->" ++ m.0)) = ap (λ t. codes "<!--" ++ t) (u.0 ∙ ap (λ t. h.0.0 ++ (codes "--" ++ t)) (behind_found (codes ">") h.0.1 m.0 m.1)) in
    subst (Found (codes "<!--" ++ text)) m.2 (codes "<!--" ++ (h.0.0 ++ codes "-->"), (u.1, remark_apart text h.0 h.1, refl), tt, whole ∙ regrouped (codes "<!--") h.0.0 (codes "-->") m.0)

section_found : (text : List ℕ) (x : Token × List ℕ) → take_section text ≡ Some x → Found (codes "<![CDATA[" ++ text) x
section_found text x e =
    let m = map_some (λ (x : List ℕ × List ℕ). (section x.0, x.1)) (up_to (codes "]]>") text) x e in
    let u = up_to_found (codes "]]>") text m.0 (omega arith) m.1 in
    subst (Found (codes "<![CDATA[" ++ text)) m.2
    (codes "<![CDATA[" ++ (m.0.0 ++ codes "]]>"), (u.1, refl), tt, ap (λ t. codes "<![CDATA[" ++ t) u.0 ∙ regrouped (codes "<![CDATA[") m.0.0 (codes "]]>") m.0.1)

-- a front of what does not begin with white space
front_plain : (body rest : List ℕ) → first_is is_space (body ++ rest) ≡ false → first_is is_space body ≡ false
front_plain [] rest none = refl
front_plain (c ∷ body) rest none = none

space_over : (text rest : List ℕ) → read_space text ≡ Some rest → first_is is_space rest ≡ false
unfolding skipped
space_over [] rest e = cc
space_over (c ∷ cs) rest e =
    let h = if_some (is_space c) (Some (skipped cs)) rest e in
    let same : skipped cs ≡ rest = (let f = h.1 in cc) in
    ap (first_is is_space) (sym same) ∙ run_ends is_space cs

instruction_found : (text : List ℕ) (x : Token × List ℕ) → take_instruction text ≡ Some x → Found (codes "<?" ++ text) x
instruction_found text x e =
    let h = and_then_some with_body (read_name text) x e in
    let name = name_found text h.0 h.1 in
    choose (Found (codes "<?" ++ text) x) (is_xml h.0.0) None (closed_or h.0.0 h.0.1 (behind (codes "?>") h.0.1)) x h.2 (λ is f. cc)
    (λ other f. by h.0 name.0 name.1 other (behind (codes "?>") h.0.1) refl f)
  where
    by : (y : List ℕ × List ℕ) → text ≡ y.0 ++ y.1 → is_name y.0 ≡ true → is_xml y.0 ≡ false → (o : Option (List ℕ)) → behind (codes "?>") y.1 ≡ o → closed_or y.0 y.1 o ≡ Some x → Found (codes "<?" ++ text) x
    by y split is other (Some rest) closes e =
        let same : (instruction y.0 [], rest) ≡ x = cc in
        let front = codes "<?" ++ (y.0 ++ codes "?>") in
        let token : IsInstruction front y.0 [] = record { is_named = is; is_other = other; is_behind = refl; is_inside = (λ holds. nothing_holds holds.0 holds.1 holds.2); form = inl (refl, refl) } in
        subst (Found (codes "<?" ++ text)) same (front, token, tt, ap (λ t. codes "<?" ++ t) (split ∙ ap (λ t. y.0 ++ t) (behind_found (codes "?>") y.1 rest closes)) ∙ regrouped (codes "<?") y.0 (codes "?>") rest)
      where
        nothing_holds : (before after : List ℕ) → [] ≡ before ++ (codes "?>" ++ after) → ⊥
        nothing_holds [] after e = cc
        nothing_holds (c ∷ before) after e = cc
    by y split is other None closes e =
        let h = and_then_some (λ (t : List ℕ). option_map (λ (x : List ℕ × List ℕ). (instruction y.0 x.0, x.1)) (up_to (codes "?>") t)) (read_space y.1) x e in
        let m = map_some (λ (x : List ℕ × List ℕ). (instruction y.0 x.0, x.1)) (up_to (codes "?>") h.0) x h.2 in
        let s = space_sound y.1 h.0 h.1 in
        let u = up_to_found (codes "?>") h.0 m.0 (omega arith) m.1 in
        let plain : first_is is_space m.0.0 ≡ false = front_plain m.0.0 (codes "?>" ++ m.0.1) (sym (ap (first_is is_space) u.0) ∙ space_over y.1 h.0 h.1) in
        let front = codes "<?" ++ (y.0 ++ (s.0 ++ (m.0.0 ++ codes "?>"))) in
        let token : IsInstruction front y.0 m.0.0 = record { is_named = is; is_other = other; is_behind = plain; is_inside = u.1; form = inr (s.0, s.2, refl) } in
        let whole : codes "<?" ++ text ≡ codes "<?" ++ (y.0 ++ (s.0 ++ (m.0.0 ++ (codes "?>" ++ m.0.1)))) = ap (λ t. codes "<?" ++ t) (split ∙ ap (λ t. y.0 ++ t) (s.1 ∙ ap (λ t. s.0 ++ t) u.0)) in
        let same : codes "<?" ++ (y.0 ++ (s.0 ++ (m.0.0 ++ (codes "?>" ++ m.0.1)))) ≡ front ++ m.0.1 = sym (simp append_assoc) in
        subst (Found (codes "<?" ++ text)) m.2 (front, token, tt, whole ∙ same)

tag_is_found : (text : List ℕ) (x : Token × List ℕ) → take_tag text ≡ Some x → Found (60 ∷ text) x
tag_is_found text x e =
    let h = tag_found text x e in
    let found : Found (60 ∷ text) (start h.0, x.1) = (h.1, h.3, tt, h.4) in
    subst (λ t. Found (60 ∷ text) (t, x.1)) (sym h.2) found

-- the mark, and what was read behind it
marked : (mark text : List ℕ) (x : Token × List ℕ) → starts_with nat_eq text mark ≡ true → Found (60 ∷ (mark ++ drop (length mark) text)) x → Found (60 ∷ text) x
marked mark text x begins found = subst (λ t. Found (60 ∷ t) x) (sym (starts_found mark text begins)) found

markup_found : (text : List ℕ) (x : Token × List ℕ) → take_markup text ≡ Some x → Found (60 ∷ text) x
markup_found text x e =
    let P = Found (60 ∷ text) x in
    choose P (starts_with nat_eq text (codes "/")) (take_stop (drop 1 text)) _ x e (λ b f. marked (codes "/") text x b (stop_found (drop 1 text) x f)) (λ n e.
    choose P (starts_with nat_eq text (codes "!--")) (take_remark (drop 3 text)) _ x e (λ b f. marked (codes "!--") text x b (remark_found (drop 3 text) x f)) (λ n e.
    choose P (starts_with nat_eq text (codes "?")) (take_instruction (drop 1 text)) _ x e (λ b f. marked (codes "?") text x b (instruction_found (drop 1 text) x f)) (λ n e.
    choose P (starts_with nat_eq text (codes "![CDATA[")) (take_section (drop 8 text)) (take_tag text) x e (λ b f. marked (codes "![CDATA[") text x b (section_found (drop 8 text) x f))
    (λ n e. tag_is_found text x e))))

pub taken : (token : Token) (text rest : List ℕ) → first_token text ≡ Some (token, rest) → Begins token text rest
unfolding first_token
taken token [] rest e = (let f : None ≡ Some (token, rest) = e in cc)
taken token (c ∷ cs) rest e =
    let P = Begins token (c ∷ cs) rest in
    choose P (c == 38) (take_reference (c ∷ cs)) _ (token, rest) e
    (λ is f. let same : c ≡ 38 = eqb-true c 38 is in subst (λ d. Begins token (d ∷ cs) rest) (sym same) (reference_found cs (token, rest) (ap (λ d. take_reference (d ∷ cs)) (sym same) ∙ f))) (λ and e.
    choose P (c == 60) (take_markup cs) _ (token, rest) e
    (λ is f. let same : c ≡ 60 = eqb-true c 60 is in subst (λ d. Begins token (d ∷ cs) rest) (sym same) (markup_found cs (token, rest) f)) (λ less e.
    choose P (starts_with nat_eq (c ∷ cs) (codes "]]>")) None (Some (letter c, cs)) (token, rest) e (λ begins f. cc)
    (λ apart f.
    let same : (letter c, cs) ≡ (token, rest) = cc in
    let begins : Begins (letter c) (c ∷ cs) cs = (c ∷ [], (eqb-false c 60 less, eqb-false c 38 and, refl), apart, refl) in
    subst (λ (x : Token × List ℕ). Begins x.0 (c ∷ cs) x.1) same begins)))
